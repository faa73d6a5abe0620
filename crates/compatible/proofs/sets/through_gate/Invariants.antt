use mathlib.Core.Path.{◌≡◌}
use mathlib.Core.Bool.{◌&&◌}
use mathlib.Core.List.{List}
use Prim.Native.Nat.{ℕ, ◌<◌}
use lib.ListN.{length, get_or}
use Rattle.bits.specs.Bounds.{row_words}
use Rattle.bits.specs.Range.{every}
use Rattle.bits.specs.Bit.{bit, column}
use Rattle.network.specs.Bounds.{signal_words}
use Rattle.network.specs.Net.{entry}
use Rattle.network.specs.Flat.{gate_at}
use Rattle.simulate.specs.Simulated.{words_at}
use Rattle.compatible.specs.Words.{edge}
use Rattle.compatible.proofs.sets.through_gate.Given as goal

abbrev pub invariant-loop-r : goal.invariant-loop-r
invariant-loop-r l =
    (length l.free ≡ row_words) × (length l.hs ≡ signal_words)
    × ((ts : List ℕ) (w b s : ℕ) → w < l.count → b < 64
    → bit (get_or (words_at l.hs w) s 0) b ≡ (bit (get_or (words_at l.initial.hs w) s 0) b && every l.r (edge l.fanins l.edges l.g (get_or l.own w 0) b (entry (column (words_at l.rows w) b) (gate_at l.arity l.fanins ts l.g)) s)))
