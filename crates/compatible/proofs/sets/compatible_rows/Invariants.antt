use mathlib.Core.Path.{◌≡◌}
use mathlib.Core.Bool.{◌&&◌}
use Prim.Native.Nat.{ℕ, ◌<◌}
use lib.Dec.{leb}
use lib.ListN.{length, get_or}
use Rattle.bits.specs.Bit.{bit, column}
use Rattle.network.specs.Bounds.{most_signals, signal_words}
use Rattle.network.specs.Compatible.{compatible_from}
use Rattle.network.specs.Flat.{gates_of}
use Rattle.simulate.specs.Simulated.{words_at}
use Rattle.compatible.specs.Words.{outputs_leave}
use Rattle.compatible.proofs.sets.compatible_rows.Given as goal

abbrev pub invariant-loop-i : goal.invariant-loop-i
invariant-loop-i l =
    (length l.hs ≡ signal_words)
    × ((w : ℕ) → w < l.count → (b : ℕ) → b < 64 → (s : ℕ) → s < most_signals
    → bit (get_or (words_at l.hs w) s 0) b ≡ (leb l.i s && compatible_from (outputs_leave l.outs l.p (bit (get_or l.excluded w 0) b)) (column (words_at l.rows w) b) l.n (gates_of l.arity l.fanins l.tables l.m) s))
