use mathlib.Core.Path.{◌≡◌}
use Prim.Native.Nat.{ℕ, ◌<◌}
use lib.ListN.{length, get_or}
use Rattle.bits.specs.Bit.{bit}
use Rattle.network.specs.Bounds.{most_signals, signal_words}
use Rattle.simulate.specs.Simulated.{words_at}
use Rattle.compatible.specs.Words.{outputs_leave}
use Rattle.compatible.proofs.BackwardSteps.{left}
use Rattle.compatible.proofs.sets.intersected.Given as goal

abbrev pub invariant-loop-g : goal.invariant-loop-g
invariant-loop-g l =
    (length l.hs ≡ signal_words)
    × ((w b s : ℕ) → w < l.count → b < 64 → s < most_signals → bit (get_or (words_at l.hs w) s 0) b ≡ left l.arity l.fanins l.tables (words_at l.rows w) (outputs_leave l.outs l.p (bit (get_or l.excluded w 0) b)) l.n l.m b l.g s)
