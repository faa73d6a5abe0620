use mathlib.Core.Path.{◌≡◌}
use Prim.Native.Nat.{ℕ, ◌<◌}
use lib.ListN.{length, get_or}
use Rattle.bits.specs.Bounds.{row_words}
use Rattle.simulate.proofs.fill_row.Given as goal

abbrev pub invariant-loop-w : goal.invariant-loop-w
invariant-loop-w g l = (length l.out ≡ row_words) × ((k : ℕ) → k < l.w → goal.F-post g l.word k (get_or l.out k 0))
