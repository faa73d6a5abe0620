use mathlib.Core.Path.{◌≡◌}
use Prim.Native.Nat.{ℕ, ◌<◌}
use lib.ListN.{get_or}
use Rattle.bits.specs.Range.{every}
use Rattle.bits.specs.Bit.{bit}
use Rattle.blifline.specs.Rows.{marked}
use Rattle.blifline.proofs.rows.row_word.Given as goal

abbrev pub invariant-loop-r : goal.invariant-loop-r
invariant-loop-r l = ((t : ℕ) → t < 64 → bit l.w t ≡ every l.r (λ i. marked (get_or l.row i 0) i t))
