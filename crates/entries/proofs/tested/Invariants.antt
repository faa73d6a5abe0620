use mathlib.Core.Path.{◌≡◌}
use mathlib.Core.Bool.{◌&&◌, ◌||◌}
use Prim.Native.Nat.{ℕ}
use Rattle.bits.specs.Bit.{bit}
use Rattle.entries.specs.By.{shares}
use Rattle.entries.proofs.tested.Given as goal

abbrev pub invariant-loop-left : goal.invariant-loop-left
invariant-loop-left l = (t : ℕ) → (bit l.found t || (bit l.left t && shares l.low l.high t)) ≡ (bit l.given t && shares l.low l.high t)

abbrev pub decreases-loop-left : goal.decreases-loop-left
decreases-loop-left l = l.left
