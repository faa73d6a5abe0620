-- `patternsets::fill_gate` meets its contract: one set's words fill the first half, the other's the second. Assumes nothing.
use mathlib.Core.Path.{ap₂, ◌∙◌}
use mathlib.Core.List.{List, ◌++◌}
use Prim.Native.Nat.{ℕ}
use native.Mathlib.Omega.{arith}
use Rattle.patternsets.proofs.BufferSteps.{row-is}
use Rattle.patternsets.proofs.fill_gate.Goals as goal

pub returns : goal.returns
returns c =
    let a = c.args in
    ap₂ (λ (x y : List ℕ). x ++ y) (c.copy_from_slice.ensures.after ∙ row-is a.odcs.now a.w a.g (omega arith)) (c.copy_from_slice-2.ensures.after ∙ row-is a.sets.now a.w a.g (omega arith))
