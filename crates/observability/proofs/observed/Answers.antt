-- `observability::observed` meets its contract. Assumes nothing.
use mathlib.Core.Path.{refl, ap, ◌∙◌}
use Prim.Native.Nat.{ℕ}
use native.Mathlib.Omega.{arith}
use lib.ListN.{get_or, get_or-replicate}
use Rattle.bits.specs.Bounds.{row_words}
use Rattle.bits.specs.Bit.{bit}
use Rattle.bits.proofs.BitLaws.{bit-zero}
use Rattle.observability.proofs.OdcLaws.{observed-step}
use Rattle.observability.proofs.observed.Goals as goal

pub loop-i-init : goal.loop-i-init
loop-i-init c =
    (refl, λ w b h k. ap (λ (x : ℕ). bit x b) (get_or-replicate {A = ℕ} row_words w 0 0 (omega arith)) ∙ bit-zero b)

pub loop-i-preserved : goal.loop-i-preserved
loop-i-preserved c =
    let a = c.args in (
      c.differing.ensures.0,
      λ w b hw hb. observed-step a.outputs.now a.rows.now a.other.now w b (get_or c.loop-i.l w 0) _ c.loop-i.i c.from-s.result c.from-s.ensures (c.differing.ensures.1 w hw) (c.loop-i.invariant.1 w b hw hb),
    )
