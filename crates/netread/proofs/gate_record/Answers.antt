-- `gate_record`: the kind decides which form's tests are due. Assumes nothing.
use mathlib.Core.Path.{ap, ◌∙◌}
use native.Mathlib.Omega.{arith}
use Rattle.network.proofs.TestLaws.{handed-on}
use Rattle.netread.specs.Kind.{not_due}
use Rattle.netread.proofs.Marks.{no-kind, other-kind}
use Rattle.netread.proofs.Records.{narrow-record, wide-record, no-gate}
use Rattle.netread.proofs.gate_record.Goals as goal

pub returns-in_err-kind_at : goal.returns-in_err-kind_at
returns-in_err-kind_at c =
    let q = c.in_err-kind_at.was in
    handed-on c.from_residual.ensures.1 (no-gate _ _ _ c.kind_at.ensures (ap not_due q) (no-kind q) (no-kind q))

pub returns-in-Gate : goal.returns-in-Gate
returns-in-Gate c = c.gate_fields.ensures ∙ narrow-record _ _ _ c.kind_at.ensures c.in_ok-kind_at.was c.in-Gate.is

pub returns-in-WideGate : goal.returns-in-WideGate
returns-in-WideGate c = c.gate_fields-in-WideGate.ensures ∙ wide-record _ _ _ c.kind_at.ensures c.in_ok-kind_at.was c.in-WideGate.is

pub returns-in-Header : goal.returns-in-Header
returns-in-Header c =
    let q = c.in_ok-kind_at.was in
    let s = c.in-Header.is in
    no-gate _ _ _ c.kind_at.ensures (ap not_due q) (other-kind q (λ g. grind arith)) (other-kind q (λ g. grind arith))
