use mathlib.Core.Path.{◌∙◌}
use native.Mathlib.Omega.{arith}
use Rattle.network.proofs.TestLaws.{handed-on}
use Rattle.state.proofs.TestSteps.{row-refused, row-passed, row-ended}
use Rattle.state.proofs.outputs_test.Goals as goal

pub returns-in_err-output_test : goal.returns-in_err-output_test
returns-in_err-output_test c = handed-on c.from_residual.ensures.1 (row-refused _ c.loop-i.i _ (omega arith) c.output_test.ensures c.in_err-output_test.was ∙ c.loop-i.invariant)

pub loop-i-preserved : goal.loop-i-preserved
loop-i-preserved c = row-passed _ c.loop-i.i _ (omega arith) c.output_test.ensures c.in_ok-output_test.was ∙ c.loop-i.invariant

pub returns : goal.returns
returns c = row-ended _ c.loop-i.i _ (omega arith) ∙ c.loop-i.invariant
