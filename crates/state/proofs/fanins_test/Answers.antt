use mathlib.Core.Path.{◌∙◌}
use native.Mathlib.Nat.{sub-zero}
use native.Mathlib.Omega.{arith}
use Rattle.network.specs.Tests.{fanins_test}
use Rattle.network.proofs.TestLaws.{handed-on}
use Rattle.state.proofs.TestSteps.{row-refused, row-passed, row-ended}
use Rattle.state.proofs.fanins_test.Goals as goal

pub loop-j-init : goal.loop-j-init
unfolding fanins_test
loop-j-init c = rw sub-zero

pub returns-in_err-fanin_test : goal.returns-in_err-fanin_test
returns-in_err-fanin_test c = handed-on c.from_residual.ensures.1 (row-refused _ c.loop-j.j _ (omega arith) c.fanin_test.ensures c.in_err-fanin_test.was ∙ c.loop-j.invariant)

pub loop-j-preserved : goal.loop-j-preserved
loop-j-preserved c = row-passed _ c.loop-j.j _ (omega arith) c.fanin_test.ensures c.in_ok-fanin_test.was ∙ c.loop-j.invariant

pub returns : goal.returns
returns c = row-ended _ c.loop-j.j _ (omega arith) ∙ c.loop-j.invariant
