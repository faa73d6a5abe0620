use mathlib.Core.Path.{refl, ◌∙◌}
use native.Mathlib.Omega.{arith}
use Rattle.network.specs.Bounds.{excluded_words}
use Rattle.network.specs.Tests.{excluded_test}
use Rattle.network.proofs.TestLaws.{handed-on}
use Rattle.state.proofs.TestSteps.{row-refused, row-passed, row-ended}
use Rattle.state.proofs.excluded_test.Goals as goal

pub loop-w-init : goal.loop-w-init
unfolding excluded_test
loop-w-init c = refl

pub returns-in_err-word_test : goal.returns-in_err-word_test
returns-in_err-word_test c = handed-on c.from_residual.ensures.1 (row-refused _ c.loop-w.w excluded_words (omega arith) c.word_test.ensures c.in_err-word_test.was ∙ c.loop-w.invariant)

pub loop-w-preserved : goal.loop-w-preserved
loop-w-preserved c = row-passed _ c.loop-w.w excluded_words (omega arith) c.word_test.ensures c.in_ok-word_test.was ∙ c.loop-w.invariant

pub returns : goal.returns
returns c = row-ended _ c.loop-w.w excluded_words (omega arith) ∙ c.loop-w.invariant
