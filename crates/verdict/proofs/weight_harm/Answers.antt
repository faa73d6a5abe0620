-- What is left from word w on has the answer of all words. Assumes nothing.
use mathlib.Core.Path.{◌≡◌, ◌∙◌}
use Rattle.network.proofs.TestLaws.{handed-on}
use Rattle.verdict.specs.Changed.{word_harm, harmed_at, at_weight}
use Rattle.verdict.proofs.Turns.{words-found, words-next}
use Rattle.verdict.proofs.ByWeight.{weight-start}
use Rattle.verdict.proofs.HarmWords.{word-harmed}
use Rattle.verdict.proofs.weight_harm.Goals as goal
use Rattle.verdict.proofs.weight_harm.Goals.{After-word_harm}

pub loop-w-init : goal.loop-w-init
loop-w-init c = weight-start _ _ _ _

-- the answer of a word, by the test of this weight
answer : (c : After-word_harm) →
    let a = c.args in
    c.word_harm.result ≡ word_harm (at_weight a.c (harmed_at a.harmed.now a.outs.now a.xs.now a.ys.now)) a.p c.loop-w.w
answer c =
    let a = c.args in
    c.word_harm.ensures ∙ word-harmed a.harmed.now a.outs.now a.xs.now a.ys.now a.p a.c c.loop-w.w

pub returns-in_err-word_harm : goal.returns-in_err-word_harm
returns-in_err-word_harm c =
    handed-on c.from_residual.ensures.1 (words-found _ _ _ _ c.loop-w-test.true _ (answer (goal.at.returns-in_err-word_harm c).After-word_harm) c.in_err-word_harm.was ∙ c.loop-w.invariant)

pub loop-w-preserved : goal.loop-w-preserved
loop-w-preserved c =
    words-next _ _ _ _ c.loop-w-test.true _ (answer (goal.at.loop-w-preserved c).After-word_harm) c.in_ok-word_harm.was ∙ c.loop-w.invariant
