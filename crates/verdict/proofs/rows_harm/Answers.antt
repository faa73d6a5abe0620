-- The search by weight over the harmed words is that of the definition. Assumes nothing.
use mathlib.Core.Path.{◌∙◌}
use Rattle.verdict.proofs.HarmWords.{rows-some, rows-none}
use Rattle.verdict.proofs.rows_harm.Goals as goal

pub returns-then-none : goal.returns-then-none
returns-then-none c =
    rows-none _ _ _ _ _ _ _ c.requires.framed.0 c.requires.framed.1 c.harm_words-harmed.ensures (c.none.ensures.0 c.if-none.true)

pub returns : goal.returns
returns c =
    c.lightest_harm.ensures ∙ rows-some _ _ _ _ _ _ _ c.requires.framed.0 c.requires.framed.1 c.harm_words-harmed.ensures
