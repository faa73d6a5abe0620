-- Where no place is to be looked at there is no harm; else those of the weight are searched. Assumes nothing.
use mathlib.Core.Path.{◌∙◌}
use Rattle.verdict.proofs.HarmWords.{no-keep, no-held, word-weight}
use Rattle.verdict.proofs.word_harm.Goals as goal

pub returns-then-held-eq0 : goal.returns-then-held-eq0
returns-then-held-eq0 c = no-held _ _ _ _ _ _ _ c.if-held-eq0.true

pub returns-then-keep-eq0 : goal.returns-then-keep-eq0
returns-then-keep-eq0 c =
    no-keep _ _ _ _ _ _ c.if-keep-eq0.true ∙ word-weight _ _ _ _ _ _ _ _ c.requires.w_lt_row_words c.weight_word.ensures

pub returns : goal.returns
returns c = c.search.ensures ∙ word-weight _ _ _ _ _ _ _ _ c.requires.w_lt_row_words c.weight_word.ensures
