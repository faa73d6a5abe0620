-- `is_numeral`. Assumes nothing.
use mathlib.Core.Path.{◌∙◌}
use Rattle.ordertext.proofs.Numerals.{numeral-short, numeral-long, numeral-sized}
use Rattle.ordertext.proofs.is_numeral.Goals as goal

pub returns-then-w-lt1 : goal.returns-then-w-lt1
returns-then-w-lt1 c = let a = c.args in numeral-short a.base a.most a.w.now c.if-w-lt1.true

pub returns-then-most-w : goal.returns-then-most-w
returns-then-most-w c = let a = c.args in numeral-long a.base a.most a.w.now c.if-w-lt1.false c.if-most-w.true

pub returns : goal.returns
returns c =
    let a = c.args in
    c.all_digits.ensures ∙ numeral-sized a.base a.most a.w.now c.if-w-lt1.false c.if-most-w.false
