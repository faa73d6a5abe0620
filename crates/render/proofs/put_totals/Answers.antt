-- `put_totals`: the word and two numbers. Assumes nothing.
use native.Mathlib.Omega.{arith}
use Rattle.text.proofs.Digits.{number-within}
use Rattle.render.proofs.Pieces.{totals-laid}
use Rattle.render.proofs.put_totals.Goals as goal

pub put_number-requires : goal.put_number-requires
put_number-requires c =
    let n = number-within _ _ c.put_number-b.ensures in
    let w = c.copy-a.ensures.behind in
    omega arith

pub returns : goal.returns
returns c =
    totals-laid _ _ c.copy-a.ensures c.put_number-b.ensures c.put_number.ensures
