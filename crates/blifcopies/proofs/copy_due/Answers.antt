-- `copy_due`: an input, else among the earlier outputs. Assumes nothing.
use Rattle.blifcopies.proofs.Growth.{due-input, due-repeated}
use Rattle.blifcopies.proofs.copy_due.Goals as goal

pub returns-then-x-n : goal.returns-then-x-n
returns-then-x-n c = due-input _ _ _ c.if-x-n.true

pub returns : goal.returns
returns c =
    let x = c.args in
    due-repeated x.n x.outs x.i _ c.if-x-n.false c.member.ensures
