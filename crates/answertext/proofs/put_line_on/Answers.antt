-- `put_line_on`: a space and the input's number, or nothing. Assumes nothing.
use native.Mathlib.Omega.{arith}
use Rattle.answertext.proofs.Printed.{on_some, on_none, nothing-laid}
use Rattle.answertext.proofs.put_line_on.Goals as goal

pub put_numbered-requires : goal.put_numbered-requires
put_numbered-requires c =
    (omega arith, rw (on_some c.args.x c.args.i c.if-x-i-eq1.true) at c.requires.1)

pub returns-then-x-i-eq1 : goal.returns-then-x-i-eq1
returns-then-x-i-eq1 c =
    rw (on_some c.args.x c.args.i c.if-x-i-eq1.true) c.put_numbered.ensures

pub returns : goal.returns
returns c =
    nothing-laid _ _ _ (on_none c.args.x c.args.i c.if-x-i-eq1.false)
