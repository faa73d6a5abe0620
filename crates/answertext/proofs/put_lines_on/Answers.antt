-- `put_lines_on`: none, or those passed. Assumes nothing.
use native.Mathlib.Omega.{arith}
use Rattle.answertext.proofs.Printed.{lines_none, lines-some, on_room, on-next, on-done}
use Rattle.answertext.proofs.put_lines_on.Goals as goal

pub copy-requires : goal.copy-requires
copy-requires c =
    rw (lines_none c.args.x c.args.n c.if-x-eq0.true) at c.requires.1

pub returns-then-x-eq0 : goal.returns-then-x-eq0
returns-then-x-eq0 c =
    rw (lines_none c.args.x c.args.n c.if-x-eq0.true) c.copy.ensures

pub put_line_on-a-requires : goal.put_line_on-a-requires
put_line_on-a-requires c =
    let h = c.loop-i in
    let x = c.args in
    let r = rw (lines-some x.x x.n c.if-x-eq0.false) at c.requires.1 in
    (omega arith, on_room x.x x.n h.i h.invariant (omega arith) r)

pub loop-i-preserved : goal.loop-i-preserved
loop-i-preserved c =
    let h = c.loop-i in
    on-next c.args.x c.args.n h.i h.invariant c.put_line_on-a.ensures

pub returns : goal.returns
returns c =
    on-done c.args.x c.args.n c.loop-i.i c.loop-i.invariant (omega arith) c.if-x-eq0.false
