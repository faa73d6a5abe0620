-- `put_file_refused`: piece after piece. Assumes nothing.
use native.Mathlib.Omega.{arith}
use Rattle.desk.specs.Answer.{file_line}
use Rattle.answertext.proofs.Pieces.{Due, due, due-room, due-next, due-done}
use Rattle.answertext.proofs.Printed.{file_pieces, file-pieces}
use Rattle.answertext.proofs.put_file_refused.Goals as goal
use Rattle.answertext.proofs.put_file_refused.Goals.{After-number_of-k}

-- no piece is laid yet
none : (c : After-number_of-k) → Due c.args.buf.now 0 (file_line c.args.r) c.args.buf.now 0 (file_pieces c.args.r c.number_of-k.result)
none c =
    let k = c.number_of-k in
    due c.args.buf.now 0 (file_pieces c.args.r k.result) (file-pieces c.args.r k.result k.ensures.0) c.requires

pub put_numbered-a-requires : goal.put_numbered-a-requires
put_numbered-a-requires c =
    let e = c.number_of-k.ensures.1 in
    (omega arith, due-room (none (goal.at.put_numbered-a-requires c).After-number_of-k))

pub copy-b-requires : goal.copy-b-requires
copy-b-requires c = due-room (due-next (none (goal.at.copy-b-requires c).After-number_of-k) c.put_numbered-a.ensures)

pub copy-c-requires : goal.copy-c-requires
copy-c-requires c =
    rw c.reason.ensures (due-room (due-next (due-next (none (goal.at.copy-c-requires c).After-number_of-k) c.put_numbered-a.ensures) c.copy-b.ensures))

pub copy-requires : goal.copy-requires
copy-requires c =
    let w = rw c.reason.ensures at c.copy-c.ensures in
    due-room (due-next (due-next (due-next (none (goal.at.copy-requires c).After-number_of-k) c.put_numbered-a.ensures) c.copy-b.ensures) w)

pub returns : goal.returns
returns c =
    let w = rw c.reason.ensures at c.copy-c.ensures in
    due-done (due-next (due-next (due-next (due-next (none (goal.at.returns c).After-number_of-k) c.put_numbered-a.ensures) c.copy-b.ensures) w) c.copy.ensures)
