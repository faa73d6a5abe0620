-- `put_harm`: piece after piece. Assumes nothing.
use Prim.Native.Nat.{ℕ}
use Rattle.buffer.specs.Laid.{Room}
use Rattle.text.specs.Words.{Text}
use Rattle.desk.specs.Answer.{harm_line}
use Rattle.answertext.proofs.Pieces.{Due, due, due-room, due-next, due-done}
use Rattle.answertext.proofs.Printed.{harm_pieces, harm-pieces}
use Rattle.answertext.proofs.put_harm.Goals as goal

-- no piece is laid
none : (b : Text) (n x i : ℕ) → Room b 0 (harm_line n x i) → Due b 0 (harm_line n x i) b 0 (harm_pieces n x i)
none b n x i h = due b 0 (harm_pieces n x i) (harm-pieces n x i) h

pub put_numbered-a-requires : goal.put_numbered-a-requires
put_numbered-a-requires c = let x = c.args in (c.requires.2, due-room (none x.buf.now x.n x.x x.i c.requires.3))

pub put_numbered-b-requires : goal.put_numbered-b-requires
put_numbered-b-requires c =
    let x = c.args in
    (c.requires.1, due-room (due-next (none x.buf.now x.n x.x x.i c.requires.3) c.put_numbered-a.ensures))

pub copy-c-requires : goal.copy-c-requires
copy-c-requires c =
    let x = c.args in
    due-room (due-next (due-next (none x.buf.now x.n x.x x.i c.requires.3) c.put_numbered-a.ensures) c.put_numbered-b.ensures)

pub put_lines_on-d-requires : goal.put_lines_on-d-requires
put_lines_on-d-requires c =
    let x = c.args in
    (c.requires.0, due-room (due-next (due-next (due-next (none x.buf.now x.n x.x x.i c.requires.3) c.put_numbered-a.ensures) c.put_numbered-b.ensures) c.copy-c.ensures))

pub copy-requires : goal.copy-requires
copy-requires c =
    let x = c.args in
    due-room (due-next (due-next (due-next (due-next (none x.buf.now x.n x.x x.i c.requires.3) c.put_numbered-a.ensures) c.put_numbered-b.ensures) c.copy-c.ensures) c.put_lines_on-d.ensures)

pub returns : goal.returns
returns c =
    let x = c.args in
    due-done (due-next (due-next (due-next (due-next (due-next (none x.buf.now x.n x.x x.i c.requires.3) c.put_numbered-a.ensures) c.put_numbered-b.ensures) c.copy-c.ensures) c.put_lines_on-d.ensures) c.copy.ensures)
