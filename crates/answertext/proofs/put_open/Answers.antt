-- `put_open`: the closed entry, or open. Assumes nothing.
use mathlib.Core.Path.{◌≡◌}
use Prim.Native.Nat.{ℕ}
use lib.ListN.{get_or}
use Rattle.std.specs.Prelude.{Err}
use Rattle.network.specs.Answer.{Answer}
use Rattle.network.specs.declared.Refusal.{Refusal}
use Rattle.network.specs.Refusals.{values_of}
use Rattle.buffer.specs.Laid.{Room}
use Rattle.text.specs.Words.{Text}
use Rattle.desk.specs.Answer.{open_text}
use Rattle.answertext.proofs.Pieces.{Due, due, due-room, due-next, due-done}
use Rattle.answertext.proofs.Printed.{closed_pieces, closed-pieces, entry-few}
use Rattle.answertext.proofs.put_open.Goals as goal

-- no piece is laid
none : (b : Text) (at : ℕ) (a : Answer) (r : Refusal) (t : ℕ) → a ≡ Err r → t ≡ get_or (values_of r) 0 0 → Room b at (open_text a)
    → Due b at (open_text a) b at (closed_pieces t)
none b at a r t e v h = due b at (closed_pieces t) (closed-pieces a r t e v) h

pub put_numbered-b-requires : goal.put_numbered-b-requires
put_numbered-b-requires c =
    let x = c.args in
    let r = c.in-Err.r in
    let e = c.in-Err.is in
    let v = c.first_value-t in
    (entry-few x.a r v.result e v.ensures c.requires.0, due-room (none x.buf.now x.at x.a r v.result e v.ensures c.requires.1))

pub copy-requires-in-Err : goal.copy-requires-in-Err
copy-requires-in-Err c =
    let x = c.args in
    let v = c.first_value-t in
    due-room (due-next (none x.buf.now x.at x.a c.in-Err.r v.result c.in-Err.is v.ensures c.requires.1) c.put_numbered-b.ensures)

pub returns-in-Err : goal.returns-in-Err
returns-in-Err c =
    let x = c.args in
    let v = c.first_value-t in
    due-done (due-next (due-next (none x.buf.now x.at x.a c.in-Err.r v.result c.in-Err.is v.ensures c.requires.1) c.put_numbered-b.ensures) c.copy-in-Err.ensures)
