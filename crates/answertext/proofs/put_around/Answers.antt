-- `put_around`: three pieces. Assumes nothing.
use mathlib.Core.List.{[], ◌∷◌, ◌++◌}
use Prim.Native.Nat.{ℕ}
use Rattle.buffer.specs.Laid.{Room}
use Rattle.text.specs.Words.{Text}
use Rattle.answertext.proofs.Pieces.{Due, due, due-room, due-next, due-done}
use Rattle.answertext.proofs.Printed.{three}
use Rattle.answertext.proofs.put_around.Goals as goal

-- no piece is laid yet
none : (buf front name back : Text) (at : ℕ) → Room buf at (front ++ name ++ back) → Due buf at (front ++ name ++ back) buf at (front ∷ name ∷ back ∷ [])
none buf front name back at room = due buf at (front ∷ name ∷ back ∷ []) (three front name back) room

pub copy-a-requires : goal.copy-a-requires
copy-a-requires c =
    let x = c.args in
    due-room (none x.buf.now x.front.now x.name.now x.back.now x.at c.requires)

pub copy-b-requires : goal.copy-b-requires
copy-b-requires c =
    let x = c.args in
    due-room (due-next (none x.buf.now x.front.now x.name.now x.back.now x.at c.requires) c.copy-a.ensures)

pub copy-requires : goal.copy-requires
copy-requires c =
    let x = c.args in
    due-room (due-next (due-next (none x.buf.now x.front.now x.name.now x.back.now x.at c.requires) c.copy-a.ensures) c.copy-b.ensures)

pub returns : goal.returns
returns c =
    let x = c.args in
    due-done (due-next (due-next (due-next (none x.buf.now x.front.now x.name.now x.back.now x.at c.requires) c.copy-a.ensures) c.copy-b.ensures) c.copy.ensures)
