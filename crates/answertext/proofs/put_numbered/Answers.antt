-- `put_numbered`: two pieces. Assumes nothing.
use mathlib.Core.List.{[], ◌∷◌, ◌++◌}
use Prim.Native.Nat.{ℕ}
use Rattle.buffer.specs.Laid.{Room}
use Rattle.text.specs.Numbers.{decimal}
use Rattle.text.specs.Words.{Text}
use Rattle.answertext.proofs.Pieces.{Due, due, due-room, due-next, due-done}
use Rattle.answertext.proofs.Printed.{two}
use Rattle.answertext.proofs.put_numbered.Goals as goal

-- no piece is laid yet
none : (buf front : Text) (at x : ℕ) → Room buf at (front ++ decimal x) → Due buf at (front ++ decimal x) buf at (front ∷ decimal x ∷ [])
none buf front at x room = due buf at (front ∷ decimal x ∷ []) (two front (decimal x)) room

pub copy-a-requires : goal.copy-a-requires
copy-a-requires c = due-room (none c.args.buf.now c.args.front.now c.args.at c.args.x c.requires.1)

pub put_decimal-requires : goal.put_decimal-requires
put_decimal-requires c =
    (c.requires.0, due-room (due-next (none c.args.buf.now c.args.front.now c.args.at c.args.x c.requires.1) c.copy-a.ensures))

pub returns : goal.returns
returns c =
    due-done (due-next (due-next (none c.args.buf.now c.args.front.now c.args.at c.args.x c.requires.1) c.copy-a.ensures) c.put_decimal.ensures)
