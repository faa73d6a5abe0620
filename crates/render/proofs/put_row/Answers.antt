-- `put_row`: piece after piece, each with room. Assumes nothing.
use native.Mathlib.Omega.{arith}
use Rattle.text.proofs.Digits.{number-within, field-within}
use Rattle.render.proofs.Pieces.{row_laid}
use Rattle.render.proofs.put_row.Goals as goal

pub put_field-b-requires : goal.put_field-b-requires
put_field-b-requires c =
    let n = number-within _ _ c.put_number-a.ensures in
    omega arith

pub put_field-c-requires : goal.put_field-c-requires
put_field-c-requires c =
    let n = number-within _ _ c.put_number-a.ensures in
    let f = field-within _ _ c.put_field-b.ensures in
    omega arith

pub put_field-d-requires : goal.put_field-d-requires
put_field-d-requires c =
    let few = c.requires.0.digits in
    let room = c.requires.2 in
    let n = number-within _ _ c.put_number-a.ensures in
    let f = field-within _ _ c.put_field-b.ensures in
    let h = field-within _ _ c.put_field-c.ensures in
    omega arith

pub put_number-requires : goal.put_number-requires
put_number-requires c =
    let n = number-within _ _ c.put_number-a.ensures in
    let f = field-within _ _ c.put_field-b.ensures in
    let h = field-within _ _ c.put_field-c.ensures in
    let o = field-within _ _ c.put_field-d.ensures in
    (rw c.from-hidden.ensures (c.requires.0.few c.args.g c.requires.1), omega arith)

pub returns : goal.returns
returns c =
    row_laid _ _ _ _ _ _ c.put_number-a.ensures c.put_field-b.ensures c.put_field-c.ensures c.put_field-d.ensures (rw c.from-hidden.ensures at c.put_number.ensures)
