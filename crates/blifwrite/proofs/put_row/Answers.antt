-- `put_row`: the marks, then the digit. Assumes nothing.
use native.Mathlib.Omega.{arith}
use Rattle.blifwrite.proofs.Pieces.{marks-within, row_laid}
use Rattle.blifwrite.proofs.put_row.Goals as goal

pub copy-requires : goal.copy-requires
copy-requires c =
    let x = c.args in
    let w = marks-within x.k x.t c.put_marks-a.ensures in
    omega arith

pub returns : goal.returns
returns c =
    let x = c.args in
    row_laid x.k x.t c.put_marks-a.ensures c.copy.ensures
