-- `put_entry`: a row, or nothing. Assumes nothing.
use mathlib.Core.Path.{sym, ◌∙◌}
use Rattle.buffer.proofs.Laying.{laid_none}
use Rattle.blifwrite.proofs.Pieces.{entry-one, entry-none}
use Rattle.blifwrite.proofs.put_entry.Goals as goal

pub returns-then-bit_of : goal.returns-then-bit_of
returns-then-bit_of c =
    let x = c.args in
    rw (entry-one x.k x.table x.t (sym c.bit_of.ensures ∙ c.if-bit_of.true)) c.put_row.ensures

pub returns : goal.returns
returns c =
    let x = c.args in
    rw (entry-none x.k x.table x.t (sym c.bit_of.ensures ∙ c.if-bit_of.false)) (laid_none _ _)
