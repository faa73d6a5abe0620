-- `put_rows`: the rows of the gates passed are laid. Assumes nothing.
use native.Mathlib.Omega.{arith}
use Rattle.render.proofs.Pieces.{rows-within, rows_next}
use Rattle.render.proofs.put_rows.Goals as goal

pub put_row-a-requires : goal.put_row-a-requires
put_row-a-requires c =
    let h = c.loop-g in
    let w = rows-within c.args.t c.requires.0.digits h.g h.invariant in
    (c.requires.0, omega arith, omega arith)

pub loop-g-preserved : goal.loop-g-preserved
loop-g-preserved c =
    rows_next c.args.t c.loop-g.g c.loop-g.invariant c.put_row-a.ensures
