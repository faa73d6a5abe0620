-- `put_text`: the header, the rows, the totals. Assumes nothing.
use native.Mathlib.Omega.{arith}
use Rattle.render.proofs.Pieces.{header-within, rows-within, text-laid}
use Rattle.render.proofs.put_text.Goals as goal

pub put_rows-b-requires : goal.put_rows-b-requires
put_rows-b-requires c =
    let w = header-within c.put_header-a.ensures in
    let g = c.requires.0.gates in
    (c.requires.0, omega arith)

pub put_totals-requires : goal.put_totals-requires
put_totals-requires c =
    let x = c.set_in-f.ensures.1 in
    let y = c.set_in-o.ensures.1 in
    let w = header-within c.put_header-a.ensures in
    let v = rows-within c.args.t c.requires.0.digits c.args.t.m c.put_rows-b.ensures in
    let g = c.requires.0.gates in
    let room = c.requires.1 in
    (omega arith, omega arith, omega arith)

pub returns : goal.returns
returns c =
    text-laid c.args.t c.set_in-f.ensures.0 c.set_in-o.ensures.0 c.put_header-a.ensures c.put_rows-b.ensures c.put_totals.ensures
