-- `compatible::loaded_rows` meets its contract. Assumes nothing.
use native.Mathlib.Omega.{arith}
use Rattle.network.proofs.Valid.{net-ok}
use Rattle.compatible.proofs.Loaded.{net-fine, rows_are}
use Rattle.compatible.proofs.loaded_rows.Goals as goal

pub frame_of-f-requires : goal.frame_of-f-requires
frame_of-f-requires c =
    omega (arith, (net-ok c.args.s c.requires.0).ins)

pub compatible_rows-requires : goal.compatible_rows-requires
compatible_rows-requires c =
    let ok = net-fine c.args.s _ _ _ c.from-n.ensures c.from-m.ensures c.from-p.ensures c.requires.0 in
    record { net_ok = ok.0; outputs_ok = ok.1; count_le_row_words = (c.frame_of-f.ensures.cut.words, c.requires.1) }

pub returns : goal.returns
returns c =
    rows_are c.args.s _ _ _ c.from-n.ensures c.from-m.ensures c.from-p.ensures c.frame_of-f.ensures c.compatible_rows.ensures.0 c.compatible_rows.ensures.1
