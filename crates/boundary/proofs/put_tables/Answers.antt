-- `boundary::put_tables`: the rows of the gates passed are laid. Assumes nothing.
use mathlib.Core.Path.{refl}
use native.Mathlib.Omega.{arith}
use Rattle.network.specs.Bounds.{most_gates}
use Rattle.network.proofs.TestLaws.{count-e}
use Rattle.network.proofs.Valid.{valid-e}
use Rattle.boundary.proofs.Rows.{row_room, row_next, rows-done}
use Rattle.boundary.proofs.put_tables.Goals as goal

pub all_tables-t-requires : goal.all_tables-t-requires
all_tables-t-requires c = c.requires.0

pub loop-g-init : goal.loop-g-init
loop-g-init c =
    let n = count-e most_gates c.args.s.m (valid-e c.args.s c.requires.0).gates in
    (omega arith, record { buffer = refl; behind = refl })

pub sdc-d-requires : goal.sdc-d-requires
sdc-d-requires c = record { s_value = c.requires.0; g_lt_m = omega arith }

pub lay_words-requires : goal.lay_words-requires
lay_words-requires c =
    row_room c.args.s c.loop-g.g c.loop-g.invariant.1 (omega arith) (omega arith)

pub loop-g-preserved : goal.loop-g-preserved
loop-g-preserved c =
    let s = c.args.s in
    (c.loop-g.invariant.0, row_next s c.loop-g.g c.loop-g.invariant.1 c.all_tables-t.ensures (omega arith) c.sdc-d.ensures c.lay_words.ensures)

pub returns : goal.returns
returns c =
    rows-done c.args.s c.loop-g.g c.loop-g.invariant.1 (omega arith) (omega arith)
