-- `gatecalls::try_all_tables` meets its contract. Assumes nothing.
use mathlib.Core.Path.{refl}
use mathlib.Core.List.{[]}
use Rattle.network.proofs.TestLaws.{handed-on}
use Rattle.network.proofs.Valid.{state-e}
use Rattle.promises.specs.Boundary.{all_tables_work, all_tables_call}
use Rattle.promises.proofs.Leaves.{done, told-err, unpack-stops, room-stops, room-opens}
use Rattle.gatecalls.proofs.try_all_tables.Goals as goal

pub returns-in_err-s : goal.returns-in_err-s
unfolding all_tables_call
returns-in_err-s c =
    told-err (handed-on c.from_residual.ensures.1 refl) (unpack-stops all_tables_work c.args.session.now [] c.args.out.now c.in_err-s.ensures)

pub returns-in_err-room : goal.returns-in_err-room
unfolding all_tables_call
returns-in_err-room c =
    told-err (handed-on c.from_residual-in_err-room.ensures.1 refl)
    (room-stops all_tables_work c.args.session.now [] c.args.out.now c.in_ok-s.ensures c.in_err-room.ensures)

pub put_tables-requires : goal.put_tables-requires
put_tables-requires c =
    let x = room-opens all_tables_work c.args.session.now [] c.args.out.now c.in_ok-s.ensures c.in_ok-room.ensures in
    (state-e c.in_ok-s.s x.valid, x.room)

pub returns : goal.returns
unfolding all_tables_call
returns c =
    let x = room-opens all_tables_work c.args.session.now [] c.args.out.now c.in_ok-s.ensures c.in_ok-room.ensures in
    x.leaves (done (all_tables_work c.in_ok-s.s).given [] [] c.args.out.now refl refl c.put_tables.ensures)
