-- `gatecalls::try_tables` meets its contract. Assumes nothing.
use mathlib.Core.Path.{refl}
use mathlib.Core.List.{[]}
use Rattle.network.proofs.TestLaws.{handed-on}
use Rattle.network.proofs.Valid.{state-e}
use Rattle.promises.specs.Boundary.{tables_work, tables_call}
use Rattle.promises.proofs.Leaves.{told-err, unpack-stops, room-stops, room-opens}
use Rattle.gatecalls.proofs.Gates.{tables-given, tables-refused}
use Rattle.gatecalls.proofs.try_tables.Goals as goal

pub returns-in_err-s : goal.returns-in_err-s
unfolding tables_call
returns-in_err-s c =
    let a = c.args in
    told-err (handed-on c.from_residual.ensures.1 refl) (unpack-stops (tables_work a.gate) a.session.now [] a.out.now c.in_err-s.ensures)

pub returns-in_err-room : goal.returns-in_err-room
unfolding tables_call
returns-in_err-room c =
    let a = c.args in
    told-err (handed-on c.from_residual-in_err-room.ensures.1 refl)
    (room-stops (tables_work a.gate) a.session.now [] a.out.now c.in_ok-s.ensures c.in_err-room.ensures)

pub tables-requires : goal.tables-requires
tables-requires c =
    let a = c.args in
    state-e c.in_ok-s.s (room-opens (tables_work a.gate) a.session.now [] a.out.now c.in_ok-s.ensures c.in_ok-room.ensures).valid

pub give-requires : goal.give-requires
give-requires c =
    let a = c.args in
    (room-opens (tables_work a.gate) a.session.now [] a.out.now c.in_ok-s.ensures c.in_ok-room.ensures).room

pub returns-in_err-t : goal.returns-in_err-t
unfolding tables_call
returns-in_err-t c =
    let a = c.args in
    let x = room-opens (tables_work a.gate) a.session.now [] a.out.now c.in_ok-s.ensures c.in_ok-room.ensures in
    told-err (handed-on c.from_residual-in_err-t.ensures.1 refl)
    (x.leaves (tables-refused c.in_ok-s.s a.gate a.out.now x.valid c.tables.ensures c.in_err-t.was refl))

pub returns : goal.returns
unfolding tables_call
returns c =
    let a = c.args in
    let x = room-opens (tables_work a.gate) a.session.now [] a.out.now c.in_ok-s.ensures c.in_ok-room.ensures in
    x.leaves (tables-given c.in_ok-s.s a.gate a.out.now x.valid c.tables.ensures c.in_ok-t.was c.give.ensures)
