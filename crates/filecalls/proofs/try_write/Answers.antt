-- `filecalls::try_write` meets its contract. Assumes nothing.
use mathlib.Core.Path.{refl}
use mathlib.Core.List.{[], ◌∷◌}
use lib.ListN.{length}
use Rattle.network.specs.Tests.{first}
use Rattle.network.specs.State.{state_test}
use Rattle.network.specs.Write.{bytes_of}
use Rattle.network.specs.Calls.{room_test, write_of, written_of}
use Rattle.network.proofs.TestLaws.{handed-on}
use Rattle.network.proofs.Valid.{state-e}
use Rattle.promises.specs.Boundary.{write_work, write_call}
use Rattle.promises.proofs.Leaves.{told-err, unpack-stops, room-stops, room-opens}
use Rattle.promises.proofs.Fills.{written, unwritten, names-filling}
use Rattle.filecalls.proofs.try_write.Goals as goal

pub returns-in_err-s : goal.returns-in_err-s
unfolding write_call
returns-in_err-s c =
    let a = c.args in
    told-err (handed-on c.from_residual.ensures.1 refl) (unpack-stops (write_work a.file.now) a.session.now a.file.now a.out.now c.in_err-s.ensures)

pub returns-in_err-room : goal.returns-in_err-room
unfolding write_call
returns-in_err-room c =
    let a = c.args in
    told-err (handed-on c.from_residual-in_err-room.ensures.1 refl)
    (room-stops (write_work a.file.now) a.session.now a.file.now a.out.now c.in_ok-s.ensures c.in_err-room.ensures)

pub write-requires : goal.write-requires
write-requires c =
    let a = c.args in
    state-e c.in_ok-s.s (room-opens (write_work a.file.now) a.session.now a.file.now a.out.now c.in_ok-s.ensures c.in_ok-room.ensures).valid

pub give-requires : goal.give-requires
give-requires c =
    let a = c.args in
    (room-opens (write_work a.file.now) a.session.now a.file.now a.out.now c.in_ok-s.ensures c.in_ok-room.ensures).room

pub returns-in_err-n : goal.returns-in_err-n
unfolding write_call write_of written_of
returns-in_err-n c =
    let a = c.args in
    let x = room-opens (write_work a.file.now) a.session.now a.file.now a.out.now c.in_ok-s.ensures c.in_ok-room.ensures in
    let s = c.in_ok-s.s in
    let y = first (state_test s ∷ room_test (length (bytes_of s)) a.file.now ∷ []) in
    told-err (handed-on c.from_residual-in_err-n.ensures.1 refl)
    (x.leaves (unwritten y (bytes_of s) a.file.now a.out.now c.write.ensures (names-filling s (length (bytes_of s)) a.file.now) c.in_err-n.was refl))

pub returns : goal.returns
unfolding write_call write_of written_of
returns c =
    let a = c.args in
    let x = room-opens (write_work a.file.now) a.session.now a.file.now a.out.now c.in_ok-s.ensures c.in_ok-room.ensures in
    let s = c.in_ok-s.s in
    let y = first (state_test s ∷ room_test (length (bytes_of s)) a.file.now ∷ []) in
    x.leaves (written y (bytes_of s) a.file.now a.out.now c.write.ensures c.in_ok-n.was c.give.ensures)
