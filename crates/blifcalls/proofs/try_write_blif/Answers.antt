-- `blifcalls::try_write_blif` meets its contract. Assumes nothing.
use mathlib.Core.Path.{◌≡◌, refl, sym}
use mathlib.Core.List.{List}
use Prim.Native.Nat.{ℕ}
use Rattle.network.specs.declared.Session.{Session}
use Rattle.network.specs.Answer.{Done}
use Rattle.network.specs.State.{state_test}
use Rattle.network.proofs.TestLaws.{handed-on}
use Rattle.network.proofs.Valid.{state-e}
use Rattle.promises.specs.Boundary.{write_blif_work, write_blif_call}
use Rattle.promises.proofs.Tested.{room-e}
use Rattle.promises.proofs.Leaves.{Leaves, worked, told-err, unpack-stops, room-opens}
use Rattle.blifcalls.proofs.Writes.{unasked, in-turn, early, given, short}
use Rattle.blifcalls.proofs.try_write_blif.Goals as goal
use Rattle.blifcalls.proofs.try_write_blif.Goals.{In_ok-s}

-- what is known where the words hold a session
module _ (r : In_ok-s) where
  abbrev s : Session
  s = r.in_ok-s.s

  abbrev text : List ℕ
  text = r.args.text.now

  abbrev out : List ℕ
  out = r.args.out.now

  valid : state_test s ≡ Done
  valid = (room-opens (write_blif_work text out) r.args.session.now text out r.in_ok-s.ensures (unasked out)).valid

  leaves : {k : ℕ} {b o : List ℕ} → Leaves (worked (write_blif_work text out s) text out) k b o → Leaves (write_blif_call r.args.session.now text out) k b o
  unfolding write_blif_call
  leaves = (room-opens (write_blif_work text out) r.args.session.now text out r.in_ok-s.ensures (unasked out)).leaves

pub returns-in_err-s : goal.returns-in_err-s
unfolding write_blif_call
returns-in_err-s c =
    let a = c.args in
    told-err (handed-on c.from_residual.ensures.1 refl) (unpack-stops (write_blif_work a.text.now a.out.now) a.session.now a.text.now a.out.now c.in_err-s.ensures)

pub copies_test-requires : goal.copies_test-requires
copies_test-requires c = let r = (goal.at.copies_test-requires c).In_ok-s in state-e (s r) (valid r)

pub returns-in_err-copies_test : goal.returns-in_err-copies_test
returns-in_err-copies_test c =
    let r = (goal.at.returns-in_err-copies_test c).In_ok-s in
    told-err (handed-on c.from_residual-in_err-copies_test.ensures.1 refl)
    (leaves r (early (s r) (text r) (out r) (in-turn (s r) (out r) c.in_err-copies_test.ensures refl) refl refl))

pub returns-in_err-room : goal.returns-in_err-room
returns-in_err-room c =
    let r = (goal.at.returns-in_err-room c).In_ok-s in
    told-err (handed-on c.from_residual-in_err-room.ensures.1 refl)
    (leaves r (early (s r) (text r) (out r) (in-turn (s r) (out r) c.in_ok-copies_test.ensures c.in_err-room.ensures) refl refl))

pub write-requires : goal.write-requires
write-requires c = let r = (goal.at.write-requires c).In_ok-s in state-e (s r) (valid r)

pub give-requires : goal.give-requires
give-requires c = room-e 1 c.args.out.now (sym c.in_ok-room.ensures)

pub returns-in_err-n : goal.returns-in_err-n
returns-in_err-n c =
    let r = (goal.at.returns-in_err-n c).In_ok-s in
    told-err (handed-on c.from_residual-in_err-n.ensures.1 refl)
    (leaves r (short (s r) (text r) (out r) (in-turn (s r) (out r) c.in_ok-copies_test.ensures c.in_ok-room.ensures) refl (valid r) c.write.ensures c.in_err-n.was refl))

pub returns : goal.returns
returns c =
    let r = (goal.at.returns c).In_ok-s in
    leaves r (given (s r) (text r) (out r) (in-turn (s r) (out r) c.in_ok-copies_test.ensures c.in_ok-room.ensures) refl (valid r) c.write.ensures c.in_ok-n.was c.give.ensures)
