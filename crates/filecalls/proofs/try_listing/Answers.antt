-- `filecalls::try_listing` meets its contract. Assumes nothing.
use mathlib.Core.Path.{refl}
use mathlib.Core.List.{[], ◌∷◌}
use lib.ListN.{length}
use Rattle.network.specs.Calls.{room_test}
use Rattle.network.proofs.TestLaws.{handed-on}
use Rattle.render.specs.Listing.{listing_of, listing_into}
use Rattle.promises.specs.Boundary.{listing_call}
use Rattle.promises.proofs.Names.{names-room}
use Rattle.promises.proofs.Leaves.{refused, told-err}
use Rattle.promises.proofs.Fills.{written, unwritten}
use Rattle.filecalls.proofs.try_listing.Goals as goal

pub returns-in_err-room : goal.returns-in_err-room
unfolding listing_call
returns-in_err-room c =
    let a = c.args in
    let n = listing_of a.file.now in
    let e = c.in_err-room.ensures in
    told-err (handed-on c.from_residual.ensures.1 refl)
    (rw (← e) (refused (length n ∷ []) n a.text.now a.out.now refl (rw (← e) at (names-room 0 1 a.out.now)) refl))

pub returns-in_err-n : goal.returns-in_err-n
unfolding listing_call listing_into
returns-in_err-n c =
    let a = c.args in
    let n = listing_of a.file.now in
    told-err (handed-on c.from_residual-in_err-n.ensures.1 refl)
    (rw (← c.in_ok-room.ensures)
    (unwritten (room_test (length n) a.text.now) n a.text.now a.out.now c.listing.ensures (names-room 0 (length n) a.text.now) c.in_err-n.was refl))

pub returns : goal.returns
unfolding listing_call listing_into
returns c =
    let a = c.args in
    let n = listing_of a.file.now in
    rw (← c.in_ok-room.ensures) (written (room_test (length n) a.text.now) n a.text.now a.out.now c.listing.ensures c.in_ok-n.was c.give.ensures)
