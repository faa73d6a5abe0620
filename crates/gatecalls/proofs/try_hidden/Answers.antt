-- `gatecalls::try_hidden` meets its contract. Assumes nothing.
use mathlib.Core.Path.{refl, ap, ◌∙◌}
use mathlib.Core.List.{List, []}
use Prim.Native.Nat.{ℕ}
use Rattle.bits.specs.Lists.{overwritten}
use Rattle.network.proofs.TestLaws.{handed-on}
use Rattle.network.proofs.Valid.{state-e}
use Rattle.promises.specs.Boundary.{hidden_work, hidden_call}
use Rattle.promises.proofs.Leaves.{done, told-err, unpack-stops, room-stops, room-opens}
use Rattle.gatecalls.proofs.Gates.{counts-long, counts-part, counts-few}
use Rattle.gatecalls.proofs.try_hidden.Goals as goal

pub returns-in_err-s : goal.returns-in_err-s
unfolding hidden_call
returns-in_err-s c =
    told-err (handed-on c.from_residual.ensures.1 refl) (unpack-stops hidden_work c.args.session.now [] c.args.out.now c.in_err-s.ensures)

pub returns-in_err-room : goal.returns-in_err-room
unfolding hidden_call
returns-in_err-room c =
    told-err (handed-on c.from_residual-in_err-room.ensures.1 refl)
    (room-stops hidden_work c.args.session.now [] c.args.out.now c.in_ok-s.ensures c.in_err-room.ensures)

pub counts-counts-requires : goal.counts-counts-requires
counts-counts-requires c =
    state-e c.in_ok-s.s (room-opens hidden_work c.args.session.now [] c.args.out.now c.in_ok-s.ensures c.in_ok-room.ensures).valid

pub slice_bounds-put_counts-end : goal.slice_bounds-put_counts-end
slice_bounds-put_counts-end c =
    let x = room-opens hidden_work c.args.session.now [] c.args.out.now c.in_ok-s.ensures c.in_ok-room.ensures in
    counts-long c.in_ok-s.s x.valid c.counts-counts.ensures

pub put_counts-requires : goal.put_counts-requires
put_counts-requires c =
    let x = room-opens hidden_work c.args.session.now [] c.args.out.now c.in_ok-s.ensures c.in_ok-room.ensures in
    counts-few c.in_ok-s.s x.valid c.counts-counts.ensures c.args.out.now x.room

pub returns : goal.returns
unfolding hidden_call
returns c =
    let x = room-opens hidden_work c.args.session.now [] c.args.out.now c.in_ok-s.ensures c.in_ok-room.ensures in
    let s = c.in_ok-s.s in
    let o = c.put_counts.ensures ∙ ap (λ (l : List ℕ). overwritten l c.args.out.now) (counts-part s x.valid c.counts-counts.ensures) in
    x.leaves (done (hidden_work s).given [] [] c.args.out.now refl refl o)
