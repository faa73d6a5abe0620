-- `gatecalls::try_pattern_sets` meets its contract. Assumes nothing.
use mathlib.Core.Path.{refl}
use mathlib.Core.List.{[]}
use Rattle.network.proofs.TestLaws.{handed-on}
use Rattle.network.proofs.Valid.{state-e}
use Rattle.promises.specs.Boundary.{pattern_sets_work, pattern_sets_call}
use Rattle.promises.proofs.Leaves.{told-err, unpack-stops, room-opens}
use Rattle.gatecalls.proofs.Gates.{sets-left}
use Rattle.gatecalls.proofs.try_pattern_sets.Goals as goal

pub returns-in_err-unpack : goal.returns-in_err-unpack
unfolding pattern_sets_call
returns-in_err-unpack c =
    let a = c.args in
    told-err (handed-on c.from_residual.ensures.1 refl) (unpack-stops (pattern_sets_work a.words.now) a.session.now a.words.now [] c.in_err-unpack.ensures)

pub pattern_sets-requires : goal.pattern_sets-requires
pattern_sets-requires c =
    let a = c.args in
    state-e c.in_ok-unpack.field-0 (room-opens (pattern_sets_work a.words.now) a.session.now a.words.now [] c.in_ok-unpack.ensures refl).valid

pub returns : goal.returns
unfolding pattern_sets_call
returns c =
    let a = c.args in
    let x = room-opens (pattern_sets_work a.words.now) a.session.now a.words.now [] c.in_ok-unpack.ensures refl in
    x.leaves (sets-left c.in_ok-unpack.field-0 a.words.now c.pattern_sets.ensures)
