-- `compatible::ones_in` meets its contract. Assumes nothing.
use mathlib.Core.Path.{refl}
use native.Mathlib.Omega.{arith}
use Rattle.compatible.specs.Words.{ones_in}
use Rattle.compatible.proofs.Stores.{ones-few, ones_step, ones-le}
use Rattle.compatible.proofs.ones_in.Goals as goal

pub loop-w-init : goal.loop-w-init
unfolding ones_in
loop-w-init c = refl

pub overflow_add-sum : goal.overflow_add-sum
overflow_add-sum c =
    let a = c.args in
    let l = c.loop-w in
    omega (arith, ones-few _ c.ones-c.ensures, l.invariant, ones-le a.sets.now a.at l.w)

pub loop-w-preserved : goal.loop-w-preserved
loop-w-preserved c =
    let a = c.args in
    let l = c.loop-w in
    ones_step a.sets.now a.at l.w l.sum c.ones-c.result l.invariant c.ones-c.ensures
