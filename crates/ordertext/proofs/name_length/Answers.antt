-- `name_length`. Assumes nothing.
use mathlib.Core.Path.{◌∙◌}
use native.Mathlib.Omega.{arith}
use borrow.Author.Tests.{eq-eqb}
use Rattle.ordertext.specs.Order.{name_length}
use Rattle.ordertext.proofs.Numerals.{last-here, last_none}
use Rattle.ordertext.proofs.name_length.Goals as goal

pub returns-then-w-i-eq61 : goal.returns-then-w-i-eq61
unfolding name_length
returns-then-w-i-eq61 c =
    let h = c.loop-i in
    let a = c.args in
    last-here a.w.now h.i (omega arith) (eq-eqb _ _ c.if-w-i-eq61.true) ∙ h.invariant

pub returns : goal.returns
unfolding name_length
returns c =
    let h = c.loop-i in
    last_none c.args.w.now h.i (omega arith) ∙ h.invariant
