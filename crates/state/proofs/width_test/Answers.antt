use mathlib.Core.Path.{sym}
use native.Mathlib.Omega.{arith}
use Rattle.network.proofs.TestLaws.{width-i}
use Rattle.state.proofs.TestSteps.{past, wide}
use Rattle.state.proofs.width_test.Goals as goal

pub returns-then-bits-ge64 : goal.returns-then-bits-ge64
returns-then-bits-ge64 c = sym (width-i _ _ (wide c.args.bits c.args.x (omega arith) c.if-bits-ge64.true))

pub returns-then-x-power : goal.returns-then-x-power
returns-then-x-power c = sym (width-i _ _ (rw c.power.ensures at c.if-x-power.true))

pub returns : goal.returns
returns c = past _ _ _ (rw c.power.ensures at c.if-x-power.false)
