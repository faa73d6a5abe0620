use mathlib.Core.Path.{sym}
use Rattle.network.proofs.TestLaws.{range-i}
use Rattle.state.proofs.TestSteps.{range-low, range-high}
use Rattle.state.proofs.range_test.Goals as goal

pub returns-then-x-least : goal.returns-then-x-least
returns-then-x-least c = range-low _ _ _ c.if-x-least.true

pub returns-then-x-most : goal.returns-then-x-most
returns-then-x-most c = range-high _ _ _ c.if-x-least.false c.if-x-most.true

pub returns : goal.returns
returns c = sym (range-i _ _ _ c.if-x-least.false c.if-x-most.false)
