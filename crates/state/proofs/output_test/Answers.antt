use mathlib.Core.Path.{sym}
use Rattle.network.proofs.TestLaws.{output-i}
use Rattle.state.proofs.TestSteps.{past}
use Rattle.state.proofs.output_test.Goals as goal

pub returns-then-x-signals : goal.returns-then-x-signals
returns-then-x-signals c = sym (output-i _ _ c.if-x-signals.true)

pub returns : goal.returns
returns c = past _ _ _ c.if-x-signals.false
