use mathlib.Core.Path.{ap}
use Rattle.network.specs.State.{as_invalid, state_test}
use Rattle.state.proofs.state_test.Goals as goal

pub returns-in-Ok : goal.returns-in-Ok
unfolding state_test
returns-in-Ok c = ap as_invalid c.in-Ok.ensures

pub returns-in-Err : goal.returns-in-Err
unfolding state_test
returns-in-Err c = ap as_invalid c.in-Err.ensures
