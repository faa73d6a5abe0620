use Rattle.state.proofs.table_test.Goals as goal

pub returns : goal.returns
returns c = rw (← c.power.ensures) c.width_test.ensures
