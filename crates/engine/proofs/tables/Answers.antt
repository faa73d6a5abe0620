-- `engine::tables` meets its contract. Assumes nothing.
use mathlib.Core.Path.{sym, ◌∙◌}
use Rattle.network.proofs.Valid.{state-e}
use Rattle.engine.proofs.ByAnswer.{tables-invalid}
use Rattle.network.proofs.TestLaws.{handed-on}
use Rattle.engine.proofs.tables.Goals as goal

pub returns-in_err-state_test : goal.returns-in_err-state_test
returns-in_err-state_test c =
    handed-on c.from_residual.ensures.1 (tables-invalid c.args.s c.args.gate (sym c.state_test.ensures ∙ c.in_err-state_test.was))

pub tables-requires : goal.tables-requires
tables-requires c =
    state-e c.args.s (sym c.state_test.ensures ∙ c.in_ok-state_test.was)
