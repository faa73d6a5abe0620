-- `engine::exchange_answer` meets its contract. Assumes nothing.
use mathlib.Core.Path.{sym, ◌∙◌}
use mathlib.Core.List.{[], ◌∷◌}
use Rattle.network.specs.Net.{Replacement}
use Rattle.network.specs.Flat.{loaded_net}
use Rattle.network.specs.State.{state_test}
use Rattle.network.specs.Calls.{exchange_tests, held_closed, exchange_answer}
use Rattle.network.proofs.Valid.{state-e}
use Rattle.network.proofs.TestLaws.{alone, stopped, handed-on}
use Rattle.engine.proofs.exchange_answer.Goals as goal

pub returns-in_err-state_test : goal.returns-in_err-state_test
unfolding exchange_answer
returns-in_err-state_test c =
    let s = c.args.s in
    let r : Replacement = record { signal = c.args.gate; table = c.args.table } in
    handed-on c.from_residual.ensures.1 (sym c.in_err-state_test.was ∙ stopped (state_test s ∷ []) (exchange_tests (loaded_net s) (held_closed s r.signal) r) (c.state_test.ensures ∙ alone (state_test s)) c.in_err-state_test.was)

pub exchange-requires : goal.exchange-requires
exchange-requires c =
    state-e c.args.s (sym c.state_test.ensures ∙ c.in_ok-state_test.was)
