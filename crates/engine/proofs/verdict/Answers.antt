-- `engine::verdict` meets its contract. Assumes nothing.
use mathlib.Core.Path.{sym, ◌∙◌}
use mathlib.Core.List.{[], ◌∷◌}
use Rattle.network.specs.Net.{replaced}
use Rattle.network.specs.Flat.{loaded_net, current_net}
use Rattle.network.specs.State.{state_test}
use Rattle.network.specs.Calls.{harm_test, lengths_test, pairs, pairs_test, verdict_of}
use Rattle.network.proofs.Valid.{state-e}
use Rattle.network.proofs.TestLaws.{alone, stopped, handed-on}
use Rattle.engine.proofs.verdict.Goals as goal

pub returns-in_err-state_test : goal.returns-in_err-state_test
unfolding verdict_of
returns-in_err-state_test c =
    let a = c.args in
    let s = a.s in
    let rs = pairs a.gates.now a.tables.now in
    handed-on c.from_residual.ensures.1 (sym c.in_err-state_test.was ∙ stopped (state_test s ∷ []) (lengths_test a.gates.now a.tables.now ∷ pairs_test (loaded_net s) [] rs ∷ harm_test (loaded_net s) (replaced (current_net s) rs) ∷ []) (c.state_test.ensures ∙ alone (state_test s)) c.in_err-state_test.was)

pub verdict-requires : goal.verdict-requires
verdict-requires c =
    state-e c.args.s (sym c.state_test.ensures ∙ c.in_ok-state_test.was)
