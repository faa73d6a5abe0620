-- `engine::pattern_sets` meets its contract. Assumes nothing.
use mathlib.Core.Path.{refl, sym, ap, ◌∙◌}
use Rattle.network.specs.Answer.{Answer}
use Rattle.network.specs.Calls.{Filled, set_words, pattern_sets_of}
use Rattle.network.proofs.Valid.{state-e}
use Rattle.engine.proofs.ByAnswer.{filling-invalid}
use Rattle.network.proofs.TestLaws.{handed-on}
use Rattle.engine.proofs.pattern_sets.Goals as goal

pub returns-in_err-state_test : goal.returns-in_err-state_test
unfolding pattern_sets_of
returns-in_err-state_test c =
    let a = c.args in
    let e = filling-invalid a.s (set_words a.s a.s.m) a.buf.now (sym c.state_test.ensures ∙ c.in_err-state_test.was) in
    ap {B = Filled} (λ (x : Answer). record { answer = x; buffer = a.buf.now }) (handed-on c.from_residual.ensures.1 refl) ∙ sym e

pub pattern_sets-requires : goal.pattern_sets-requires
pattern_sets-requires c =
    state-e c.args.s (sym c.state_test.ensures ∙ c.in_ok-state_test.was)
