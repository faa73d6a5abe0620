use mathlib.Core.Path.{◌∙◌}
use Rattle.network.proofs.TestLaws.{handed-on}
use Rattle.state.proofs.TestSteps.{or-refused, or-passed, or-last, in-turn, few-counts}
use Rattle.state.proofs.state_fault.Goals as goal

pub returns-in_err-counts_test : goal.returns-in_err-counts_test
returns-in_err-counts_test c = handed-on c.from_residual.ensures.1 (or-refused _ c.counts_test.ensures c.in_err-counts_test.was ∙ in-turn c.args.s)

pub excluded_test-requires : goal.excluded_test-requires
excluded_test-requires c = (few-counts c.args.s c.counts_test.ensures c.in_ok-counts_test.was).0

pub returns-in_err-excluded_test : goal.returns-in_err-excluded_test
returns-in_err-excluded_test c = handed-on c.from_residual-in_err-excluded_test.ensures.1 (or-refused _ c.excluded_test.ensures c.in_err-excluded_test.was
    ∙ or-passed _ c.counts_test.ensures c.in_ok-counts_test.was
    ∙ in-turn c.args.s)

pub returns-in_err-gates_test : goal.returns-in_err-gates_test
returns-in_err-gates_test c = handed-on c.from_residual-in_err-gates_test.ensures.1 (or-refused _ c.gates_test.ensures c.in_err-gates_test.was
    ∙ or-passed _ c.excluded_test.ensures c.in_ok-excluded_test.was
    ∙ or-passed _ c.counts_test.ensures c.in_ok-counts_test.was
    ∙ in-turn c.args.s)

pub returns : goal.returns
returns c =
    or-last _ c.outputs_test.ensures
    ∙ or-passed _ c.gates_test.ensures c.in_ok-gates_test.was
    ∙ or-passed _ c.excluded_test.ensures c.in_ok-excluded_test.was
    ∙ or-passed _ c.counts_test.ensures c.in_ok-counts_test.was
    ∙ in-turn c.args.s
