use mathlib.Core.Path.{◌∙◌}
use native.Mathlib.Omega.{arith}
use Rattle.network.proofs.TestLaws.{handed-on}
use Rattle.state.proofs.TestSteps.{or-refused, or-passed, or-last, fanins-open}
use Rattle.state.proofs.gate_test.Goals as goal

pub returns-in_err-fanins_test : goal.returns-in_err-fanins_test
returns-in_err-fanins_test c = let a = c.args in
    handed-on c.from_residual-in_err-fanins_test.ensures.1 (or-refused _ (fanins-open a.limit a.k a.fs.now (omega arith) c.count_test.ensures c.in_ok-count_test.was c.fanins_test.ensures) c.in_err-fanins_test.was
    ∙ or-passed _ c.count_test.ensures c.in_ok-count_test.was)

pub returns-in_err-table_test : goal.returns-in_err-table_test
returns-in_err-table_test c = let a = c.args in
    handed-on c.from_residual-in_err-table_test.ensures.1 (or-refused _ c.table_test.ensures c.in_err-table_test.was
    ∙ or-passed _ (fanins-open a.limit a.k a.fs.now (omega arith) c.count_test.ensures c.in_ok-count_test.was c.fanins_test.ensures) c.in_ok-fanins_test.was
    ∙ or-passed _ c.count_test.ensures c.in_ok-count_test.was)

pub returns : goal.returns
returns c =
    let a = c.args in
    or-last _ c.table_test-2.ensures
    ∙ or-passed _ c.table_test.ensures c.in_ok-table_test.was
    ∙ or-passed _ (fanins-open a.limit a.k a.fs.now (omega arith) c.count_test.ensures c.in_ok-count_test.was c.fanins_test.ensures) c.in_ok-fanins_test.was
    ∙ or-passed _ c.count_test.ensures c.in_ok-count_test.was
