-- `answers::tables` meets its contract. Assumes nothing.
use mathlib.Core.Path.{sym, ◌∙◌}
use mathlib.Core.List.{[]}
use native.Mathlib.Omega.{arith}
use Rattle.network.proofs.TestLaws.{handed-on}
use Rattle.answers.proofs.Named.{named}
use Rattle.answers.proofs.Given.{tables-refused, tables-done}
use Rattle.answers.proofs.tables.Goals as goal

pub returns-in_err-gate_test : goal.returns-in_err-gate_test
returns-in_err-gate_test c =
    handed-on c.from_residual.ensures.1 (tables-refused c.args.s c.args.gate (sym c.gate_test.ensures ∙ c.in_err-gate_test.was))

pub overflow_sub-g : goal.overflow_sub-g
overflow_sub-g c = let v = named c.args.s c.args.gate [] (sym c.gate_test.ensures ∙ c.in_ok-gate_test.was) in omega (arith, v.low, v.high, v.most)

pub gate_tables-t-requires : goal.gate_tables-t-requires
gate_tables-t-requires c =
    let s = c.args.s in
    let v = named s c.args.gate [] (sym c.gate_test.ensures ∙ c.in_ok-gate_test.was) in
    record { s_value = v.valid; g_lt_m = omega (arith, v.low, v.high) }

pub sdc-d-requires : goal.sdc-d-requires
sdc-d-requires c =
    let s = c.args.s in
    let v = named s c.args.gate [] (sym c.gate_test.ensures ∙ c.in_ok-gate_test.was) in
    record { s_value = v.valid; g_lt_m = omega (arith, v.low, v.high) }

pub offset_bounds-s-g : goal.offset_bounds-s-g
offset_bounds-s-g c = let v = named c.args.s c.args.gate [] (sym c.gate_test.ensures ∙ c.in_ok-gate_test.was) in omega (arith, v.low, v.high, v.most)

pub bounds-s-g : goal.bounds-s-g
bounds-s-g c = let v = named c.args.s c.args.gate [] (sym c.gate_test.ensures ∙ c.in_ok-gate_test.was) in omega (arith, v.low, v.high, v.most)

pub returns : goal.returns
returns c =
    let s = c.args.s in
    let v = named s c.args.gate [] (sym c.gate_test.ensures ∙ c.in_ok-gate_test.was) in
    rw c.from-n.ensures (tables-done s c.args.gate (sym c.gate_test.ensures ∙ c.in_ok-gate_test.was) v.low
    (rw c.from-n.ensures at c.sdc-d.ensures) (rw c.from-n.ensures at c.gate_tables-t.ensures.0) (rw c.from-n.ensures at c.gate_tables-t.ensures.1))
