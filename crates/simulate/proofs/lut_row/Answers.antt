-- `simulate::lut_row` meets its contract. Assumes nothing.
use borrow.Author.Rules.{rules}
use native.Mathlib.Omega.{arith}
use Rattle.simulate.specs.Simulated.{first_fanins}
use Rattle.simulate.proofs.RowLaws.{row-entry}
use Rattle.simulate.proofs.lut_row.Goals as goal

pub returns-then-k-eq1 : goal.returns-then-k-eq1
unfolding first_fanins
returns-then-k-eq1 c =
    let a = c.args in
    row-entry a.t a.arity.now a.fanins.now a.rows.now _ 1 a.g a.count c.requires.gate_ok (omega arith)
    (record { long = c.fill_row.ensures.0; each = λ w b h k. let word = c.fill_row.ensures.1 w h in search rules })

pub returns-then-k-eq2 : goal.returns-then-k-eq2
unfolding first_fanins
returns-then-k-eq2 c =
    let a = c.args in
    row-entry a.t a.arity.now a.fanins.now a.rows.now _ 2 a.g a.count c.requires.gate_ok (omega arith)
    (record { long = c.fill_row-then-k-eq2.ensures.0; each = λ w b h k. let word = c.fill_row-then-k-eq2.ensures.1 w h in search rules })

pub returns-then-k-eq3 : goal.returns-then-k-eq3
unfolding first_fanins
returns-then-k-eq3 c =
    let a = c.args in
    row-entry a.t a.arity.now a.fanins.now a.rows.now _ 3 a.g a.count c.requires.gate_ok (omega arith)
    (record { long = c.fill_row-then-k-eq3.ensures.0; each = λ w b h k. let word = c.fill_row-then-k-eq3.ensures.1 w h in search rules })

pub returns-then-k-eq4 : goal.returns-then-k-eq4
unfolding first_fanins
returns-then-k-eq4 c =
    let a = c.args in
    row-entry a.t a.arity.now a.fanins.now a.rows.now _ 4 a.g a.count c.requires.gate_ok (omega arith)
    (record { long = c.fill_row-then-k-eq4.ensures.0; each = λ w b h k. let word = c.fill_row-then-k-eq4.ensures.1 w h in search rules })

pub returns : goal.returns
returns c =
    let a = c.args in
    row-entry a.t a.arity.now a.fanins.now a.rows.now _ _ a.g a.count c.requires.gate_ok c.from-k.ensures c.wide_row.ensures
