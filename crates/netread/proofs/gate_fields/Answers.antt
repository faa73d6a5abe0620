-- `gate_fields`: one test after the other. Assumes nothing.
use native.Mathlib.Omega.{arith}
use Rattle.network.proofs.TestLaws.{handed-on}
use Rattle.netread.proofs.Records.{fields-fanins, fields-table}
use Rattle.netread.proofs.gate_fields.Goals as goal

pub returns-in_err-fanins_test : goal.returns-in_err-fanins_test
returns-in_err-fanins_test c =
    let f = c.fanins_test in
    let r = c.range_test in
    let a = c.args in
    handed-on c.from_residual-in_err-fanins_test.ensures.1
    (fields-fanins a.least a.most a.bytes a.limit a.rest.now (omega arith) r.result r.ensures c.in_ok-range_test.was (omega arith) f.result f.ensures _ c.in_err-fanins_test.was)

pub returns : goal.returns
returns c =
    let f = c.fanins_test in
    let r = c.range_test in
    let a = c.args in
    rw (c.table_test.ensures, c.table.ensures)
    (fields-table a.least a.most a.bytes a.limit a.rest.now (omega arith) r.result r.ensures c.in_ok-range_test.was (omega arith) f.result f.ensures c.in_ok-fanins_test.was)
