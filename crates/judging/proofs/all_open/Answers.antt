-- `all_open`: those not passed are all open as all are. Assumes nothing.
use native.Mathlib.Omega.{arith}
use Rattle.judging.proofs.Judging.{open-stops, open_next, open-end}
use Rattle.judging.proofs.all_open.Goals as goal

pub returns-then-is_err : goal.returns-then-is_err
returns-then-is_err c =
    let x = c.args in
    open-stops x.s x.gates.now x.tables.now c.loop-i.i c.loop-i-test.true (omega arith) c.loop-i.invariant c.exchange.ensures c.if-is_err.ensures.value

pub loop-i-preserved : goal.loop-i-preserved
loop-i-preserved c =
    let x = c.args in
    open_next x.s x.gates.now x.tables.now c.loop-i.i c.loop-i-test.true (omega arith) c.loop-i.invariant c.exchange.ensures c.if-is_err.ensures.value

pub returns : goal.returns
returns c =
    let x = c.args in
    open-end x.s x.gates.now x.tables.now c.loop-i.i (omega arith) c.loop-i.invariant
