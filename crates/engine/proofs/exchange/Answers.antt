-- `engine::exchange` meets its contract. Assumes nothing.
use native.Mathlib.Omega.{arith}
use Rattle.answers.proofs.Named.{exchange-named}
use Rattle.engine.proofs.ByAnswer.{exchange-refused, exchange-done}
use Rattle.network.proofs.TestLaws.{handed-on}
use Rattle.engine.proofs.exchange.Goals as goal

pub returns-in_err-exchange_answer : goal.returns-in_err-exchange_answer
returns-in_err-exchange_answer c =
    handed-on c.from_residual.ensures.1 (exchange-refused c.args.s (record { signal = c.args.gate; table = c.args.table }) c.exchange_answer.ensures c.in_err-exchange_answer.was)

pub overflow_sub-g : goal.overflow_sub-g
overflow_sub-g c =
    let v = exchange-named c.args.s (record { signal = c.args.gate; table = c.args.table }) c.exchange_answer.ensures c.in_ok-exchange_answer.was in
    omega (arith, v.low, v.high, v.most)

pub offset_bounds-t-g : goal.offset_bounds-t-g
offset_bounds-t-g c =
    let v = exchange-named c.args.s (record { signal = c.args.gate; table = c.args.table }) c.exchange_answer.ensures c.in_ok-exchange_answer.was in
    omega (arith, v.low, v.high, v.most)

pub bounds-t-g : goal.bounds-t-g
bounds-t-g c =
    let v = exchange-named c.args.s (record { signal = c.args.gate; table = c.args.table }) c.exchange_answer.ensures c.in_ok-exchange_answer.was in
    omega (arith, v.low, v.high, v.most)

pub returns : goal.returns
returns c =
    exchange-done c.args.s (record { signal = c.args.gate; table = c.args.table }) c.exchange_answer.ensures c.in_ok-exchange_answer.was
