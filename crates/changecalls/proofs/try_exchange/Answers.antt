-- `changecalls::try_exchange` meets its contract. Assumes nothing.
use mathlib.Core.Path.{refl, ap, ◌∙◌}
use native.Mathlib.Omega.{arith}
use Rattle.network.specs.declared.Session.{Session}
use Rattle.network.specs.Net.{Replacement}
use Rattle.network.specs.Calls.{exchange_answer}
use Rattle.network.proofs.TestLaws.{handed-on}
use Rattle.network.proofs.Valid.{state-e}
use Rattle.answers.proofs.Named.{exchange-named}
use Rattle.promises.specs.Boundary.{exchange_work}
use Rattle.promises.proofs.Leaves.{room-opens}
use Rattle.changecalls.proofs.Judged.{answer-unpack, answer-room, answer-last, words-pass, giving-err}
use Rattle.changecalls.proofs.try_exchange.Goals as goal

pub returns-in_err-s : goal.returns-in_err-s
returns-in_err-s c = handed-on c.from_residual.ensures.1 (giving-err _ (answer-unpack c.args.session.now c.args.out.now 1 _ c.in_err-s.ensures))

pub returns-in_err-room : goal.returns-in_err-room
returns-in_err-room c =
    handed-on c.from_residual-in_err-room.ensures.1
    (giving-err _ (answer-room c.args.session.now c.args.out.now 1 _ c.in_ok-s.ensures c.in_err-room.ensures))

pub exchange-requires : goal.exchange-requires
exchange-requires c =
    let a = c.args in
    let r : Replacement = record { signal = a.gate; table = a.table } in
    state-e c.in_ok-s.s (room-opens (exchange_work r) a.session.now a.session.now a.out.now c.in_ok-s.ensures c.in_ok-room.ensures).valid

pub returns-in_err-exchange : goal.returns-in_err-exchange
returns-in_err-exchange c =
    let a = c.args in
    let r : Replacement = record { signal = a.gate; table = a.table } in
    let w = words-pass a.session.now a.out.now 1 (exchange_answer c.in_ok-s.s r) c.in_ok-s.ensures in
    handed-on c.from_residual-in_err-exchange.ensures.1
    (giving-err _ (answer-last a.session.now a.out.now 1 _ c.in_ok-s.ensures c.in_ok-room.ensures
    (c.in_err-exchange.ensures ∙ ap (λ (s : Session). exchange_answer s r) w.1)))

pub overflow_sub-result : goal.overflow_sub-result
overflow_sub-result c =
    let a = c.args in
    let v = exchange-named c.in_ok-s.s (record { signal = a.gate; table = a.table }) c.exchange.ensures c.in_ok-exchange.was in
    omega (arith, v.low, v.high, v.most)

pub returns : goal.returns
returns c =
    let a = c.args in
    let r : Replacement = record { signal = a.gate; table = a.table } in
    let w = words-pass a.session.now a.out.now 1 (exchange_answer c.in_ok-s.s r) c.in_ok-s.ensures in
    rw (
      ← answer-last a.session.now a.out.now 1 _ c.in_ok-s.ensures c.in_ok-room.ensures
          (c.in_ok-exchange.ensures ∙ ap (λ (s : Session). exchange_answer s r) w.1),
      ← w.1,
    ) refl
