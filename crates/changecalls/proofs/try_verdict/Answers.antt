-- `changecalls::try_verdict` meets its contract. Assumes nothing.
use mathlib.Core.Path.{ap, ◌∙◌}
use mathlib.Core.List.{[]}
use Rattle.network.specs.declared.Session.{Session}
use Rattle.network.specs.Calls.{verdict_of}
use Rattle.network.proofs.TestLaws.{handed-on}
use Rattle.network.proofs.Valid.{state-e}
use Rattle.promises.specs.Boundary.{verdict_work}
use Rattle.promises.proofs.Leaves.{room-opens}
use Rattle.changecalls.proofs.Judged.{answer-unpack, answer-room, answer-last, words-pass}
use Rattle.changecalls.proofs.try_verdict.Goals as goal

pub returns-in_err-s : goal.returns-in_err-s
returns-in_err-s c = handed-on c.from_residual.ensures.1 (answer-unpack c.args.session.now c.args.out.now 2 _ c.in_err-s.ensures)

pub returns-in_err-room : goal.returns-in_err-room
returns-in_err-room c =
    handed-on c.from_residual-in_err-room.ensures.1 (answer-room c.args.session.now c.args.out.now 2 _ c.in_ok-s.ensures c.in_err-room.ensures)

pub verdict-requires : goal.verdict-requires
verdict-requires c =
    let a = c.args in
    state-e c.in_ok-s.s (room-opens (verdict_work a.gates.now a.tables.now) a.session.now [] a.out.now c.in_ok-s.ensures c.in_ok-room.ensures).valid

pub returns : goal.returns
returns c =
    let a = c.args in
    let y = verdict_of c.in_ok-s.s a.gates.now a.tables.now in
    answer-last a.session.now a.out.now 2 _ c.in_ok-s.ensures c.in_ok-room.ensures
    (c.verdict.ensures ∙ ap (λ (s : Session). verdict_of s a.gates.now a.tables.now) (words-pass a.session.now a.out.now 2 y c.in_ok-s.ensures).1)
