-- `put_pair`: piece after piece. Assumes nothing.
use mathlib.Core.Path.{◌≡◌}
use Prim.Native.Nat.{ℕ, ◌-◌, ◌≤◌}
use native.Mathlib.Omega.{arith}
use lib.ListN.{get_or}
use Rattle.network.specs.declared.Session.{Session}
use Rattle.network.specs.Calls.{exchange_answer}
use Rattle.network.specs.Flat.{loaded_net}
use Rattle.text.specs.Numbers.{word_digits}
use Rattle.tabletext.specs.Digits.{digits}
use Rattle.tabletext.proofs.DigitLaws.{digits-few}
use Rattle.desk.specs.Answer.{pair_line}
use Rattle.answertext.proofs.Pieces.{Due, due, due-room, due-next, due-done}
use Rattle.answertext.proofs.Printed.{pair_pieces, exchange-answer, pair-pieces, pair-entry}
use Rattle.answertext.proofs.put_pair.Goals as goal
use Rattle.answertext.proofs.put_pair.Goals.{After-map-y}

few : (s : Session) (c : ℕ) → c ≡ digits (loaded_net s) → c ≤ word_digits
few s c d = let f = digits-few (loaded_net s) in omega arith

answered : (c : After-map-y) → c.map-y.result ≡ exchange_answer c.args.s (record { signal = c.args.gate; table = c.args.table })
answered c = exchange-answer c.args.s _ _ c.exchange.ensures c.map-y.ensures.cases c.map-y.ensures.variant

-- no piece is laid
none : (c : After-map-y) → let x = c.args in
    Due x.buf.now x.at (pair_line x.s (record { gate = x.name.now; table = x.table })) x.buf.now x.at (pair_pieces x.name.now x.digits (get_or x.s.loaded (x.gate - x.s.n) 0) x.table c.map-y.result)
none c =
    let x = c.args in
    let g = c.requires.gate_value in
    due x.buf.now x.at (pair_pieces x.name.now x.digits (get_or x.s.loaded (x.gate - x.s.n) 0) x.table c.map-y.result)
    (pair-pieces x.s x.name.now x.gate x.table x.digits c.map-y.result g.0 g.1 (answered c))
    c.requires.shown.1

pub put_around-a-requires : goal.put_around-a-requires
put_around-a-requires c = due-room (none (goal.at.put_around-a-requires c).After-map-y)

pub put_hex-b-requires : goal.put_hex-b-requires
put_hex-b-requires c =
    (few c.args.s c.args.digits c.requires.gate_value.1, due-room (due-next (none (goal.at.put_hex-b-requires c).After-map-y) c.put_around-a.ensures))

pub copy-c-requires : goal.copy-c-requires
copy-c-requires c = due-room (due-next (due-next (none (goal.at.copy-c-requires c).After-map-y) c.put_around-a.ensures) c.put_hex-b.ensures)

pub put_hex-d-requires : goal.put_hex-d-requires
put_hex-d-requires c = (
  few c.args.s c.args.digits c.requires.gate_value.1,
  due-room (due-next (due-next (due-next (none (goal.at.put_hex-d-requires c).After-map-y) c.put_around-a.ensures) c.put_hex-b.ensures) c.copy-c.ensures),
)

pub put_open-requires : goal.put_open-requires
put_open-requires c =
    let x = c.args in
    let d = (goal.at.put_open-requires c).After-map-y in (
      pair-entry x.s x.name.now x.gate x.table x.digits c.map-y.result c.requires.gate_value.0 c.requires.gate_value.1 (answered d) c.requires.shown.0,
      due-room (due-next (due-next (due-next (due-next (none d) c.put_around-a.ensures) c.put_hex-b.ensures) c.copy-c.ensures) c.put_hex-d.ensures),
    )

pub returns : goal.returns
returns c =
    due-done (due-next (due-next (due-next (due-next (due-next (none (goal.at.returns c).After-map-y) c.put_around-a.ensures) c.put_hex-b.ensures) c.copy-c.ensures) c.put_hex-d.ensures) c.put_open.ensures)
