-- `put_pairs`: what is left to lay are the lines of the pairs not passed. Assumes nothing.
use mathlib.Core.Path.{◌≡◌}
use mathlib.Core.List.{List}
use Prim.Native.Nat.{ℕ, ◌+◌, ◌<◌}
use native.Mathlib.Omega.{arith}
use lib.ListN.{drop}
use Rattle.ordertext.specs.declared.Order.{Order}
use Rattle.ordertext.specs.Order.{most_pairs}
use Rattle.ordertext.specs.Reads.{pair_in, count_in, pairs_given, Reads}
use Rattle.ordertext.proofs.Given.{given-few, given-length, given-signal}
use Rattle.buffer.proofs.Laying.{pending-room, pending-step, pending_done}
use Rattle.desk.specs.Answer.{pair_line, pair_lines}
use Rattle.answertext.proofs.Printed.{given-shown, given-line, pairs-done}
use Rattle.answertext.proofs.put_pairs.Goals as goal

-- in a turn, the pair's place is one of the order's, and of the arrays'
turn : (o : Order) (n i : ℕ) → n ≡ count_in o.case → i < n → i < count_in o.case
turn o n i e t = omega arith

placed : (text : List ℕ) (o : Order) (n i : ℕ) → Reads text o → n ≡ count_in o.case → i < n → i < most_pairs
placed text o n i r e t = let f = given-few text o r in omega arith

pub digits_of-digits-requires : goal.digits_of-digits-requires
digits_of-digits-requires c = c.requires.1.gates

pub offset_bounds-o-i : goal.offset_bounds-o-i
offset_bounds-o-i c = let h = placed c.args.text.now c.args.o c.count-n.result c.loop-i.i c.requires.0 c.count-n.ensures c.loop-i-test.true in omega arith

pub bounds-o-i : goal.bounds-o-i
bounds-o-i c = let h = placed c.args.text.now c.args.o c.count-n.result c.loop-i.i c.requires.0 c.count-n.ensures c.loop-i-test.true in omega arith

pub offset_bounds-o-i-in-loop-i : goal.offset_bounds-o-i-in-loop-i
offset_bounds-o-i-in-loop-i c = let h = placed c.args.text.now c.args.o c.count-n.result c.loop-i.i c.requires.0 c.count-n.ensures c.loop-i-test.true in omega arith

pub bounds-o-i-in-loop-i : goal.bounds-o-i-in-loop-i
bounds-o-i-in-loop-i c = let h = placed c.args.text.now c.args.o c.count-n.result c.loop-i.i c.requires.0 c.count-n.ensures c.loop-i-test.true in omega arith

pub name-name-requires : goal.name-name-requires
name-name-requires c = (c.requires.0, turn c.args.o c.count-n.result c.loop-i.i c.count-n.ensures c.loop-i-test.true)

pub put_pair-a-requires : goal.put_pair-a-requires
put_pair-a-requires c =
    let x = c.args in
    let text = x.text.now in
    let r = c.requires.0 in
    let i = c.loop-i.i in
    let t = turn x.o c.count-n.result i c.count-n.ensures c.loop-i-test.true in
    let todo = pair_lines x.s (drop (i + 1) (pairs_given text x.o)) in
    rw c.name-name.ensures record {
      gate_value = (given-signal text x.o r i t, c.digits_of-digits.ensures);
      shown = (
        given-shown text x.o r x.s i t c.requires.1,
        pending-room (pair_line x.s (pair_in text x.o i)) todo c.loop-i.invariant (given-line text x.o r x.s i t) c.requires.2,
      );
    }

pub loop-i-preserved : goal.loop-i-preserved
loop-i-preserved c =
    let x = c.args in
    let text = x.text.now in
    let r = c.requires.0 in
    let i = c.loop-i.i in
    let k = c.loop-i-test.true in
    let t = turn x.o c.count-n.result i c.count-n.ensures k in
    pending-step {xs = pair_line x.s (pair_in text x.o i)} (pair_lines x.s (drop (i + 1) (pairs_given text x.o))) c.loop-i.invariant
    (given-line text x.o r x.s i t)
    (rw c.name-name.ensures at c.put_pair-a.ensures)

pub returns : goal.returns
returns c =
    let h = c.loop-i in
    let e = c.count-n.ensures in
    let n = given-length c.args.text.now c.args.o c.requires.0 in
    pending_done h.invariant (pairs-done c.args.s (pairs_given c.args.text.now c.args.o) h.i (omega arith))
