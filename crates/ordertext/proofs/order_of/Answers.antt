-- `order_of`. Assumes nothing.
use mathlib.Core.Path.{refl, sym, ap, ◌∙◌}
use native.Mathlib.Omega.{arith}
use Rattle.ordertext.proofs.Turns.{start, no-pair, pair_inside, turn, reads-no-pair, reads-blank, reads-pairs}
use Rattle.ordertext.specs.declared.Split.{Split}
use Rattle.ordertext.specs.Reads.{split_of}
use Rattle.ordertext.proofs.order_of.Goals as goal

pub loop-at-init : goal.loop-at-init
loop-at-init c = start c.args.text.now _ _ _ _ c.find-at.result (record { gates-long = refl; tables-long = refl; starts-long = refl; ends-long = refl }) c.find-at.ensures.0 c.find-at.ensures.1

pub returns-then-not-is_pair : goal.returns-then-not-is_pair
returns-then-not-is_pair c =
    let text = c.args.text.now in
    let h = c.loop-at in
    let f = c.find-end in
    let t = c.loop-at-test.true in
    reads-no-pair text h.gates h.tables h.starts h.ends h.at f.result
    (no-pair h.invariant f.result t f.ensures.0 f.ensures.1 (sym c.is_pair.ensures ∙ c.if-not-is_pair.true))
    (omega arith) f.ensures.1

pub overflow_add-ends : goal.overflow_add-ends
unfolding split_of
overflow_add-ends c =
    let h = c.loop-at in
    let f = c.find-end in
    let i = pair_inside h.invariant f.result c.loop-at-test.true f.ensures.0 f.ensures.1 (sym c.is_pair.ensures ∙ c.if-not-is_pair.false) in
    let e = ap (λ (p : Split). p.size) c.split_pair-p.ensures in
    let l = f.ensures.1 in
    omega arith

pub loop-at-preserved : goal.loop-at-preserved
unfolding split_of
loop-at-preserved c =
    let h = c.loop-at in
    let f = c.find-end in
    let t = c.loop-at-test.true in
    let p = c.split_pair-p in
    turn h.invariant f.result t f.ensures.0 f.ensures.1
    (sym c.is_pair.ensures ∙ c.if-not-is_pair.false)
    (omega (arith, h.invariant.few t))
    p.result.signal p.result.table p.result.size
    (ap (λ (x : Split). x.signal) p.ensures) (ap (λ (x : Split). x.table) p.ensures) (ap (λ (x : Split). x.size) p.ensures)
    c.find-at-in-loop-at.result c.find-at-in-loop-at.ensures.0 c.find-at-in-loop-at.ensures.1

pub returns-then-n-eq0 : goal.returns-then-n-eq0
returns-then-n-eq0 c =
    let h = c.loop-at in
    reads-blank h.invariant c.loop-at-test.false c.if-n-eq0.true

pub returns : goal.returns
returns c =
    let h = c.loop-at in
    reads-pairs h.invariant c.loop-at-test.false (omega (arith, c.if-n-eq0.false)) c.requires
