-- `numeral`. Assumes nothing.
use mathlib.Core.Path.{ap, ◌∙◌}
use Prim.Native.Nat.{ℕ, ◌+◌, ◌*◌}
use native.Mathlib.Omega.{arith}
use lib.ListN.{length, get_or, drop}
use Rattle.ordertext.specs.Order.{digit_of, onward, numeral}
use Rattle.ordertext.proofs.Numerals.{digit-below, digit_room, onward-next, onward-done}
use Rattle.ordertext.proofs.numeral.Goals as goal

pub overflow_mul-v : goal.overflow_mul-v
overflow_mul-v c =
    let a = c.args in
    let h = c.loop-b in
    let d = digit-below a.base a.w.now h.b-index c.requires.0 c.loop-b-test.true in
    let r = digit_room a.base h.v (digit_of (get_or a.w.now h.b-index 0)) h.b-index (length a.w.now) h.invariant.0 d c.loop-b-test.true c.requires.1 in
    omega arith

pub overflow_add-v : goal.overflow_add-v
overflow_add-v c =
    let a = c.args in
    let h = c.loop-b in
    let t = c.loop-b-test.true in
    let e = c.digit.ensures.0 in
    let d = digit-below a.base a.w.now h.b-index c.requires.0 t in
    let r = digit_room a.base h.v c.digit.result h.b-index (length a.w.now) h.invariant.0 (omega arith) t c.requires.1 in
    omega arith

pub loop-b-preserved : goal.loop-b-preserved
loop-b-preserved c =
    let a = c.args in
    let h = c.loop-b in
    let t = c.loop-b-test.true in
    let e = c.digit.ensures.0 in
    let d = digit-below a.base a.w.now h.b-index c.requires.0 t in
    let r = digit_room a.base h.v c.digit.result h.b-index (length a.w.now) h.invariant.0 (omega arith) t c.requires.1 in (
      r.0,
      ap (λ (x : ℕ). onward a.base (h.v * a.base + x) (drop (h.b-index + 1) a.w.now)) e ∙ onward-next a.base h.v a.w.now h.b-index t ∙ h.invariant.1,
    )

pub returns : goal.returns
unfolding numeral
returns c =
    let h = c.loop-b in
    let a = c.args in
    onward-done a.base h.v a.w.now h.b-index (omega arith) ∙ h.invariant.1
