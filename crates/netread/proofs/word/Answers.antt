use mathlib.Core.Path.{◌≡◌}
use Prim.Native.Nat.{suc, ◌+◌, ◌-◌}
use native.Mathlib.Omega.{arith}
use lib.ListN.{length}
use Rattle.netread.proofs.Steps.{word-step, word_room, word_more}
use Rattle.netread.proofs.word.Goals as goal

pub overflow_mul-w : goal.overflow_mul-w
overflow_mul-w c =
    let h = c.loop-j in
    let r = word_room h.w (length c.args.bs.now - h.j) h.invariant.1 (omega arith) in
    omega arith

pub overflow_add-w : goal.overflow_add-w
overflow_add-w c =
    let h = c.loop-j in
    let r = word_room h.w (length c.args.bs.now - h.j) h.invariant.1 (omega arith) in
    omega arith

pub loop-j-preserved : goal.loop-j-preserved
loop-j-preserved c =
    let bs = c.args.bs.now in
    let h = c.loop-j in
    let w = c.wide in
    let e : h.j ≡ suc (h.j - 1) = omega arith in
    let f : length bs - (h.j - 1) ≡ length bs - h.j + 1 = omega arith in (
      word-step bs (h.j - 1) h.w w.result (omega arith) (rw e at h.invariant.0) w.ensures.0,
      rw f (word_more h.w w.result (length bs - h.j) h.invariant.1 w.ensures.1),
    )
