-- `put_marks`: the marks passed are laid. Assumes nothing.
use mathlib.Core.Path.{ap, ◌∙◌}
use Prim.Native.Nat.{◌+◌}
use native.Mathlib.Omega.{arith}
use mir.Val.{bool_byte}
use Rattle.blifcopies.proofs.Growth.{bool_byte-num}
use Rattle.blifwrite.proofs.Pieces.{marks-within, mark-next}
use Rattle.blifwrite.proofs.put_marks.Goals as goal

pub bounds-buf-a : goal.bounds-buf-a
bounds-buf-a c =
    let w = marks-within c.loop-r.r c.args.t c.loop-r.invariant in
    omega arith

pub overflow_add-a : goal.overflow_add-a
overflow_add-a c =
    let w = marks-within c.loop-r.r c.args.t c.loop-r.invariant in
    omega arith

pub loop-r-preserved : goal.loop-r-preserved
loop-r-preserved c =
    mark-next c.loop-r.r c.args.t _ c.loop-r.invariant (ap (λ n. 0x30 + n) (c.from.ensures ∙ ap bool_byte c.bit_of.ensures ∙ bool_byte-num _))
