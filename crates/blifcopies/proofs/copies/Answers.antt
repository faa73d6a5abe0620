-- `copies`: those of the outputs passed are counted. Assumes nothing.
use mathlib.Core.Path.{◌≡◌, ap, ◌∙◌}
use Prim.Native.Nat.{ℕ}
use native.Mathlib.Omega.{arith}
use lib.ListN.{length}
use borrow.Author.Rules.{rules}
use mir.Val.{bool_byte}
use Rattle.bits.specs.Range.{count}
use Rattle.network.specs.Bounds.{most_outputs}
use Rattle.blifcopies.specs.Copies.{copy_due}
use Rattle.blifcopies.proofs.Growth.{count_next, num-few, bool_byte-num}
use Rattle.blifcopies.proofs.copies.Goals as goal

pub loop-i-preserved : goal.loop-i-preserved
loop-i-preserved c =
    let x = c.args in
    let due = copy_due x.n x.outs in
    let e = count_next due c.loop-i.i in
    let f = c.from-c.ensures ∙ ap bool_byte c.copy_due.ensures ∙ bool_byte-num (due c.loop-i.i) in
    let n = num-few (due c.loop-i.i) in
    (omega arith, omega arith)

pub returns : goal.returns
returns c =
    let x = c.args in
    let e : c.loop-i.i ≡ x.p = omega arith in
    let n : length x.outs ≡ most_outputs = search rules in
    (c.loop-i.invariant.1 ∙ ap (λ (i : ℕ). count i (copy_due x.n x.outs)) e, omega arith, n)
