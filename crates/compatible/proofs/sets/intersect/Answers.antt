-- `compatible::sets::intersect` meets its contract. Assumes nothing.
use mathlib.Core.Path.{sym, ap, ◌∙◌}
use mathlib.Core.List.{List}
use Prim.Native.Nat.{ℕ, ◌+◌, ◌*◌}
use native.Mathlib.Omega.{arith}
use lib.Bits.{bit_and, bit_or}
use lib.ListN.{get_or}
use Rattle.bits.specs.Bounds.{row_words}
use Rattle.simulate.specs.Simulated.{words_at}
use Rattle.simulate.proofs.RowLaws.{words-at, store_step}
use Rattle.compatible.proofs.sets.intersect.Goals as goal

pub loop-w-preserved : goal.loop-w-preserved
loop-w-preserved c =
    let l = c.loop-w in
    let a = c.args in
    let x = bit_or (get_or a.x.now l.w 0) (get_or a.y.now l.w 0) in
    store_step a.hs.now l.hs (λ v. bit_and (get_or (words_at a.hs.now v) a.s 0) (bit_or (get_or a.x.now v 0) (get_or a.y.now v 0))) a.s l.w (bit_and (get_or l.hs (row_words * a.s + l.w) 0) x) (omega arith) (omega arith) l.invariant
    (ap (λ (y : ℕ). bit_and y x) (sym (words-at l.hs l.w a.s (omega arith)) ∙ ap (λ (z : List ℕ). get_or z a.s 0) (l.invariant.2 l.w (omega arith) (omega arith))))
