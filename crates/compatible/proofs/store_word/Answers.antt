-- `compatible::store_word` meets its contract. Assumes nothing.
use mathlib.Core.Path.{sym, ap, ◌∙◌}
use Prim.Native.Nat.{◌+◌, ◌*◌, ◌<◌}
use native.Mathlib.Omega.{arith}
use lib.Bits.{bit_and}
use lib.ListN.{length, get_or, length-set}
use lib.Seq.{get_or-set_other}
use Rattle.bits.specs.Bounds.{row_words}
use Rattle.simulate.specs.Simulated.{words_at}
use Rattle.simulate.proofs.RowLaws.{words-at}
use Rattle.compatible.proofs.Stores.{stored}
use Rattle.compatible.proofs.store_word.Goals as goal

pub loop-g-preserved : goal.loop-g-preserved
loop-g-preserved c =
    let a = c.args in
    let l = c.loop-g in
    let x = bit_and a.live (get_or a.hs.now (row_words * (a.n + l.g) + a.w) 0) in
    let h : row_words * l.g + a.w < length l.sets = omega arith in (
      simp length-set l.invariant.0,
      stored l.sets (λ q. bit_and a.live (get_or (words_at a.hs.now a.w) (a.n + q) 0)) a.w l.g x h l.invariant.1 (ap (bit_and a.live) (sym (words-at a.hs.now a.w (a.n + l.g) (omega arith)))),
      λ q v lv. get_or-set_other l.sets (row_words * l.g + a.w) (row_words * q + v) x 0 (λ e. omega arith) ∙ l.invariant.2 q v lv,
    )
