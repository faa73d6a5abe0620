-- `blifline::row_word` meets its contract. Assumes nothing.
use Rattle.bits.proofs.BitLaws.{bit-ones}
use Rattle.blifline.proofs.Covers.{row_step}
use Rattle.blifline.proofs.rows.row_word.Goals as goal

pub loop-r-init : goal.loop-r-init
loop-r-init c = λ t h. bit-ones 64 t h

pub loop-r-preserved : goal.loop-r-preserved
loop-r-preserved c =
    let a = c.args in
    let h = c.loop-r in
    λ t l. row_step a.row.now h.w c.mark_word-w.result h.r t (h.invariant t l) (c.mark_word-w.ensures t l)
