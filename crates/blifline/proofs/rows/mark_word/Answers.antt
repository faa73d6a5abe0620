-- `blifline::mark_word` meets its contract. Assumes nothing.
use mathlib.Core.Path.{sym, ◌∙◌}
use Rattle.bits.proofs.BitLaws.{bit-ones, bit-zero}
use Rattle.blifline.proofs.Covers.{marked-none}
use Rattle.blifline.proofs.rows.mark_word.Goals as goal

pub returns-then-b-eq45 : goal.returns-then-b-eq45
returns-then-b-eq45 c t h = bit-ones 64 t h ∙ sym (rw c.if-b-eq45.true)

pub returns : goal.returns
returns c t h = let a = c.args in bit-zero t ∙ sym (marked-none a.b a.r t c.if-b-eq45.false c.if-b-eq49.false c.if-b-eq48.false)
