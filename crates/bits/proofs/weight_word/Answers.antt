-- The table's rule at the bits that are left for the place. Assumes nothing.
use mathlib.Core.Path.{◌≡◌, ◌∙◌}
use mathlib.Core.List.{List, [], ◌∷◌}
use Prim.Native.Nat.{ℕ, ◌<◌}
use native.Mathlib.Omega.{arith}
use lib.Dec.{eqb}
use lib.ListN.{get_or}
use Rattle.bits.specs.Range.{count}
use Rattle.bits.specs.Bit.{bit}
use Rattle.bits.proofs.BitLaws.{bit-zero}
use Rattle.bits.proofs.Table.{word-rule}
use Rattle.bits.proofs.Weights.{weight-few, weight-many, weight-at}
use Rattle.bits.proofs.weight_word.Goals as goal

weights : List ℕ
weights =
    0x0000_0000_0000_0001 ∷ 0x0000_0001_0001_0116 ∷ 0x0001_0116_0116_1668 ∷ 0x0116_1668_1668_6880 ∷ 0x1668_6880_6880_8000 ∷ 0x6880_8000_8000_0000 ∷ 0x8000_0000_0000_0000 ∷ []

rule : (j b : ℕ) → j < 7 → b < 64 → bit (get_or weights j 0) b ≡ eqb (count 6 (bit b)) j
unfolding weights bit
rule j b hj hb = word-rule (λ j b. eqb (count 6 (bit b)) j) weights tt j b hj hb

pub returns-then-c-above : goal.returns-then-c-above
returns-then-c-above c n b hb h = let o = c in bit-zero b ∙ weight-few n _ b _ _ o.requires hb h o.ones-above.ensures c.if-c-above.true

pub returns-then-j-gt6 : goal.returns-then-j-gt6
returns-then-j-gt6 c n b hb h = let o = c in bit-zero b ∙ weight-many n _ b _ _ o.requires hb h o.ones-above.ensures c.if-j-gt6.true

pub returns : goal.returns
unfolding weights
returns c n b hb h =
    let o = c in
    rule _ b (omega arith) hb ∙ weight-at n _ b _ _ o.requires hb h o.ones-above.ensures c.if-c-above.false
