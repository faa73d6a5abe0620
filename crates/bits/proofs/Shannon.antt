-- A table of k + 1 inputs by its two halves, and by the lower one and the difference. Assumes nothing.
use mathlib.Core.Path.{◌≡◌, refl, ap, ap₂, ◌∙◌}
use mathlib.Core.Bool.{Bool, true, false, ◌&&◌}
use mathlib.Core.List.{List, [], ◌∷◌, ◌++◌}
use Prim.Native.Nat.{ℕ, ◌+◌, ◌*◌, ◌^◌, ◌/◌}
use native.Mathlib.Nat.{pow-suc}
use native.Mathlib.Omega.{arith}
use lib.Bits.{bit_and, bit_xor}
use lib.ListN.{length}
use Rattle.bits.specs.Range.{num}
use Rattle.bits.specs.Bit.{bit, choose, differs, number}
use Rattle.bits.proofs.BitLaws.{bit-and, bit-xor, bit-shr}

-- the last input of an entry weighs 2 ^ (the number of the others)
pub number-snoc : (bs : List Bool) (d : Bool) → number (bs ++ (d ∷ [])) ≡ num d * 2 ^ length bs + number bs
number-snoc [] d = omega arith
number-snoc (b ∷ bs) d = omega (arith, number-snoc bs d, ap (λ (n : ℕ). num d * n) (pow-suc 2 (length bs)))

pub halves : (t : ℕ) (bs : List Bool) (d : Bool)
    → choose d (bit (t / 2 ^ (2 ^ length bs)) (number bs)) (bit t (number bs)) ≡ bit t (number (bs ++ (d ∷ [])))
halves t bs true = bit-shr t (2 ^ length bs) (number bs) ∙ ap (bit t) (omega (arith, number-snoc bs true))
halves t bs false = ap (bit t) (omega (arith, number-snoc bs false))

pub chosen : (s h l : Bool) → differs l (s && differs l h) ≡ choose s h l
chosen true true true = refl
chosen true true false = refl
chosen true false true = refl
chosen true false false = refl
chosen false h true = refl
chosen false h false = refl

-- lo is the table's lower half at place i, and up its difference from the upper half
pub davio : (t lo up x i : ℕ) (bs : List Bool) → bit lo i ≡ bit t (number bs) → bit up i ≡ bit (bit_xor t (t / 2 ^ (2 ^ length bs))) (number bs)
    → bit (bit_xor lo (bit_and x up)) i ≡ bit t (number (bs ++ (bit x i ∷ [])))
davio t lo up x i bs l u =
    bit-xor lo (bit_and x up) i
    ∙ ap₂ differs l (bit-and x up i ∙ ap (λ (v : Bool). bit x i && v) (u ∙ bit-xor t (t / 2 ^ (2 ^ length bs)) (number bs)))
    ∙ chosen (bit x i) (bit (t / 2 ^ (2 ^ length bs)) (number bs)) (bit t (number bs))
    ∙ halves t bs (bit x i)
