-- Words laid into a buffer, place after place and stretch after stretch. Assumes nothing.
use mathlib.Core.Path.{◌≡◌, sym, ◌∙◌}
use mathlib.Core.List.{List, ◌++◌, append_assoc}
use Prim.Native.Nat.{ℕ, zero, suc, ◌+◌, ◌-◌, ◌*◌, ◌≤◌}
use native.Mathlib.Nat.{add-mul, one-mul, zero-mul, suc-mul}
use native.Mathlib.Numerals.{add-one}
use native.Mathlib.Omega.{arith}
use lib.ListN.{length, get_or, take, drop, length-append, length-drop}
use lib.Seq.{ext_get_or, get_or-take, take_at, drop_at, length-take-le, drop-drop}
use borrow.Rule.Slice.PartMut.{put_mid}
use Rattle.std.proofs.lemmas.List.{get_or-drop}
use Rattle.bits.specs.Bounds.{row_words}
use Rattle.bits.specs.Range.{places}
use Rattle.bits.proofs.Ranges.{length-places, places-at}
use Rattle.patternsets.specs.Stretches.{row, stretches}

-- the words of gate g's row, as a part of their array
pub row-is : (l : List ℕ) (w g : ℕ) → row_words * g + w ≤ length l → take (row_words * g + w - row_words * g) (drop (row_words * g) l) ≡ row l w g
row-is l w g h =
    let at = row_words * g in
    let p : ℕ → ℕ = λ i. get_or l (at + i) 0 in
    let k : at + w - at ≡ w = omega arith in
    let size : length (take w (drop at l)) ≡ w = length-take-le w (drop at l) (rw length-drop (omega arith)) in
    rw k (ext_get_or 0 (take w (drop at l)) (places w p) (size ∙ sym (length-places w p))
    (λ i hi. get_or-take w (drop at l) i 0 (omega arith) ∙ get_or-drop at l i 0 ∙ sym (places-at 0 w p i (omega arith))))

-- one stretch more, as a number of words
pub more-words : (g w : ℕ) → (g + 1) * w ≡ g * w + w
more-words g w = rw (add-mul, one-mul)

pub length-stretches : (odcs sets : List ℕ) (w g : ℕ) → length (stretches odcs sets w g) ≡ g * (w + w)
length-stretches odcs sets w zero = sym (zero-mul (w + w))
length-stretches odcs sets w (suc g) = rw (length-append, length-stretches odcs sets w g, length-append, length-places, length-places, suc-mul)

-- the stretch of gate g is laid after those before it
pub laid : (b odcs sets : List ℕ) (w g a : ℕ) (buf ys : List ℕ) → a ≡ g * (w + w)
    → buf ≡ stretches odcs sets w g ++ drop a b
    → ys ≡ row odcs w g ++ row sets w g
    → put_mid a (a + (w + w) - a) buf ys ≡ stretches odcs sets w (g + 1) ++ drop (a + (w + w)) b
laid b odcs sets w g a buf ys ea eb ey =
    let k : a + (w + w) - a ≡ w + w = omega arith in
    let ls : length (stretches odcs sets w g) ≡ a = length-stretches odcs sets w g ∙ sym ea in
    let D : drop a buf ≡ drop a b = rw eb (drop_at (stretches odcs sets w g) (drop a b) a ls) in
    let T : take a buf ≡ stretches odcs sets w g = rw eb (take_at (stretches odcs sets w g) (drop a b) a ls) in
    rw (k, T, D, ey, drop-drop (w + w) a b, add-one) (simp append_assoc)
