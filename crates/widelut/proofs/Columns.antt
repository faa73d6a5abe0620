-- Rows of the functions of two inputs, over plain lists: a fact of each place of a list, the low digit of a table. Assumes nothing.
use mathlib.Core.Path.{◌≡◌, sym, ap, ◌∙◌, subst}
use mathlib.Core.Bool.{Bool}
use mathlib.Core.List.{List, [], ◌∷◌}
use Prim.Native.Nat.{ℕ, zero, suc, ◌+◌, ◌/◌, ◌%◌, ◌<◌}
use native.Mathlib.Nat.{add-zero, zero-add, add-suc, suc-add, le_of_suc-le-suc, not-suc-le-zero, div-add-mod'}
use lib.ListN.{length, get_or}
use Rattle.bits.specs.Bit.{bit, number}
use Rattle.bits.proofs.BitLaws.{bit-low}
use Rattle.bits.proofs.Ranges.{number_lt}

-- F holds of each element of the list and its place, counted from s
pub data Listed (F : ℕ → ℕ → Type 0) : ℕ → List ℕ → Type 0 where
  none : {s : ℕ} → Listed F s []
  more : {s x : ℕ} {l : List ℕ} → F s x → Listed F (suc s) l → Listed F s (x ∷ l)

listed-from : (F : ℕ → ℕ → Type 0) (l : List ℕ) (s : ℕ) → Listed F s l → (t : ℕ) → t < length l → F (s + t) (get_or l t 0)
listed-from F [] s none t h = absurd (not-suc-le-zero h)
listed-from F (x ∷ l) s (more here all) zero h = subst (λ (m : ℕ). F m x) (sym (add-zero s)) here
listed-from F (x ∷ l) s (more here all) (suc t) h =
    subst (λ (m : ℕ). F m (get_or l t 0)) (suc-add s t ∙ sym (add-suc s t)) (listed-from F l (suc s) all t (le_of_suc-le-suc h))

pub listed : (F : ℕ → ℕ → Type 0) {l : List ℕ} → Listed F 0 l → (t : ℕ) → t < length l → F t (get_or l t 0)
listed F {l} all t h = subst (λ (m : ℕ). F m (get_or l t 0)) (zero-add t) (listed-from F l 0 all t h)

-- a table of two inputs is its lowest four entries
pub two-inputs : (t : ℕ) (x y : Bool) → bit (t % 16) (number (x ∷ y ∷ [])) ≡ bit t (number (x ∷ y ∷ []))
two-inputs t x y =
    sym (bit-low (t / 16) 4 (t % 16) (number (x ∷ y ∷ [])) (number_lt (x ∷ y ∷ [])))
    ∙ ap (λ (n : ℕ). bit n (number (x ∷ y ∷ []))) (div-add-mod' t 16)
