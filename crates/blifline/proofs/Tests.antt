-- What a row is, and the words of a `.names` line by their number. Assumes nothing.
use mathlib.Core.Path.{◌≡◌, refl, sym, ap, ◌∙◌}
use mathlib.Core.Bool.{Bool, true, false, cond, ◌&&◌, ◌||◌}
use mathlib.Core.List.{List, [], ◌∷◌}
use Prim.Native.Nat.{ℕ, ◌-◌}
use native.Mathlib.Omega.{arith}
use lib.Dec.{eqb}
use lib.ListN.{length, get_or, take, drop}
use borrow.Author.Tests.{ne_eqb, eqb-true}
use Rattle.bits.proofs.Logic.{clash}
use Rattle.bits.proofs.Ranges.{by_cases, and_l, and_r}
use Rattle.text.specs.Words.{Text, all}
use Rattle.blif.specs.Cover.{is_mark, is_digit}
use Rattle.blif.specs.Read.{same, opens, fanin_names, own_names}
use Rattle.blifline.specs.Rows.{is_out, is_row_of, digit_of}

-- ## What a row is

one_byte : (out : Text) → length out ≡ 1 → out ≡ get_or out 0 0 ∷ []
one_byte [] e = let n : ⊥ = omega arith in absurd n
one_byte (d ∷ []) e = refl
one_byte (d ∷ b ∷ out) e = let n : ⊥ = omega arith in absurd n

no-dot : (w v : Text) → all is_mark w ≡ true → same w (0x2E ∷ v) ≡ false
no-dot [] v e = refl
no-dot (b ∷ w) v e = rw (ne_eqb b 0x2E (λ z. clash (ap is_mark (sym z) ∙ and_l (is_mark b) (all is_mark w) e) refl))

module _ (k digit : ℕ) (line : List Text) where
  pub row-given : (digit_of k digit line ≡ 0 → ⊥) → is_row_of k digit line ≡ true
  row-given n = by_cases (is_row_of k digit line) (λ t. t) (λ f. absurd (n (ap (λ (b : Bool). cond b (get_or (get_or line 1 []) 0 0) 0) f)))

  module _ (t : is_row_of k digit line ≡ true) where
    abbrev ra : Bool
    ra = eqb (length line) 2

    abbrev rb : Bool
    rb = eqb (length (get_or line 0 [])) k

    abbrev rc : Bool
    rc = all is_mark (get_or line 0 [])

    abbrev rd : Bool
    rd = is_out digit (get_or line 1 [])

    out-part : is_out digit (get_or line 1 []) ≡ true
    out-part = and_r rc rd (and_r rb (rc && rd) (and_r ra (rb && (rc && rd)) t))

    row-marks : all is_mark (get_or line 0 []) ≡ true
    row-marks = and_l rc rd (and_r rb (rc && rd) (and_r ra (rb && (rc && rd)) t))

    -- a row opens with no word that has a dot in front
    pub row-closed : (v : Text) → opens (0x2E ∷ v) line ≡ false
    row-closed v = no-dot (get_or line 0 []) v row-marks

    pub row-digit-is : digit_of k digit line ≡ get_or (get_or line 1 []) 0 0
    row-digit-is = ap (λ (b : Bool). cond b (get_or (get_or line 1 []) 0 0) 0) t

    -- a digit is not 0
    pub row-some : get_or (get_or line 1 []) 0 0 ≡ 0 → ⊥
    row-some z =
        let out = get_or line 1 [] in
        let one = eqb-true (length out) 1 (and_l (eqb (length out) 1) (all is_digit out && (eqb digit 0 || eqb digit (get_or out 0 0))) out-part) in
        let ds = and_l (all is_digit out) (eqb digit 0 || eqb digit (get_or out 0 0)) (and_r (eqb (length out) 1) (all is_digit out && (eqb digit 0 || eqb digit (get_or out 0 0))) out-part) in
        let p : is_digit (get_or out 0 0) ≡ true = and_l (is_digit (get_or out 0 0)) true (sym (ap (all is_digit) (one_byte out one)) ∙ ds) in
        let q : is_digit 0 ≡ true = ap is_digit (sym z) ∙ p in
        let n : ◌≡◌ {A = ℕ} 0 1 = ap (λ (b : Bool). cond b 1 0) q in
        omega arith

-- ## A `.names` line

-- the fan-ins' names and the own name, by their number
module _ (k n : ℕ) (fs ws : List Text) (a : k ≡ n - 1) (b : n ≡ length fs) (e : fs ≡ ws) where
  pub fanins-are : take k fs ≡ fanin_names ws
  fanins-are = rw (a, b, e)

  pub own_is : drop k fs ≡ own_names ws
  own_is = rw (a, b, e)
