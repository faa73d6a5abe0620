-- Rows and the table of a cover, by bits. Assumes nothing.
use mathlib.Core.Path.{◌≡◌, refl, sym, ap, ◌∙◌}
use mathlib.Core.Bool.{Bool, true, false, not, ◌&&◌, ◌||◌, beq}
use mathlib.Core.List.{List, [], ◌∷◌, ◌++◌}
use Prim.Native.Nat.{ℕ, ◌+◌, ◌^◌, ◌≤◌, ◌<◌}
use native.Mathlib.Numerals.{add-one}
use native.Mathlib.Nat.{pow-le-pow_right, lt_of_lt_of_le}
use native.Mathlib.Omega.{arith}
use lib.Bits.{bit_and, bit_or}
use lib.Dec.{ltb, eqb}
use lib.ListN.{get_or}
use borrow.Author.Tests.{ltb-true, ltb-false, eqb-true, ne_eqb}
use Rattle.bits.specs.Bounds.{gate_places}
use Rattle.bits.specs.Range.{num, every}
use Rattle.bits.specs.Bit.{bit, table_of}
use Rattle.bits.proofs.Ranges.{by_cases, bit-table, table-lt, entries-most}
use Rattle.bits.proofs.BitLaws.{bit-and, bit-or, bit-ext, bit-above, bit-zero}
use Rattle.text.specs.Words.{Text}
use Rattle.blif.specs.Cover.{covers, covered, cover_table}
use Rattle.blifline.specs.Rows.{marked, Running}

-- ## A byte of a row

pub marked-none : (b r t : ℕ) → (b ≡ 0x2D → ⊥) → (b ≡ 0x31 → ⊥) → (b ≡ 0x30 → ⊥) → marked b r t ≡ false
marked-none b r t n o z = go (bit t r)
  where
    go : (v : Bool) → (eqb b 0x2D || eqb b (0x30 + num v)) ≡ false
    go true = rw (ne_eqb b 0x2D n, ne_eqb b 0x31 o)
    go false = rw (ne_eqb b 0x2D n, ne_eqb b 0x30 z)

-- one byte more of a row
pub row_step : (row : Text) (w x r t : ℕ) → bit w t ≡ every r (λ i. marked (get_or row i 0) i t) → bit x t ≡ marked (get_or row r 0) r t
    → bit (bit_and w x) t ≡ every (r + 1) (λ i. marked (get_or row i 0) i t)
row_step row w x r t h g = rw add-one (bit-and w x t ∙ rw (h, g))

-- ## The table

bit-of-table : (n : ℕ) (p : ℕ → Bool) (t : ℕ) → bit (table_of n p) t ≡ (ltb t n && p t)
bit-of-table n p t = by_cases (ltb t n) yes no
  where
    yes : ltb t n ≡ true → bit (table_of n p) t ≡ (ltb t n && p t)
    yes e = bit-table n p t (ltb-true t n e) ∙ sym (rw e)

    no : ltb t n ≡ false → bit (table_of n p) t ≡ (ltb t n && p t)
    no e = bit-above (table_of n p) n t (table-lt n p) (ltb-false t n e) ∙ sym (rw e)

table_is : (n r : ℕ) (p : ℕ → Bool) → n ≤ 64 → r < 2 ^ 64 → ((t : ℕ) → t < 64 → bit r t ≡ (ltb t n && p t)) → r ≡ table_of n p
table_is n r p l h e =
    bit-ext 64 r (table_of n p) h (lt_of_lt_of_le (table-lt n p) (pow-le-pow_right {n = 2} (omega arith) {i = n} {j = 64} l))
    (λ t m. e t m ∙ sym (bit-of-table n p t))

or-false : (a : Bool) → (a || false) ≡ a
or-false true = refl
or-false false = refl

or_assoc : (a b c : Bool) → (a || (b || c)) ≡ ((a || b) || c)
or_assoc true b c = refl
or_assoc false b c = refl

pub covered-snoc : (rows : List Text) (row : Text) (t : ℕ) → covered (rows ++ row ∷ []) t ≡ (covered rows t || covers row t)
covered-snoc [] row t = or-false (covers row t)
covered-snoc (r ∷ rows) row t = ap (λ (b : Bool). covers r t || b) (covered-snoc rows row t) ∙ or_assoc (covers r t) (covered rows t) (covers row t)

-- entry t of the cover of the rows with one row more
abbrev entry_of : List Text → Text → ℕ → ℕ → Bool
entry_of rows row d t = beq (covered rows t || covers row t) (not (eqb d 0x30))

cover-is : (k : ℕ) (rows : List Text) (row : Text) (d r : ℕ) → k ≤ gate_places → r < 2 ^ 64
    → ((t : ℕ) → t < 64 → bit r t ≡ (ltb t (2 ^ k) && entry_of rows row d t)) → r ≡ cover_table k (rows ++ row ∷ []) d
unfolding cover_table
cover-is k rows row d r l h e =
    table_is (2 ^ k) r (λ t. beq (covered (rows ++ row ∷ []) t) (not (eqb d 0x30))) (entries-most k l) h
    (λ t m. e t m ∙ ap (λ (b : Bool). ltb t (2 ^ k) && beq b (not (eqb d 0x30))) (sym (covered-snoc rows row t)))

old_bit : (k : ℕ) (rows : List Text) (digit table t : ℕ) → table ≡ cover_table k rows digit → bit table t ≡ (ltb t (2 ^ k) && beq (covered rows t) (not (eqb digit 0x30)))
unfolding cover_table
old_bit k rows digit table t e = ap (λ (x : ℕ). bit x t) e ∙ bit-of-table (2 ^ k) (λ t. beq (covered rows t) (not (eqb digit 0x30))) t

first-zero : (l b : Bool) → (l && not b) ≡ (l && beq (false || b) false)
first-zero true true = refl
first-zero true false = refl
first-zero false b = refl

next-zero : (l a b : Bool) → ((l && beq a false) && not b) ≡ (l && beq (a || b) false)
next-zero true true b = refl
next-zero true false true = refl
next-zero true false false = refl
next-zero false a b = refl

next_one : (l a b : Bool) → ((l && beq a true) || (l && b)) ≡ (l && beq (a || b) true)
next_one true true b = refl
next_one true false true = refl
next_one true false false = refl
next_one false a b = refl

goes : (digit d : ℕ) → (eqb digit 0 || eqb digit d) ≡ true → (digit ≡ 0 → ⊥) → digit ≡ d
goes digit d e n = eqb-true digit d (rw (ne_eqb digit 0 n) at e)

module _ (k : ℕ) (rows : List Text) (row : Text) (digit d old w live : ℕ) (few-fanins : k ≤ gate_places)
    (h : Running k rows digit old) (hw : (t : ℕ) → t < 64 → bit w t ≡ covers row t) (hl : (t : ℕ) → bit live t ≡ ltb t (2 ^ k))
    (same : (eqb digit 0 || eqb digit d) ≡ true) (some : d ≡ 0 → ⊥) where
  running : (r : ℕ) → r ≡ cover_table k (rows ++ row ∷ []) d → Running k (rows ++ row ∷ []) d r
  running r e = record { table_is = e; fresh = λ z. absurd (some z) }

  -- the first row of zeros
  pub zero-first : (x : ℕ) → d ≡ 0x30 → digit ≡ 0 → bit_and live x < 2 ^ 64 → ((t : ℕ) → t < 64 → bit x t ≡ not (bit w t))
      → Running k (rows ++ row ∷ []) d (bit_and live x)
  zero-first x e z l hx =
      running (bit_and live x) (cover-is k rows row d (bit_and live x) few-fanins l (λ t m.
      bit-and live x t ∙ rw (hl t, hx t m, hw t m, h.fresh z, e) (first-zero (ltb t (2 ^ k)) (covers row t))))

  -- a further row of zeros
  pub zero-next : (x : ℕ) → d ≡ 0x30 → (digit ≡ 0 → ⊥) → bit_and old x < 2 ^ 64 → ((t : ℕ) → t < 64 → bit x t ≡ not (bit w t))
      → Running k (rows ++ row ∷ []) d (bit_and old x)
  zero-next x e n l hx =
      let g : digit ≡ 0x30 = goes digit d same n ∙ e in
      running (bit_and old x) (cover-is k rows row d (bit_and old x) few-fanins l (λ t m.
      bit-and old x t ∙ rw (old_bit k rows digit old t h.table_is, hx t m, hw t m, g, e) (next-zero (ltb t (2 ^ k)) (covered rows t) (covers row t))))

  not_zeros : (d ≡ 0x30 → ⊥) → eqb digit 0x30 ≡ false
  not_zeros n = by_cases (eqb digit 0) (λ z. ap (λ (x : ℕ). eqb x 0x30) (eqb-true digit 0 z))
      (λ z. ne_eqb digit 0x30 (λ q. n (sym (eqb-true digit d (rw z at same)) ∙ q)))

  -- a row of ones
  pub one-next : (d ≡ 0x30 → ⊥) → bit_or old (bit_and live w) < 2 ^ 64 → Running k (rows ++ row ∷ []) d (bit_or old (bit_and live w))
  one-next n l =
      running (bit_or old (bit_and live w)) (cover-is k rows row d (bit_or old (bit_and live w)) few-fanins l (λ t m.
      bit-or old (bit_and live w) t ∙ rw (bit-and live w t, old_bit k rows digit old t h.table_is, hl t, hw t m, not_zeros n, ne_eqb d 0x30 n)
      (next_one (ltb t (2 ^ k)) (covered rows t) (covers row t))))

-- a block without rows is the constant 0
pub cover-empty : (k : ℕ) → k ≤ gate_places → 0 ≡ cover_table k [] 0
unfolding cover_table
cover-empty k l = table_is (2 ^ k) 0 (λ t. beq (covered [] t) (not (eqb 0 0x30))) (entries-most k l) (omega arith) (λ t m. bit-zero t ∙ sym (and_none (ltb t (2 ^ k))))
  where
    and_none : (a : Bool) → (a && false) ≡ false
    and_none true = refl
    and_none false = refl
