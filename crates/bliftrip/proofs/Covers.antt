-- What a cover means; and the rows of a table, read as a cover, are the table. Assumes nothing.
use mathlib.Core.Path.{◌≡◌, refl, sym, ap, ap₂, ◌∙◌}
use mathlib.Core.Logic.{◌⊎◌, inl, inr, ⊎_elim}
use mathlib.Core.Bool.{Bool, true, false, not, cond, ◌&&◌, ◌||◌, beq, false≢true, true≢false}
use mathlib.Core.List.{List, [], ◌∷◌, ◌++◌}
use Prim.Native.Nat.{ℕ, zero, suc, ◌+◌, ◌^◌, ◌≤◌, ◌<◌}
use native.Mathlib.Omega.{arith}
use lib.Dec.{ltb, eqb}
use lib.ListN.{length, get_or}
use lib.Pow.{pow_pos}
use borrow.Author.Tests.{ltb-true, ltb-false, lt-ltb, le-ltb, eqb-true, eqb-false, eq-eqb, ne_eqb}
use Rattle.bits.specs.Range.{num, every}
use Rattle.bits.specs.Bit.{bit}
use Rattle.bits.proofs.BitLaws.{bit-ext, bit-zero}
use Rattle.bits.proofs.Logic.{beq-e, beq-i}
use Rattle.bits.proofs.Ranges.{or_r, by_cases, iff, every-e, every-i, every-ext, length-places, places-at, bit-table, table-lt}
use Rattle.text.specs.Words.{Text}
use Rattle.blif.specs.Cover.{covers, covered, cover_table}
use Rattle.blif.specs.Write.{marks}
use Rattle.bliftrip.specs.Trip.{Covers, BlifCover}

-- ## A cover of any rows means what it says

-- entries that some row covers have the cover's digit, the others the other one
cover-bit : (k : ℕ) (rows : List Text) (digit t : ℕ) → t < 2 ^ k → bit (cover_table k rows digit) t ≡ beq (covered rows t) (not (eqb digit 0x30))
unfolding cover_table
cover-bit k rows digit t h = bit-table (2 ^ k) (λ t. beq (covered rows t) (not (eqb digit 0x30))) t h

pub cover-lt : (k : ℕ) (rows : List Text) (digit : ℕ) → cover_table k rows digit < 2 ^ (2 ^ k)
unfolding cover_table
cover-lt k rows digit = table-lt (2 ^ k) (λ t. beq (covered rows t) (not (eqb digit 0x30)))

or_cases : (a b : Bool) → (a || b) ≡ true → (a ≡ true) ⊎ (b ≡ true)
or_cases true b e = inl refl
or_cases false b e = inr e

-- byte by byte
module _ (row : Text) (t : ℕ) where
  abbrev byte_fits : ℕ → Bool
  byte_fits r = eqb (get_or row r 0) 0x2D || eqb (get_or row r 0) (0x30 + num (bit t r))

  covers-e : covers row t ≡ true → Covers row t
  covers-e e r h =
      ⊎_elim (λ a. inl (eqb-true (get_or row r 0) 0x2D a)) (λ a. inr (eqb-true (get_or row r 0) (0x30 + num (bit t r)) a))
      (or_cases (eqb (get_or row r 0) 0x2D) (eqb (get_or row r 0) (0x30 + num (bit t r))) (every-e (length row) byte_fits e r h))

  covers-i : Covers row t → covers row t ≡ true
  covers-i f =
      every-i (length row) byte_fits (λ r h.
      ⊎_elim (λ a. rw (eq-eqb (get_or row r 0) 0x2D a))
      (λ a. or_r (eqb (get_or row r 0) 0x2D) (eqb (get_or row r 0) (0x30 + num (bit t r))) (eq-eqb (get_or row r 0) (0x30 + num (bit t r)) a)) (f r h))

-- row by row
covered-e : (rows : List Text) (t : ℕ) → covered rows t ≡ true → (i : ℕ) × (i < length rows) × Covers (get_or rows i []) t
covered-e [] t e = absurd (false≢true e)
covered-e (row ∷ rows) t e =
    ⊎_elim (λ a. (0, omega arith, covers-e row t a)) (λ a. let q = covered-e rows t a in (suc q.0, omega (arith, q.1), q.2))
    (or_cases (covers row t) (covered rows t) e)

covered-i : (rows : List Text) (t i : ℕ) → i < length rows → Covers (get_or rows i []) t → covered rows t ≡ true
covered-i [] t i h f = let z : ⊥ = omega arith in absurd z
covered-i (row ∷ rows) t zero h f = rw (covers-i row t f)
covered-i (row ∷ rows) t (suc i) h f = or_r (covers row t) (covered rows t) (covered-i rows t i (omega arith) f)

pub blif-cover : BlifCover
blif-cover k rows digit t h =
    let v = not (eqb digit 0x30) in
    let b = cover-bit k rows digit t h in
    (λ c. b ∙ rw (covered-i rows t c.0 c.1 c.2) (whole v), λ e. covered-e rows t (taken (covered rows t) v (sym b ∙ e)))
  where
    whole : (v : Bool) → beq true v ≡ v
    whole true = refl
    whole false = refl

    taken : (c v : Bool) → beq c v ≡ v → c ≡ true
    taken true v e = refl
    taken false true e = absurd (false≢true e)
    taken false false e = absurd (true≢false e)

-- ## The row of an entry covers that entry alone

mark-same : (a b : Bool) → (eqb (0x30 + num a) 0x2D || eqb (0x30 + num a) (0x30 + num b)) ≡ beq a b
mark-same true true = refl
mark-same true false = refl
mark-same false true = refl
mark-same false false = refl

row-marks : (k u t : ℕ) → covers (marks k u) t ≡ every k (λ r. beq (bit u r) (bit t r))
row-marks k u t =
    let p : ℕ → ℕ = λ r. 0x30 + num (bit u r) in
    let q : ℕ → Bool = λ r. eqb (get_or (marks k u) r 0) 0x2D || eqb (get_or (marks k u) r 0) (0x30 + num (bit t r)) in
    ap (λ (n : ℕ). every n q) (length-places k p)
    ∙ every-ext k q (λ r. beq (bit u r) (bit t r)) (λ r h. ap (λ (x : ℕ). eqb x 0x2D || eqb x (0x30 + num (bit t r))) (places-at 0 k p r h) ∙ mark-same (bit u r) (bit t r))

row-covers : (k u t : ℕ) → u < 2 ^ k → t < 2 ^ k → covers (marks k u) t ≡ eqb t u
row-covers k u t a b =
    row-marks k u t
    ∙ iff (every k (λ r. beq (bit u r) (bit t r))) (eqb t u)
    (λ e. eq-eqb t u (sym (bit-ext k u t a b (λ r h. beq-e (bit u r) (bit t r) (every-e k (λ r. beq (bit u r) (bit t r)) e r h)))))
    (λ e. let q = eqb-true t u e in every-i k (λ r. beq (bit u r) (bit t r)) (λ r h. beq-i (bit u r) (bit t r) (ap (λ (x : ℕ). bit x r) (sym q))))

-- ## The rows of the first entries

-- the input parts of the rows that a table of k fan-ins has for its first entries
abbrev pub marks_in : (k table : ℕ) → ℕ → List Text
marks_in k table zero = []
marks_in k table (suc t) = marks_in k table t ++ cond (bit table t) (marks k t ∷ []) []

covered-append : (xs ys : List Text) (t : ℕ) → covered (xs ++ ys) t ≡ (covered xs t || covered ys t)
covered-append [] ys t = refl
covered-append (x ∷ xs) ys t = go (covers x t) (covered xs t) (covered (xs ++ ys) t) (covered ys t) (covered-append xs ys t)
  where
    go : (a b c d : Bool) → c ≡ (b || d) → (a || c) ≡ ((a || b) || d)
    go true b c d e = refl
    go false b c d e = e

last_row : (k table u t : ℕ) (b : Bool) → u < 2 ^ k → t < 2 ^ k → covered (cond b (marks k u ∷ []) []) t ≡ (b && eqb t u)
last_row k table u t true h l = or-false (covers (marks k u) t) ∙ row-covers k u t h l
  where
    or-false : (a : Bool) → (a || false) ≡ a
    or-false true = refl
    or-false false = refl
last_row k table u t false h l = refl

grow : (table t T : ℕ) → ((bit table t && ltb t T) || (bit table T && eqb t T)) ≡ (bit table t && ltb t (suc T))
grow table t T =
    by_cases (ltb t T)
    (λ l. let h = ltb-true t T l in rw (l, ne_eqb t T (λ e. omega arith), lt-ltb t (suc T) (omega arith)) (both (bit table t) (bit table T)))
    (λ l. by_cases (eqb t T)
    (λ e. let q = eqb-true t T e in rw (l, e, lt-ltb t (suc T) (omega arith)) (rw q (nor (bit table T))))
    (λ e. rw (l, e, le-ltb t (suc T) (later t T l e)) (none (bit table t) (bit table T))))
  where
    both : (a b : Bool) → ((a && true) || (b && false)) ≡ (a && true)
    both true b = refl
    both false true = refl
    both false false = refl

    nor : (a : Bool) → ((a && false) || (a && true)) ≡ (a && true)
    nor true = refl
    nor false = refl

    none : (a b : Bool) → ((a && false) || (b && false)) ≡ (a && false)
    none true true = refl
    none true false = refl
    none false true = refl
    none false false = refl

    later : (t T : ℕ) → ltb t T ≡ false → eqb t T ≡ false → suc T ≤ t
    later t T l e = omega (arith, ltb-false t T l, eqb-false t T e)

rows-cover : (k table T t : ℕ) → T ≤ 2 ^ k → t < 2 ^ k → covered (marks_in k table T) t ≡ (bit table t && ltb t T)
rows-cover k table zero t a b = rw (le-ltb t 0 (omega arith)) (sym (and-false (bit table t)))
  where
    and-false : (a : Bool) → (a && false) ≡ false
    and-false true = refl
    and-false false = refl
rows-cover k table (suc T) t a b =
    covered-append (marks_in k table T) (cond (bit table T) (marks k T ∷ []) []) t
    ∙ ap₂ (λ (x y : Bool). x || y) (rows-cover k table T t (omega arith) b) (last_row k table T t (bit table T) (omega arith) b)
    ∙ grow table t T

-- the rows of all entries give the table, whatever the digit is, but for a cover of zeros
pub table-back : (k table digit : ℕ) → table < 2 ^ (2 ^ k) → eqb digit 0x30 ≡ false → cover_table k (marks_in k table (2 ^ k)) digit ≡ table
table-back k table digit w e =
    bit-ext (2 ^ k) (cover_table k (marks_in k table (2 ^ k)) digit) table (cover-lt k (marks_in k table (2 ^ k)) digit) w
    (λ t h.
    cover-bit k (marks_in k table (2 ^ k)) digit t h
    ∙ rw (e, rows-cover k table (2 ^ k) t (omega arith) h, lt-ltb t (2 ^ k) h) (go (bit table t)))
  where
    go : (a : Bool) → beq (a && true) true ≡ a
    go true = refl
    go false = refl

-- no row at all gives 0
pub no_rows : (k digit : ℕ) → eqb digit 0x30 ≡ false → cover_table k [] digit ≡ 0
no_rows k digit e =
    bit-ext (2 ^ k) (cover_table k [] digit) 0 (cover-lt k [] digit) (pow_pos (2 ^ k))
    (λ t h. cover-bit k [] digit t h ∙ rw e (sym (bit-zero t)))
