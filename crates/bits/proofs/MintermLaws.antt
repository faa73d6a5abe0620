-- Minterm words: one word more, all entries' words at once, and the minterm that is left where no word is free. Assumes nothing.
use mathlib.Core.Path.{◌≡◌, refl, sym, ap, ap₂, ◌∙◌, subst}
use mathlib.Core.Bool.{Bool, true, false, not, ◌&&◌, ◌||◌, beq}
use mathlib.Core.List.{List, ◌∷◌}
use Prim.Native.Nat.{ℕ, ◌+◌, ◌-◌, ◌*◌, ◌^◌, ◌<◌}
use native.Mathlib.Nat.{add-zero}
use native.Mathlib.Decide.{dec_lt}
use native.Mathlib.Numerals.{add-one}
use native.Mathlib.Omega.{arith}
use lib.Arith.{lt-one}
use lib.Pow.{pow-add}
use lib.Bits.{bit_and, bit_or}
use lib.Dec.{eqb}
use lib.ListN.{get_or}
use borrow.Author.Tests.{eq-eqb, eqb-true}
use Rattle.bits.specs.Range.{every}
use Rattle.bits.specs.Bit.{bit, entry_at, gives, Split}
use Rattle.bits.proofs.BitLaws.{bit-and, bit-or, bit-ext, bit-low, bit_high, bit-above}
use Rattle.bits.proofs.Ranges.{and_assoc, and-true, iff, every-e, every-i, every-ext, table-lt, bit-table}
use Rattle.bits.proofs.Logic.{beq-e, beq-i, beq-true, beq-false}

-- a word ANDed with one literal more: it is free, or its value is right
pub and-more : (p : ℕ → Bool) (kept : Bool) (acc f s r b : ℕ) → bit acc b ≡ (kept && every r p) → (bit f b || bit s b) ≡ p r
    → bit (bit_and acc (bit_or f s)) b ≡ (kept && every (r + 1) p)
and-more p kept acc f s r b so_far e =
    bit-and acc (bit_or f s) b ∙ ap₂ (λ (x y : Bool). x && y) so_far (bit-or f s b ∙ e) ∙ and_assoc kept (every r p) (p r) ∙ rw add-one

module _ (ws fs : List ℕ) (t b : ℕ) where
  -- where no word is free, the words give t at the places of its minterm
  pub minterm-at : (k : ℕ) → t < 2 ^ k → ((r : ℕ) → r < k → bit (get_or fs r 0) b ≡ false) → gives k ws fs t b ≡ eqb (entry_at k ws b) t
  minterm-at k ht held = iff (gives k ws fs t b) (eqb (entry_at k ws b) t) there back
    where
      own : ℕ → Bool
      own r = bit (get_or ws r 0) b

      there : gives k ws fs t b ≡ true → eqb (entry_at k ws b) t ≡ true
      there e =
          eq-eqb (entry_at k ws b) t (bit-ext k (entry_at k ws b) t (table-lt k own) ht
          (λ r h. bit-table k own r h ∙ beq-e (own r) (bit t r) (rw (held r h) at (every-e k (λ r. bit (get_or fs r 0) b || beq (own r) (bit t r)) e r h))))

      back : eqb (entry_at k ws b) t ≡ true → gives k ws fs t b ≡ true
      back e =
          every-i k (λ r. bit (get_or fs r 0) b || beq (own r) (bit t r))
          (λ r h. rw (held r h) (beq-i (own r) (bit t r) (sym (bit-table k own r h) ∙ ap (λ (x : ℕ). bit x r) (eqb-true (entry_at k ws b) t e))))

  -- one word more, as a loop meets it
  pub gives_more : (acc keep r s : ℕ) (x : Bool) → x ≡ bit t r → bit s b ≡ beq (bit (get_or ws r 0) b) x → bit acc b ≡ (bit keep b && gives r ws fs t b)
      → bit (bit_and acc (bit_or (get_or fs r 0) s)) b ≡ (bit keep b && gives (r + 1) ws fs t b)
  gives_more acc keep r s x ex es ih =
      and-more (λ r. bit (get_or fs r 0) b || beq (bit (get_or ws r 0) b) (bit t r)) (bit keep b) acc (get_or fs r 0) s r b ih
      (ap (λ (y : Bool). bit (get_or fs r 0) b || y) (es ∙ ap (beq (bit (get_or ws r 0) b)) ex))

-- the entry 2 ^ r + t has bit r set, and below it the bits of t
as_parts : (r t : ℕ) → 2 ^ r + t ≡ 1 * 2 ^ r + t
as_parts r t = omega arith

own-bit : (r t : ℕ) → t < 2 ^ r → bit (2 ^ r + t) r ≡ true
unfolding bit
own-bit r t h = ap₂ bit (as_parts r t) (sym (add-zero r)) ∙ bit_high 1 r t 0 h

gives-below : (ws fs : List ℕ) (r t b : ℕ) → gives r ws fs (2 ^ r + t) b ≡ gives r ws fs t b
gives-below ws fs r t b =
    every-ext r (λ i. test i (bit (2 ^ r + t) i)) (λ i. test i (bit t i)) (λ i h. ap (test i) (ap (λ (x : ℕ). bit x i) (as_parts r t) ∙ bit-low 1 r t i h))
  where
    test : ℕ → Bool → Bool
    test i x = bit (get_or fs i 0) b || beq (bit (get_or ws i 0) b) x

-- the minterm words of the first r words, in their places
abbrev pub Minterms : (ws fs : List ℕ) (keep : ℕ) (l : List ℕ) (r : ℕ) → Type 0
Minterms ws fs keep l r = (t : ℕ) → t < 2 ^ r → (b : ℕ) → b < 64 → bit (get_or l t 0) b ≡ (bit keep b && gives r ws fs t b)

-- of no words there is one: all places of keep
pub minterms-none : (ws fs : List ℕ) (keep : ℕ) (rest : List ℕ) → Minterms ws fs keep (keep ∷ rest) 0
minterms-none ws fs keep rest t h b hb = rw (lt-one h) (sym (and-true (bit keep b)))

-- one word more splits each; nv has its bits the other way round
pub minterms-more : (ws fs : List ℕ) (keep : ℕ) (l₀ l : List ℕ) (r size nv : ℕ) → size ≡ 2 ^ r → ((b : ℕ) → b < 64 → bit nv b ≡ not (bit (get_or ws r 0) b))
    → Split l₀ l size (bit_or (get_or fs r 0) nv) (bit_or (get_or fs r 0) (get_or ws r 0)) size
    → Minterms ws fs keep l₀ r → Minterms ws fs keep l (r + 1)
minterms-more ws fs keep l₀ l r size nv es flip split so_far t h b hb = go (dec_lt t (2 ^ r))
  where
    parts : Split l₀ l (2 ^ r) (bit_or (get_or fs r 0) nv) (bit_or (get_or fs r 0) (get_or ws r 0)) (2 ^ r)
    parts = subst (λ (s : ℕ). Split l₀ l s (bit_or (get_or fs r 0) nv) (bit_or (get_or fs r 0) (get_or ws r 0)) s) es split

    goal : ℕ → Type 0
    goal t = bit (get_or l t 0) b ≡ (bit keep b && gives (r + 1) ws fs t b)

    lower : t < 2 ^ r → goal t
    lower l =
        ap (λ (x : ℕ). bit x b) (parts t l).0
        ∙ gives_more ws fs t b (get_or l₀ t 0) keep r nv false (sym (bit-above t r r l (omega arith))) (flip b hb ∙ beq-false (bit (get_or ws r 0) b)) (so_far t l b hb)

    upper : (u : ℕ) → u < 2 ^ r → goal (2 ^ r + u)
    upper u l =
        ap (λ (x : ℕ). bit x b) (parts u l).1
        ∙ gives_more ws fs (2 ^ r + u) b (get_or l₀ u 0) keep r (get_or ws r 0) true (sym (own-bit r u l)) (beq-true (bit (get_or ws r 0) b))
        (so_far u l b hb ∙ ap (λ (x : Bool). bit keep b && x) (sym (gives-below ws fs r u b)))

    go : Dec (t < 2 ^ r) → goal t
    go (yes l) = lower l
    go (no f) =
        let e : 2 ^ r + (t - 2 ^ r) ≡ t = omega arith in
        subst goal e (upper (t - 2 ^ r) (omega (arith, pow-add 2 r 1)))

-- one word more, in two: the entries with it 0 and those with it 1, each tested at the places of keep that have it so
and-turn : (a p g : Bool) → ((a && p) && g) ≡ (a && (g && p))
and-turn true p true = and-true p
and-turn true true false = refl
and-turn true false false = refl
and-turn false p g = refl

module _ (ws fs : List ℕ) (keep r t b : ℕ) (h : t < 2 ^ r) where
  own-place : (s : ℕ) (x : Bool) → bit s b ≡ beq (bit (get_or ws r 0) b) x
      → (bit (bit_and keep (bit_or (get_or fs r 0) s)) b && gives r ws fs t b) ≡ (bit keep b && (gives r ws fs t b && (bit (get_or fs r 0) b || beq (bit (get_or ws r 0) b) x)))
  own-place s x e =
      ap (λ (c : Bool). c && gives r ws fs t b) (bit-and keep (bit_or (get_or fs r 0) s) b ∙ ap (λ (c : Bool). bit keep b && c) (bit-or (get_or fs r 0) s b ∙ ap (λ (c : Bool). bit (get_or fs r 0) b || c) e))
      ∙ and-turn (bit keep b) (bit (get_or fs r 0) b || beq (bit (get_or ws r 0) b) x) (gives r ws fs t b)

  pub lower-half : (nv : ℕ) → bit nv b ≡ not (bit (get_or ws r 0) b)
      → (bit (bit_and keep (bit_or (get_or fs r 0) nv)) b && gives r ws fs t b) ≡ (bit keep b && gives (r + 1) ws fs t b)
  lower-half nv flip =
      own-place nv false (flip ∙ beq-false (bit (get_or ws r 0) b))
      ∙ ap (λ (x : Bool). bit keep b && (gives r ws fs t b && (bit (get_or fs r 0) b || beq (bit (get_or ws r 0) b) x))) (sym (bit-above t r r h (omega arith)))
      ∙ rw add-one

  pub upper-half : (bit (bit_and keep (bit_or (get_or fs r 0) (get_or ws r 0))) b && gives r ws fs t b) ≡ (bit keep b && gives (r + 1) ws fs (2 ^ r + t) b)
  upper-half =
      own-place (get_or ws r 0) true (beq-true (bit (get_or ws r 0) b))
      ∙ ap₂ (λ (g x : Bool). bit keep b && (g && (bit (get_or fs r 0) b || beq (bit (get_or ws r 0) b) x))) (sym (gives-below ws fs r t b)) (sym (own-bit r t h))
      ∙ rw add-one
