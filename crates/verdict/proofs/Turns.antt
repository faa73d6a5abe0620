-- The search for the first harm: the turns of its loops over patterns and outputs, and its parts. Assumes nothing.
use mathlib.Core.Path.{◌≡◌, refl, sym, ap, ap₂, ◌∙◌}
use mathlib.Core.Bool.{Bool, false, ◌&&◌}
use mathlib.Core.Logic.{⊎_elim}
use Prim.Native.Nat.{ℕ, zero, suc, ◌+◌, ◌-◌, ◌*◌, ◌^◌, ◌≤◌, ◌<◌}
use native.Mathlib.Nat.{add-zero, zero-add, sub-zero}
use native.Mathlib.Omega.{arith}
use lib.Dec.{ltb}
use borrow.Author.Tests.{lt-ltb, le-ltb}
use Rattle.std.specs.Prelude.{Option}
use Rattle.std.specs.Prelude.{None}
use Rattle.bits.specs.Range.{up_from, first_in, smallest}
use Rattle.bits.specs.Cut.{Cut}
use Rattle.bits.proofs.Search.{smallest-eq, smallest-ext, next}
use Rattle.std.specs.Prelude.{Err}
use Rattle.network.specs.Answer.{Answer, Done}
use Rattle.network.specs.declared.Refusal.{Refusal}
use Rattle.network.specs.Tests.{or_else}
use Rattle.network.specs.Calls.{output_found, first_harm}
use Rattle.network.proofs.TestLaws.{alone, or_else-assoc}
use Rattle.verdict.specs.Changed.{word_harm}

-- ## The loop over patterns, at x of those below a

more : (e n : ℕ) → e < n → n - e ≡ suc (n - (e + 1))
more e n h = omega arith

module _ (h : ℕ → ℕ → Bool) (p : ℕ) where
  pub outer_start : (w : ℕ) → first_harm h p (up_from (w * 64) (w * 64 + 64 - w * 64)) ≡ word_harm h p w
  unfolding word_harm
  outer_start w = let q : w * 64 + 64 - w * 64 ≡ 64 = omega arith in ap (λ (c : ℕ). first_harm h p (up_from (w * 64) c)) q

  pub outer-step : (x a : ℕ) → x < a → or_else (output_found x (smallest p (h x))) (first_harm h p (up_from (x + 1) (a - (x + 1)))) ≡ first_harm h p (up_from x (a - x))
  outer-step x a l = rw (more x a l)

-- ## The loop over outputs, at o of those below b; r is the answer of the later patterns

module _ (q : ℕ → Bool) (x : ℕ) (r : Answer) where
  abbrev on : Option ℕ → Answer
  on f = or_else (output_found x f) r

  pub inner-next : (o b : ℕ) → o < b → q o ≡ false
      → or_else (output_found x (first_in q (up_from (o + 1) (b - (o + 1))))) r ≡ or_else (output_found x (first_in q (up_from o (b - o)))) r
  inner-next o b h t = ap on (next q o b h t)

-- ## Parts of the search

-- only the tests of the patterns that are tried, and of the outputs, count
pub search-ext : (h k : ℕ → ℕ → Bool) (p a c : ℕ) → ((e : ℕ) → e < c → (i : ℕ) → i < p → h (a + e) i ≡ k (a + e) i)
    → first_harm h p (up_from a c) ≡ first_harm k p (up_from a c)
search-ext h k p a zero f = refl
search-ext h k p a (suc c) f =
    ap₂ (λ (s : Option ℕ) (r : Answer). or_else (output_found a s) r)
    (smallest-ext p (h a) (k a) (λ i l. rw (add-zero a) at (f 0 (omega arith) i l)))
    (search-ext h k p (a + 1) c (λ e l i m. let q : a + 1 + e ≡ a + suc e = omega arith in rw q (f (suc e) (omega arith) i m)))

-- of the numbers below c
pub search-below : (h k : ℕ → ℕ → Bool) (p c : ℕ) → ((x : ℕ) → x < c → (i : ℕ) → i < p → h x i ≡ k x i) → first_harm h p (up_from 0 c) ≡ first_harm k p (up_from 0 c)
search-below h k p c f = search-ext h k p 0 c (λ e l i m. f (0 + e) (omega arith) i m)

pub search-none : (h : ℕ → ℕ → Bool) (p a c : ℕ) → ((e : ℕ) → e < c → (i : ℕ) → i < p → h (a + e) i ≡ false) → first_harm h p (up_from a c) ≡ Done
search-none h p a c f = search-ext h (λ x i. false) p a c f ∙ go a c
  where
    go : (a c : ℕ) → first_harm (λ x i. false) p (up_from a c) ≡ Done
    go a zero = refl
    go a (suc c) = rw (smallest-eq p (λ i. false) None (λ i l. refl)) (go (a + 1) c)

-- first the one part, then the other
pub search-parts : (h : ℕ → ℕ → Bool) (p a c d : ℕ) → first_harm h p (up_from a (c + d)) ≡ or_else (first_harm h p (up_from a c)) (first_harm h p (up_from (a + c) d))
search-parts h p a zero d = ap₂ (λ (x y : ℕ). first_harm h p (up_from x y)) (sym (add-zero a)) (zero-add d)
search-parts h p a (suc c) d =
    let q : suc c + d ≡ suc (c + d) = omega arith in
    let s : a + 1 + c ≡ a + suc c = omega arith in
    rw (q, search-parts h p (a + 1) c d, s) (sym (or_else-assoc (output_found a (smallest p (h a))) (first_harm h p (up_from (a + 1) c)) (first_harm h p (up_from (a + suc c) d))))

-- ## The loop over words, at w of W

-- what is left of W words from word w on
abbrev pub left : (ℕ → ℕ → Bool) → (p W w : ℕ) → Answer
left h p W w = first_harm h p (up_from (w * 64) (W * 64 - w * 64))

-- the tests of the places below n
abbrev pub below : ℕ → (ℕ → ℕ → Bool) → ℕ → ℕ → Bool
below n h x i = ltb x n && h x i

pub words-start : (h : ℕ → ℕ → Bool) (p W : ℕ) → left h p W 0 ≡ first_harm h p (up_from 0 (W * 64))
words-start h p W = ap (λ (c : ℕ). first_harm h p (up_from 0 c)) (sub-zero (W * 64))

-- places past the last pattern count for nothing
pub words-below : {n W L : ℕ} (h : ℕ → ℕ → Bool) (p : ℕ) → Cut n W L → first_harm (below (2 ^ n) h) p (up_from 0 (W * 64)) ≡ first_harm h p (up_from 0 (2 ^ n))
words-below {n} {W} h p cut =
    let big : 2 ^ n ≤ W * 64 = ⊎_elim (λ u. omega (arith, cut.places)) (λ u. omega arith) cut.whole in
    let q : W * 64 ≡ 2 ^ n + (W * 64 - 2 ^ n) = omega arith in
    ap (λ (c : ℕ). first_harm (below (2 ^ n) h) p (up_from 0 c)) q ∙ search-parts (below (2 ^ n) h) p 0 (2 ^ n) (W * 64 - 2 ^ n)
    ∙ ap₂ or_else (search-ext (below (2 ^ n) h) h p 0 (2 ^ n) (λ e l i m. rw (lt-ltb (0 + e) (2 ^ n) (omega arith))))
    (search-none (below (2 ^ n) h) p (0 + 2 ^ n) (W * 64 - 2 ^ n) (λ e l i m. rw (le-ltb (0 + 2 ^ n + e) (2 ^ n) (omega arith))))
    ∙ sym (alone (first_harm h p (up_from 0 (2 ^ n))))

module _ (h : ℕ → ℕ → Bool) (p W w : ℕ) where
  words_step : w < W → or_else (word_harm h p w) (left h p W (w + 1)) ≡ left h p W w
  unfolding word_harm
  words_step l =
      let q : W * 64 - w * 64 ≡ 64 + (W * 64 - (w + 1) * 64) = omega arith in
      let s : w * 64 + 64 ≡ (w + 1) * 64 = omega arith in
      ap (λ (x : ℕ). or_else (first_harm h p (up_from (w * 64) 64)) (first_harm h p (up_from x (W * 64 - (w + 1) * 64)))) (sym s)
      ∙ sym (search-parts h p (w * 64) 64 (W * 64 - (w + 1) * 64)) ∙ ap (λ (c : ℕ). first_harm h p (up_from (w * 64) c)) (sym q)

  pub words-found : w < W → (a : Answer) {f : Refusal} → a ≡ word_harm h p w → a ≡ Err f → Err f ≡ left h p W w
  words-found l a e d = ap (λ (b : Answer). or_else b (left h p W (w + 1))) (sym d ∙ e) ∙ words_step l

  pub words-next : w < W → (a : Answer) → a ≡ word_harm h p w → a ≡ Done → left h p W (w + 1) ≡ left h p W w
  words-next l a e d = ap (λ (b : Answer). or_else b (left h p W (w + 1))) (sym d ∙ e) ∙ words_step l
