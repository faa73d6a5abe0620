-- The search by weight over the words of rows is the search in the order of a verdict. Assumes nothing.
use mathlib.Core.Path.{◌≡◌, refl, sym, ap, ap₂, ◌∙◌}
use mathlib.Core.Bool.{Bool, false, ◌&&◌}
use Prim.Native.Nat.{ℕ, zero, suc, ◌+◌, ◌*◌, ◌^◌, ◌≤◌, ◌<◌}
use native.Mathlib.Numerals.{add-one}
use native.Mathlib.Omega.{arith}
use lib.Dec.{eqb, ltb}
use lib.Pow.{pow_mono}
use borrow.Author.Tests.{ltb-true}
use Rattle.std.specs.Prelude.{Err}
use Rattle.bits.specs.Bounds.{most_inputs}
use Rattle.bits.specs.Cut.{Cut}
use Rattle.bits.proofs.Ranges.{by_cases, lt-cases}
use Rattle.bits.proofs.Logic.{clash, and-not}
use Rattle.bits.proofs.Weights.{ones-same}
use Rattle.network.specs.Answer.{Answer, Done}
use Rattle.network.specs.declared.Refusal.{Refusal}
use Rattle.network.specs.Net.{weight, by_weight}
use Rattle.network.specs.Tests.{or_else}
use Rattle.network.specs.Calls.{first_harm}
use Rattle.network.proofs.Harm.{narrowed, harm-weight}
use Rattle.verdict.specs.Changed.{of_weight, at_weight, weight_harm, lightest_harm}
use Rattle.verdict.proofs.Turns.{left, below, search-below, search-none, words-start, words-below}

-- ## The loop over the words of one weight, at its start

pub weight-start : (h : ℕ → ℕ → Bool) (p W c : ℕ) → left (at_weight c h) p W 0 ≡ weight_harm h p W c
unfolding weight_harm
weight-start h p W c = words-start (at_weight c h) p W

-- ## The loop over weights, at c

module _ (h : ℕ → ℕ → Bool) (p W : ℕ) where
  -- what is found at a weight stays
  stays : (c d : ℕ) {f : Refusal} → c < suc d → lightest_harm h p W c ≡ Err f → lightest_harm h p W d ≡ Err f
  stays c zero l e = let q : c ≡ 0 = omega arith in rw q at e
  stays c (suc d) l e = lt-cases c (suc d) l (λ k. ap (λ (a : Answer). or_else a (weight_harm h p W d)) (stays c d k e)) (λ q. rw q at e)

  module _ (c : ℕ) (none : lightest_harm h p W c ≡ Done) (a : Answer) (e : a ≡ weight_harm h p W c) where
    one_more : lightest_harm h p W (suc c) ≡ a
    one_more = ap (λ (b : Answer). or_else b (weight_harm h p W c)) none ∙ sym e

    pub weights-found : (n : ℕ) → c ≤ n → {f : Refusal} → a ≡ Err f → Err f ≡ lightest_harm h p W (suc n)
    weights-found n l d = sym (stays (suc c) (suc n) (omega arith) (one_more ∙ d))

    pub weights-next : a ≡ Done → lightest_harm h p W (c + 1) ≡ Done
    weights-next d = rw add-one (one_more ∙ d)

-- ## The tests

-- only those of the places of W words count
pub light-ext : (h k : ℕ → ℕ → Bool) (p W : ℕ) → ((x : ℕ) → x < W * 64 → (i : ℕ) → i < p → h x i ≡ k x i) → (c : ℕ) → lightest_harm h p W c ≡ lightest_harm k p W c
unfolding weight_harm
light-ext h k p W f zero = refl
light-ext h k p W f (suc c) =
    ap₂ or_else (light-ext h k p W f c)
    (search-below (at_weight c h) (at_weight c k) p (W * 64) (λ x l i m. ap (λ (b : Bool). of_weight c x && b) (f x l i m)))

pub light-none : (h : ℕ → ℕ → Bool) (p W : ℕ) → ((x : ℕ) → x < W * 64 → (i : ℕ) → i < p → h x i ≡ false) → (c : ℕ) → lightest_harm h p W c ≡ Done
unfolding weight_harm
light-none h p W f zero = refl
light-none h p W f (suc c) =
    ap₂ or_else (light-none h p W f c)
    (search-none (at_weight c h) p 0 (W * 64) (λ e l i m. and-not (of_weight c (0 + e)) (h (0 + e) i) (λ o t. clash t (f (0 + e) (omega arith) i m))))

-- the places that are patterns, by weight
pub light-order : {n W L : ℕ} (h : ℕ → ℕ → Bool) (p : ℕ) → n ≤ most_inputs → Cut n W L → (c : ℕ) → lightest_harm (below (2 ^ n) h) p W c ≡ first_harm h p (by_weight n c)
unfolding weight_harm of_weight
light-order h p most cut zero = refl
light-order {n} {W} h p most cut (suc c) =
    ap₂ or_else (light-order h p most cut c)
    (search-below (at_weight c (below (2 ^ n) h)) (below (2 ^ n) (narrowed (λ x. eqb (weight n x) c) h)) p (W * 64)
    (λ x l i m. by_cases (ltb x (2 ^ n))
    (λ e. let k : x < 2 ^ n = ltb-true x (2 ^ n) e in
    rw e (ap (λ (w : ℕ). eqb w c && h x i) (ones-same most_inputs n x (omega (arith, pow_mono {j = most_inputs} most)) k)))
    (λ e. rw e (and-not (of_weight c x) false (λ o t. clash t refl))))
    ∙ words-below (narrowed (λ x. eqb (weight n x) c) h) p cut)
    ∙ sym (harm-weight h p n c)

-- only the tests of patterns count
pub order-ext : (h k : ℕ → ℕ → Bool) (p n : ℕ) → ((x : ℕ) → x < 2 ^ n → (i : ℕ) → i < p → h x i ≡ k x i) → (c : ℕ) → first_harm h p (by_weight n c) ≡ first_harm k p (by_weight n c)
order-ext h k p n f zero = refl
order-ext h k p n f (suc c) =
    harm-weight h p n c
    ∙ ap₂ or_else (order-ext h k p n f c)
    (search-below (narrowed (λ x. eqb (weight n x) c) h) (narrowed (λ x. eqb (weight n x) c) k) p (2 ^ n) (λ x l i m. ap (λ (b : Bool). eqb (weight n x) c && b) (f x l i m)))
    ∙ sym (harm-weight k p n c)
