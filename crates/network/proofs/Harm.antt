-- What the test for harm, refusal 14, finds: nothing exactly where no pattern harms an output, else the pattern that harms one and is
-- the quickest to set and, there, the lowest output. Assumes nothing.
use mathlib.Core.Path.{◌≡◌, refl, sym, ap, ap₂, ◌∙◌}
use mathlib.Core.Logic.{◌⊎◌, inl, inr, ⊎_elim, ◌↔◌}
use mathlib.Core.Bool.{Bool, true, false, ◌&&◌}
use mathlib.Core.List.{List, [], ◌∷◌, ◌++◌}
use Prim.Native.Nat.{ℕ, zero, suc, ◌+◌, ◌^◌, ◌<◌}
use native.Mathlib.Nat.{not-suc-le-zero}
use native.Mathlib.Decide.{dec_lt}
use native.Mathlib.Omega.{arith}
use lib.Dec.{eqb}
use lib.ListN.{length}
use borrow.Author.Tests.{eqb-true, eq-eqb}
use Rattle.std.specs.Prelude.{Option, Some, None, Err, filter}
use Rattle.bits.specs.Range.{up_from, smallest}
use Rattle.bits.specs.Bit.{bit}
use Rattle.bits.proofs.Ranges.{and_l, and_r, by_cases, lt-cases}
use Rattle.bits.proofs.Cuts.{count-le}
use Rattle.bits.proofs.Logic.{clash}
use Rattle.bits.proofs.Search.{Smallest, smallest-is, smallest-eq, smallest-ext}
use Rattle.network.specs.declared.Refusal.TheVariants.{Harm}
use Rattle.network.specs.Answer.{Answer, Done}
use Rattle.network.specs.Net.{Net, patterns, weight, by_weight, pattern_order}
use Rattle.network.specs.DontCares.{harms}
use Rattle.network.specs.Refusals.{said}
use Rattle.network.specs.Tests.{or_else}
use Rattle.network.specs.Calls.{output_found, first_harm, harm_in, harm_test}
use Rattle.network.specs.Sessions.{NoHarm, Quicker, FirstHarm}
use Rattle.network.proofs.Said.{said-done}
use Rattle.network.proofs.TestLaws.{or_else-assoc}

-- ## The search over some of the patterns is the search over all of them by a narrower test

-- the test h at the patterns that pass q
abbrev pub narrowed : (ℕ → Bool) → (ℕ → ℕ → Bool) → ℕ → ℕ → Bool
narrowed q h x i = q x && h x i

module _ (h : ℕ → ℕ → Bool) (p : ℕ) where
  pub harm-picked : (q : ℕ → Bool) (xs : List ℕ) → first_harm h p (filter q xs) ≡ first_harm (narrowed q h) p xs
  harm-picked q [] = refl
  harm-picked q (x ∷ xs) =
      by_cases (q x)
      (λ e. rw e
      (ap₂ (λ (f : Option ℕ) (a : Answer). or_else (output_found x f) a) (smallest-ext p (h x) (narrowed q h x) (λ i l. sym (ap (λ (b : Bool). b && h x i) e))) (harm-picked q xs)))
      (λ e. rw (e, smallest-eq p (narrowed q h x) None (λ i l. ap (λ (b : Bool). b && h x i) e)) (harm-picked q xs))

  pub harm-append : (xs ys : List ℕ) → first_harm h p (xs ++ ys) ≡ or_else (first_harm h p xs) (first_harm h p ys)
  harm-append [] ys = refl
  harm-append (x ∷ xs) ys =
      ap (or_else (output_found x (smallest p (h x)))) (harm-append xs ys)
      ∙ sym (or_else-assoc (output_found x (smallest p (h x))) (first_harm h p xs) (first_harm h p ys))

  -- the patterns of n lines with fewer than c on, and then those with c, by number
  pub harm-weight : (n c : ℕ)
      → first_harm h p (by_weight n (suc c))
      ≡ or_else (first_harm h p (by_weight n c)) (first_harm (narrowed (λ x. eqb (weight n x) c) h) p (up_from 0 (2 ^ n)))
  harm-weight n c =
      harm-append (by_weight n c) (filter (λ x. eqb (weight n x) c) (up_from 0 (2 ^ n)))
      ∙ ap (or_else (first_harm h p (by_weight n c))) (harm-picked (λ x. eqb (weight n x) c) (up_from 0 (2 ^ n)))

-- ## What it finds in a range

module _ (h : ℕ → ℕ → Bool) (p n : ℕ) where
  abbrev NoneBelow : ℕ → Type 0
  NoneBelow c = (x i : ℕ) → x < c → i < p → h x i ≡ false

  -- nothing below n, or the smallest and, there, the lowest
  abbrev InRange : Answer → Type 0
  InRange a =
      ((a ≡ Done) × NoneBelow n)
      ⊎ ((x : ℕ) × (i : ℕ) × (a ≡ Err (Harm x i)) × (x < n) × (i < p) × (h x i ≡ true) × NoneBelow x × ((j : ℕ) → j < i → h x j ≡ false))

  range_is : (c a : ℕ) → n ≡ a + c → NoneBelow a → InRange (first_harm h p (up_from a c))
  range_is zero a e none = inl (refl, λ x i l. none x i (omega arith))
  range_is (suc c) a e none =
      go (smallest p (h a)) (smallest-is p (h a))
      (λ s. range_is c (a + 1) (omega arith) (λ x i l m. lt-cases x a (omega arith) (λ k. none x i k m) (λ q. rw q (s i m))))
    where
      rest : Answer
      rest = first_harm h p (up_from (a + 1) c)

      go : (f : Option ℕ) → Smallest p (h a) f → (Smallest p (h a) None → InRange rest) → InRange (or_else (output_found a f) rest)
      go (Some i) s k = inr (a, i, refl, omega arith, s.0, s.1, none, s.2)
      go None s k = k s

-- ## By weight

module _ (L M : Net) where
  abbrev n : ℕ
  n = L.inputs

  -- no pattern of less weight than c harms
  abbrev Light : ℕ → Type 0
  Light c = (x i : ℕ) → x < patterns L → i < length L.outputs → weight n x < c → harms L M x i ≡ false

  abbrev First : Answer → Type 0
  First a = (x : ℕ) × (i : ℕ) × (a ≡ Err (Harm x i)) × FirstHarm L M x i

  -- the test at the patterns of weight c
  abbrev of : ℕ → ℕ → ℕ → Bool
  of c = narrowed (λ x. eqb (weight n x) c) (harms L M)

  -- the narrower test tells of a pattern of that weight
  of_e : (c x i : ℕ) → weight n x ≡ c → of c x i ≡ false → harms L M x i ≡ false
  of_e c x i e k = rw (eq-eqb (weight n x) c e) at k

  weight_is : (c : ℕ) → ((harm_in L M (by_weight n c) ≡ Done) × Light c) ⊎ First (harm_in L M (by_weight n c))
  weight_is zero = inl (refl, λ x i a b l. absurd (not-suc-le-zero l))
  weight_is (suc c) =
      rw (harm-weight (harms L M) (length L.outputs) n c)
      (go (harm_in L M (by_weight n c)) (weight_is c) (first_harm (of c) (length L.outputs) (up_from 0 (2 ^ n)))
      (range_is (of c) (length L.outputs) (2 ^ n) (2 ^ n) 0 (omega arith) (λ x i l. absurd (not-suc-le-zero l))))
    where
      go : (a : Answer) → ((a ≡ Done) × Light c) ⊎ First a → (b : Answer) → InRange (of c) (length L.outputs) (2 ^ n) b
          → ((or_else a b ≡ Done) × Light (suc c)) ⊎ First (or_else a b)
      go a (inr f) b r = inr (f.0, f.1, ap (λ (u : Answer). or_else u b) f.2, f.3)
      go a (inl d) b (inl r) =
          rw d.0 (inl (r.0, λ x i hx hi l. lt-cases (weight n x) c l (d.1 x i hx hi) (λ e. of_e c x i e (r.1 x i hx hi))))
      go a (inl d) b (inr r) =
          let x = r.0 in
          let i = r.1 in
          let e : weight n x ≡ c = eqb-true (weight n x) c (and_l (eqb (weight n x) c) (harms L M x i) r.5) in
          rw d.0 (inr (
            x,
            i,
            r.2,
            record {
              pattern = r.3;
              output = r.4;
              harm = and_r (eqb (weight n x) c) (harms L M x i) r.5;
              before = λ y j hy hj. ⊎_elim (λ l. d.1 y j hy hj (omega arith)) (λ q. of_e c y j (q.0 ∙ e) (r.6 y j (omega arith) hj));
              lower = λ j l. of_e c x j e (r.7 j l);
            },
          ))

  -- no pattern has more lines on than there are
  harm-is : ((harm_test L M ≡ Done) × NoHarm L M (patterns L)) ⊎ First (harm_test L M)
  unfolding harm_test pattern_order
  harm-is = ⊎_elim (λ d. inl (d.0, λ x i hx hi. d.1 x i hx hi (omega (arith, count-le n (bit x))))) inr (weight_is (suc n))

  -- 14 or nothing
  pub harm-only : (harm_test L M ≡ Done) ⊎ ((x : ℕ) × (i : ℕ) × (harm_test L M ≡ Err (Harm x i)))
  harm-only = ⊎_elim (λ n. inl n.0) (λ f. inr (f.0, f.1, f.2)) harm-is

  -- the first harm is one
  no-quicker : {x i y j : ℕ} → FirstHarm L M x i → FirstHarm L M y j → Quicker n y x → ⊥
  no-quicker f g q = clash g.harm (f.before _ _ g.pattern g.output q)

  harm-one : {x i y j : ℕ} → FirstHarm L M x i → FirstHarm L M y j → (x ≡ y) × (i ≡ j)
  harm-one {x} {i} {y} {j} f g =
      let w : weight n x ≡ weight n y = order (weight n x) (weight n y) (λ l. no-quicker g f (inl l)) (λ l. no-quicker f g (inl l)) in
      let p : x ≡ y = order x y (λ l. no-quicker g f (inr (w, l))) (λ l. no-quicker f g (inr (sym w, l))) in
      (p, order i j (λ l. clash f.harm (rw p (g.lower i l))) (λ l. clash g.harm (rw (sym p) (f.lower j l))))
    where
      order : (a b : ℕ) → (a < b → ⊥) → (b < a → ⊥) → a ≡ b
      order a b p q = go (dec_lt a b) (dec_lt b a)
        where
          go : Dec (a < b) → Dec (b < a) → a ≡ b
          go (yes l) _ = absurd (p l)
          go (no k) (yes l) = absurd (q l)
          go (no k) (no m) = omega arith

  pub harm-done : (harm_test L M ≡ Done) ↔ NoHarm L M (patterns L)
  harm-done = (
    λ e. ⊎_elim (λ n. n.1) (λ f. let z : ◌≡◌ {A = ℕ} 0 1 = cc f.2 in absurd (omega arith)) harm-is,
    λ none. ⊎_elim (λ n. n.0) (λ f. clash f.3.harm (none f.0 f.1 f.3.pattern f.3.output)) harm-is,
  )

  pub harm-none : (said (harm_test L M) ≡ []) ↔ NoHarm L M (patterns L)
  harm-none = let d = said-done (harm_test L M) in (λ e. harm-done.0 (d.0 e), λ none. d.1 (harm-done.1 none))

  pub harm-answer : (x i : ℕ) → FirstHarm L M x i → harm_test L M ≡ Err (Harm x i)
  harm-answer x i h =
      ⊎_elim (λ n. clash h.harm (n.1 x i h.pattern h.output))
      (λ f. let o = harm-one f.3 h in rw (sym o.0, sym o.1) f.2) harm-is

  pub harm-at : (x i : ℕ) → (said (harm_test L M) ≡ 14 ∷ x ∷ i ∷ []) ↔ FirstHarm L M x i
  harm-at x i = (
    λ e. ⊎_elim (λ n. absurd (omega (arith, ap length (sym e ∙ ap said n.0))))
        (λ f. let s = sym (ap said f.2) ∙ e in
        let p : f.0 ≡ x = cc s in
        let q : f.1 ≡ i = cc s in
        rw (sym p, sym q) f.3) harm-is,
    λ h. ap said (harm-answer x i h),
  )
