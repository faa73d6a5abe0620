-- What `first_in` over a range and `smallest` find, and the turns of a loop that searches. Assumes nothing.
use mathlib.Core.Path.{◌≡◌, refl, ap, ◌∙◌}
use mathlib.Core.Bool.{Bool, true, false, cond}
use Prim.Native.Nat.{ℕ, zero, suc, ◌+◌, ◌-◌, ◌<◌, ◌≤◌}
use native.Mathlib.Nat.{not-suc-le-zero}
use native.Mathlib.Decide.{dec_lt}
use native.Mathlib.Omega.{arith}
use Rattle.std.specs.Prelude.{Option}
use Rattle.std.specs.Prelude.{Some, None}
use Rattle.bits.specs.Range.{up_from, first_in, smallest}
use Rattle.bits.proofs.Ranges.{by_cases, lt-cases}
use Rattle.bits.proofs.Logic.{clash}

-- ## What is found

abbrev pub Smallest : ℕ → (ℕ → Bool) → Option ℕ → Type 0
Smallest n p None = (i : ℕ) → i < n → p i ≡ false
Smallest n p (Some t) = (t < n) × (p t ≡ true) × ((i : ℕ) → i < t → p i ≡ false)

-- the search from a on, where nothing below a passes
first-is : (p : ℕ → Bool) (c a n : ℕ) → n ≡ a + c → ((i : ℕ) → i < a → p i ≡ false) → Smallest n p (first_in p (up_from a c))
first-is p zero a n e below = λ i h. below i (omega arith)
first-is p (suc c) a n e below =
    by_cases (p a)
    (λ q. rw q (omega arith, q, below))
    (λ q. rw q (first-is p c (a + 1) n (omega arith) (λ i h. lt-cases i a (omega arith) (below i) (λ s. ap p s ∙ q))))

pub smallest-is : (n : ℕ) (p : ℕ → Bool) → Smallest n p (smallest n p)
smallest-is n p = first-is p n 0 n (omega arith) (λ i h. absurd (not-suc-le-zero h))

-- nothing else is
smallest-one : (n : ℕ) (p : ℕ → Bool) (a b : Option ℕ) → Smallest n p a → Smallest n p b → a ≡ b
smallest-one n p None None s u = refl
smallest-one n p None (Some b) s u = clash u.1 (s b u.0)
smallest-one n p (Some a) None s u = clash s.1 (u a s.0)
smallest-one n p (Some a) (Some b) s u = ap Some (order (dec_lt a b) (dec_lt b a))
  where
    order : Dec (a < b) → Dec (b < a) → a ≡ b
    order (yes l) _ = clash s.1 (u.2 a l)
    order (no k) (yes l) = clash u.1 (s.2 b l)
    order (no k) (no m) = omega arith

pub smallest-eq : (n : ℕ) (p : ℕ → Bool) (a : Option ℕ) → Smallest n p a → smallest n p ≡ a
smallest-eq n p a s = smallest-one n p (smallest n p) a (smallest-is n p) s

-- the test counts below the bound only
pub smallest-ext : (n : ℕ) (p q : ℕ → Bool) → ((i : ℕ) → i < n → p i ≡ q i) → smallest n p ≡ smallest n q
smallest-ext n p q f = smallest-eq n p (smallest n q) (go (smallest n q) (smallest-is n q))
  where
    go : (a : Option ℕ) → Smallest n q a → Smallest n p a
    go None w = λ i l. f i l ∙ w i l
    go (Some t) w = (w.0, f t w.0 ∙ w.1, λ i l. f i (omega (arith, w.0)) ∙ w.2 i l)

-- ## A loop from 0 up to n that stands at e: what is left is the search from e on

step : (p : ℕ → Bool) (e n : ℕ) → e < n → first_in p (up_from e (n - e)) ≡ cond (p e) (Some e) (first_in p (up_from (e + 1) (n - (e + 1))))
step p e n h = let q : n - e ≡ suc (n - (e + 1)) = omega arith in rw q

pub found : (p : ℕ → Bool) (e n : ℕ) → e < n → p e ≡ true → Some e ≡ first_in p (up_from e (n - e))
found p e n h t = rw (step p e n h, t)

pub next : (p : ℕ → Bool) (e n : ℕ) → e < n → p e ≡ false → first_in p (up_from (e + 1) (n - (e + 1))) ≡ first_in p (up_from e (n - e))
next p e n h t = rw (step p e n h, t)

pub done : (p : ℕ → Bool) (e n : ℕ) → n ≤ e → first_in p (up_from e (n - e)) ≡ None
done p e n h = let q : n - e ≡ 0 = omega arith in rw q
