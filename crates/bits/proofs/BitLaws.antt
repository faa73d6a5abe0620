-- The laws of `bit`. Assumes nothing.
use mathlib.Core.Path.{◌≡◌, refl, sym, ap, ap₂, ◌∙◌, subst}
use mathlib.Core.Logic.{◌⊎◌, inl, inr}
use mathlib.Core.Bool.{Bool, true, false, not, ◌&&◌, ◌||◌}
use Prim.Native.Nat.{ℕ, zero, suc, ◌+◌, ◌-◌, ◌*◌, ◌/◌, ◌%◌, ◌^◌, ◌≤◌, ◌<◌, min, max}
use native.Mathlib.Nat.{add-zero, mod-lt, zero-div, mod-eq_of_lt, add_comm, div-one, lt_of_lt_of_le, div-eq_of_lt, mul_assoc, mul-add-div_right, mul-add-mod_self_right}
use native.Mathlib.Numerals.{one-add, add-one}
use native.Mathlib.Omega.{arith}
use lib.Dec.{eqb, ltb, lit<}
use lib.Arith.{digits_mod, lt-one}
use lib.Pow.{pow_mono, pow-add, pow_pos, shr-shr, ones_split, high, shr_lt, mod-pow-add, ones_lt}
use lib.Bits.{bit_and, bit_or, bit_xor, and_step, or_step, xor_step, and_shr, or_shr, xor_shr, and_mask, xor_add_and, differ}
use lib.Count.{ones, ones_cat, count_trailing_zeros, under}
use borrow.Author.Tests.{lt-ltb, le-ltb, eq-eqb, ne_eqb}
use native.Mathlib.Decide.{dec_lt, ℕ_discrete}
use Rattle.bits.specs.Range.{num, count}
use Rattle.bits.specs.Bit.{bit, differs}

-- a digit is 0 or 1
pub digit : (n : ℕ) → (n % 2 ≡ 0) ⊎ (n % 2 ≡ 1)
digit n = pick (n % 2) (mod-lt n (lit< tt))
  where
    pick : (d : ℕ) → d < 2 → (d ≡ 0) ⊎ (d ≡ 1)
    pick zero h = inl refl
    pick (suc zero) h = inr refl
    pick (suc (suc d)) h = absurd (omega arith)

-- an operation on digits, given by its truth table
module _ (f : ℕ → ℕ → ℕ) (g : Bool → Bool → Bool)
    (e00 : eqb (f 0 0) 1 ≡ g false false) (e01 : eqb (f 0 1) 1 ≡ g false true)
    (e10 : eqb (f 1 0) 1 ≡ g true false) (e11 : eqb (f 1 1) 1 ≡ g true true) where
  table : (x y : ℕ) → (x ≡ 0) ⊎ (x ≡ 1) → (y ≡ 0) ⊎ (y ≡ 1) → eqb (f x y) 1 ≡ g (eqb x 1) (eqb y 1)
  table x y (inl p) (inl q) = rw (p, q) e00
  table x y (inl p) (inr q) = rw (p, q) e01
  table x y (inr p) (inl q) = rw (p, q) e10
  table x y (inr p) (inr q) = rw (p, q) e11

low_digit : (q : ℕ) {d : ℕ} → d < 2 → (q * 2 + d) % 2 ≡ d
low_digit q h = digits_mod q h

and-odd : (a b : ℕ) → bit_and a b % 2 ≡ min (a % 2) (b % 2)
and-odd a b = ap (λ (n : ℕ). n % 2) (and_step a b) ∙ low_digit _ (omega arith)

or-odd : (a b : ℕ) → bit_or a b % 2 ≡ max (a % 2) (b % 2)
or-odd a b = ap (λ (n : ℕ). n % 2) (or_step a b) ∙ low_digit _ (omega arith)

differ-lt : (x y : ℕ) → (x ≡ 0) ⊎ (x ≡ 1) → (y ≡ 0) ⊎ (y ≡ 1) → differ x y < 2
differ-lt x y (inl p) (inl q) = rw (p, q) (lit< tt)
differ-lt x y (inl p) (inr q) = rw (p, q) (lit< tt)
differ-lt x y (inr p) (inl q) = rw (p, q) (lit< tt)
differ-lt x y (inr p) (inr q) = rw (p, q) (lit< tt)

xor-odd : (a b : ℕ) → bit_xor a b % 2 ≡ differ (a % 2) (b % 2)
xor-odd a b = ap (λ (n : ℕ). n % 2) (xor_step a b) ∙ low_digit _ (differ-lt _ _ (digit a) (digit b))

pub bit-and : (a b i : ℕ) → bit (bit_and a b) i ≡ bit a i && bit b i
unfolding bit
bit-and a b i =
    ap (λ (n : ℕ). eqb (n % 2) 1) (and_shr a b i) ∙ ap (λ (n : ℕ). eqb n 1) (and-odd (a / 2 ^ i) (b / 2 ^ i))
    ∙ table min ◌&&◌ refl refl refl refl _ _ (digit (a / 2 ^ i)) (digit (b / 2 ^ i))

pub bit-or : (a b i : ℕ) → bit (bit_or a b) i ≡ bit a i || bit b i
unfolding bit
bit-or a b i =
    ap (λ (n : ℕ). eqb (n % 2) 1) (or_shr a b i) ∙ ap (λ (n : ℕ). eqb n 1) (or-odd (a / 2 ^ i) (b / 2 ^ i))
    ∙ table max ◌||◌ refl refl refl refl _ _ (digit (a / 2 ^ i)) (digit (b / 2 ^ i))

pub bit-xor : (a b i : ℕ) → bit (bit_xor a b) i ≡ differs (bit a i) (bit b i)
unfolding bit
bit-xor a b i =
    ap (λ (n : ℕ). eqb (n % 2) 1) (xor_shr a b i) ∙ ap (λ (n : ℕ). eqb n 1) (xor-odd (a / 2 ^ i) (b / 2 ^ i))
    ∙ table differ differs refl refl refl refl _ _ (digit (a / 2 ^ i)) (digit (b / 2 ^ i))

-- shifts
pub bit-shr : (x k i : ℕ) → bit (x / 2 ^ k) i ≡ bit x (k + i)
unfolding bit
bit-shr x k i = ap (λ (n : ℕ). eqb (n % 2) 1) (shr-shr x k i)

pub bit-suc : (x i : ℕ) → bit x (suc i) ≡ bit (x / 2) i
bit-suc x i = ap (bit x) (sym (one-add i)) ∙ sym (bit-shr x 1 i)

-- no bit of 0 is set, and each below k of 2 ^ k - 1
pub bit-zero : (i : ℕ) → bit 0 i ≡ false
unfolding bit
bit-zero i = ap (λ (n : ℕ). eqb (n % 2) 1) (zero-div (2 ^ i))

odd-ones : (j : ℕ) → eqb ((2 ^ (j + 1) - 1) % 2) 1 ≡ true
odd-ones j = ap (λ (n : ℕ). eqb (n % 2) 1) (ones_split j 1) ∙ ap (λ (n : ℕ). eqb n 1) (digits_mod (2 ^ j - 1) (lit< tt))

pub bit-ones : (k i : ℕ) → i < k → bit (2 ^ k - 1) i ≡ true
unfolding bit
bit-ones k i h =
    let j = k - (i + 1) in
    let e : k ≡ j + 1 + i = omega arith in
    ap (λ (n : ℕ). eqb ((2 ^ n - 1) / 2 ^ i % 2) 1) e
    ∙ ap (λ (n : ℕ). eqb (n / 2 ^ i % 2) 1) (ones_split (j + 1) i)
    ∙ ap (λ (n : ℕ). eqb (n % 2) 1) (high (2 ^ (j + 1) - 1) i (ones_lt i))
    ∙ odd-ones j

-- the complement in k bits
not-xor : (k x : ℕ) → x < 2 ^ k → 2 ^ k - 1 - x ≡ bit_xor x (2 ^ k - 1)
not-xor k x h = omega (arith, xor_add_and x (2 ^ k - 1), and_mask x k, mod-eq_of_lt h)

pub differs_true : (b : Bool) → differs b true ≡ not b
differs_true true = refl
differs_true false = refl

pub bit_not : (k x i : ℕ) → x < 2 ^ k → i < k → bit (2 ^ k - 1 - x) i ≡ not (bit x i)
bit_not k x i hx hi =
    ap (λ (n : ℕ). bit n i) (not-xor k x hx) ∙ bit-xor x (2 ^ k - 1) i ∙ ap (differs (bit x i)) (bit-ones k i hi)
    ∙ differs_true (bit x i)

-- the digit as a number
pub num-bit : (x i : ℕ) → num (bit x i) ≡ x / 2 ^ i % 2
unfolding bit
num-bit x i = go _ (digit (x / 2 ^ i))
  where
    go : (d : ℕ) → (d ≡ 0) ⊎ (d ≡ 1) → num (eqb d 1) ≡ d
    go d (inl e) = rw e
    go d (inr e) = rw e

pub num-lt : (b : Bool) → num b < 2
num-lt true = lit< tt
num-lt false = lit< tt

pub num-inj : (a b : Bool) → num a ≡ num b → a ≡ b
num-inj true true e = refl
num-inj false false e = refl
num-inj true false e = absurd (omega arith)
num-inj false true e = absurd (omega arith)

pub low : (x : ℕ) → num (bit x 0) ≡ x % 2
low x = num-bit x 0 ∙ ap (λ (n : ℕ). n % 2) (div-one x)

half_lt : (k : ℕ) {x : ℕ} → x < 2 ^ suc k → x / 2 < 2 ^ k
half_lt k {x} h = shr_lt k 1 (subst (λ (n : ℕ). x < 2 ^ n) (sym (add-one k)) h)

-- two numbers of k bits with the same bits are equal
pub bit-ext : (k a b : ℕ) → a < 2 ^ k → b < 2 ^ k → ((i : ℕ) → i < k → bit a i ≡ bit b i) → a ≡ b
bit-ext zero a b ha hb h = lt-one ha ∙ sym (lt-one hb)
bit-ext (suc k) a b ha hb h =
    let hs : a / 2 ≡ b / 2 = bit-ext k (a / 2) (b / 2) (half_lt k ha) (half_lt k hb) (λ i l. sym (bit-suc a i) ∙ h (suc i) (omega arith) ∙ bit-suc b i) in
    let ls : a % 2 ≡ b % 2 = sym (low a) ∙ ap num (h 0 (omega arith)) ∙ low b in
    omega arith

-- a number of k bits that is not 0 has a bit set
pub some-bit : (k a : ℕ) → a < 2 ^ k → (a ≡ 0 → ⊥) → (i : ℕ) × (i < k) × (bit a i ≡ true)
some-bit zero a h n = absurd (n (lt-one h))
some-bit (suc k) a h n = go (some-bit k (a / 2) (half_lt k h)) (digit a)
  where
    go : ((a / 2 ≡ 0 → ⊥) → (i : ℕ) × (i < k) × (bit (a / 2) i ≡ true)) → (a % 2 ≡ 0) ⊎ (a % 2 ≡ 1) → (i : ℕ) × (i < suc k) × (bit a i ≡ true)
    go rest (inl e) = let r = rest (λ z. n (omega arith)) in (suc r.0, omega (arith, r.1), bit-suc a r.0 ∙ r.2)
    go rest (inr e) = (0, omega arith, num-inj (bit a 0) true (low a ∙ e))

-- the count of ones is the number of bits set
ones-digit : (n : ℕ) → ones (n % 2) ≡ n % 2
unfolding ones
ones-digit n = go _ (digit n)
  where
    go : (d : ℕ) → (d ≡ 0) ⊎ (d ≡ 1) → ones d ≡ d
    go d (inl e) = rw e
    go d (inr e) = rw e

ones_low : (k x : ℕ) → ones (x % 2 ^ k) ≡ count k (bit x)
unfolding ones
ones_low zero x = ap ones (lt-one (mod-lt x (lit< tt)))
ones_low (suc k) x =
    ap (λ (n : ℕ). ones (x % 2 ^ n)) (sym (one-add k)) ∙ ap ones (mod-pow-add x 1 k)
    ∙ ones_cat k (x / 2 ^ k % 2) (x % 2 ^ k) (mod-lt x (pow_pos k))
    ∙ ap₂ (λ (p q : ℕ). p + q) (ones-digit (x / 2 ^ k) ∙ sym (num-bit x k)) (ones_low k x)
    ∙ add_comm (num (bit x k)) (count k (bit x))

pub ones-count : (k x : ℕ) → x < 2 ^ k → ones x ≡ count k (bit x)
ones-count k x h = ap ones (sym (mod-eq_of_lt h)) ∙ ones_low k x

-- the low bits of a number in two parts, and the high ones
pub bit-low : (hi k lo i : ℕ) → i < k → bit (hi * 2 ^ k + lo) i ≡ bit lo i
unfolding bit
bit-low hi k lo i h =
    let j = k - (i + 1) in
    let e : k ≡ j + 1 + i = omega arith in
    ap (λ (n : ℕ). eqb ((hi * 2 ^ n + lo) / 2 ^ i % 2) 1) e
    ∙ ap (λ (n : ℕ). eqb ((hi * n + lo) / 2 ^ i % 2) 1) (pow-add 2 (j + 1) i ∙ ap (λ (n : ℕ). n * 2 ^ i) (pow-add 2 j 1))
    ∙ ap (λ (n : ℕ). eqb ((n + lo) / 2 ^ i % 2) 1) (sym (mul_assoc hi (2 ^ j * 2) (2 ^ i)))
    ∙ ap (λ (n : ℕ). eqb (n % 2) 1) (mul-add-div_right (pow_pos i) (hi * (2 ^ j * 2)) lo)
    ∙ ap (λ (n : ℕ). eqb ((n + lo / 2 ^ i) % 2) 1) (sym (mul_assoc hi (2 ^ j) 2))
    ∙ ap (λ (n : ℕ). eqb n 1) (mul-add-mod_self_right (hi * 2 ^ j) 2 (lo / 2 ^ i))

pub bit_high : (hi k lo i : ℕ) → lo < 2 ^ k → bit (hi * 2 ^ k + lo) (k + i) ≡ bit hi i
bit_high hi k lo i h = sym (bit-shr (hi * 2 ^ k + lo) k i) ∙ ap (λ (n : ℕ). bit n i) (high hi k h)

-- a number below 2 ^ i has no bit set at i
pub bit-above : (x k i : ℕ) → x < 2 ^ k → k ≤ i → bit x i ≡ false
unfolding bit
bit-above x k i h l = ap (λ (n : ℕ). eqb (n % 2) 1) (div-eq_of_lt (lt_of_lt_of_le h (pow_mono l)))

pub bit_mask : (k i : ℕ) → bit (2 ^ k - 1) i ≡ ltb i k
bit_mask k i = go (dec_lt i k)
  where
    go : Dec (i < k) → bit (2 ^ k - 1) i ≡ ltb i k
    go (yes h) = bit-ones k i h ∙ sym (lt-ltb i k h)
    go (no f) = let l : k ≤ i = omega arith in bit-above (2 ^ k - 1) k i (ones_lt k) l ∙ sym (le-ltb i k l)

lower : (x t : ℕ) → bit x 0 ≡ false → ((i : ℕ) → i < t → bit (x / 2) i ≡ false) → (i : ℕ) → i < suc t → bit x i ≡ false
lower x t e h zero l = e
lower x t e h (suc i) l = bit-suc x i ∙ h i (omega arith)

-- the lowest set bit
pub trailing : (k x : ℕ) → x < 2 ^ k → (x ≡ 0 → ⊥)
    → (count_trailing_zeros k x < k) × (bit x (count_trailing_zeros k x) ≡ true) × ((i : ℕ) → i < count_trailing_zeros k x → bit x i ≡ false)
unfolding count_trailing_zeros
trailing zero x h n = absurd (n (lt-one h))
trailing (suc k) x h n = go (trailing k (x / 2) (half_lt k h)) (digit x)
  where
    goal : ℕ → Type 0
    goal t = (t < suc k) × (bit x t ≡ true) × ((i : ℕ) → i < t → bit x i ≡ false)

    go : ((x / 2 ≡ 0 → ⊥) → (count_trailing_zeros k (x / 2) < k) × (bit (x / 2) (count_trailing_zeros k (x / 2)) ≡ true) × ((i : ℕ) → i < count_trailing_zeros k (x / 2) → bit (x / 2) i ≡ false))
        → (x % 2 ≡ 0) ⊎ (x % 2 ≡ 1) → goal (under (x % 2) (count_trailing_zeros k (x / 2)))
    go rest (inl e) =
        let r = rest (λ z. n (omega arith)) in
        rw e (
          omega (arith, r.0),
          bit-suc x (count_trailing_zeros k (x / 2)) ∙ r.1,
          lower x (count_trailing_zeros k (x / 2)) (num-inj (bit x 0) false (low x ∙ e)) r.2,
        )
    go rest (inr e) = rw e (omega arith, num-inj (bit x 0) true (low x ∙ e), λ i l. absurd (omega arith))

-- ## The set 2 ^ r + f: the members of f, which are below r, and r

module _ (r f : ℕ) (h : f < 2 ^ r) where
  parts : 2 ^ r + f ≡ 1 * 2 ^ r + f
  parts = omega arith

  pub with-own : bit (2 ^ r + f) r ≡ true
  unfolding bit
  with-own = ap₂ bit parts (sym (add-zero r)) ∙ bit_high 1 r f 0 h

  pub with-other : (i : ℕ) → (i ≡ r → ⊥) → bit (2 ^ r + f) i ≡ bit f i
  with-other i n = go (dec_lt i r)
    where
      go : Dec (i < r) → bit (2 ^ r + f) i ≡ bit f i
      go (yes l) = ap (λ (x : ℕ). bit x i) parts ∙ bit-low 1 r f i l
      go (no m) = bit-above (2 ^ r + f) (r + 1) i (omega (arith, pow-add 2 r 1)) (omega arith) ∙ sym (bit-above f r i h (omega arith))

-- so 2 ^ r is the set of r alone
pub power-own : (r : ℕ) → bit (2 ^ r) r ≡ true
power-own r = ap (λ (x : ℕ). bit x r) (sym (add-zero (2 ^ r))) ∙ with-own r 0 (pow_pos r)

pub power-other : (r i : ℕ) → (i ≡ r → ⊥) → bit (2 ^ r) i ≡ false
power-other r i n = ap (λ (x : ℕ). bit x i) (sym (add-zero (2 ^ r))) ∙ with-other r 0 (pow_pos r) i n ∙ bit-zero i

pub bit-power : (r i : ℕ) → bit (2 ^ r) i ≡ eqb r i
bit-power r i = go (ℕ_discrete i r)
  where
    go : Dec (i ≡ r) → bit (2 ^ r) i ≡ eqb r i
    go (yes e) = rw e (power-own r ∙ sym (eq-eqb r r refl))
    go (no n) = power-other r i n ∙ sym (ne_eqb r i (λ e. n (sym e)))
