-- The digits of a number, by how many there are, and how far a piece reaches. Assumes nothing.
use mathlib.Core.Path.{◌≡◌, refl, ap}
use mathlib.Core.List.{List, [], ◌∷◌, ◌++◌}
use Prim.Native.Nat.{ℕ, zero, suc, ◌+◌, ◌-◌, ◌*◌, ◌/◌, ◌%◌, ◌^◌, ◌≤◌, ◌<◌}
use native.Mathlib.Nat.{not-suc-le-zero, pow-suc}
use native.Mathlib.Omega.{arith}
use lib.Dec.{ltb}
use lib.Pow.{pow-add}
use lib.ListN.{length, set, length-append}
use borrow.Author.Tests.{lt-ltb, le-ltb}
use Rattle.bits.proofs.Ranges.{by_cases}
use Rattle.buffer.specs.Laid.{Laid}
use Rattle.buffer.proofs.Laying.{Within, laid-append, laid-within, stored}
use Rattle.text.specs.Numbers.{digit, hex, decimal}
use Rattle.text.specs.Fields.{number, field}

module _ (x : ℕ) where
  pub one : (a : ℕ) → x < 10 → a ≡ digit x → decimal x ≡ a ∷ []
  unfolding decimal
  one a h p = rw (p, lt-ltb x 10 h)

  pub two : (a b : ℕ) → 10 ≤ x → x < 100 → a ≡ digit (x / 10) → b ≡ digit (x % 10) → decimal x ≡ a ∷ b ∷ []
  unfolding decimal
  two a b l h p q = rw (p, q, le-ltb x 10 l, lt-ltb x 100 h)

  pub three : (a b c : ℕ) → 10 ≤ x → 100 ≤ x → x < 1000 → a ≡ digit (x / 100) → b ≡ digit (x / 10 % 10) → c ≡ digit (x % 10) → decimal x ≡ a ∷ b ∷ c ∷ []
  unfolding decimal
  three a b c l k h p q r = rw (p, q, r, le-ltb x 10 l, le-ltb x 100 k, lt-ltb x 1000 h)

  pub four : (a b c d : ℕ) → 10 ≤ x → 100 ≤ x → 1000 ≤ x
      → a ≡ digit (x / 1000) → b ≡ digit (x / 100 % 10) → c ≡ digit (x / 10 % 10) → d ≡ digit (x % 10) → decimal x ≡ a ∷ b ∷ c ∷ d ∷ []
  unfolding decimal
  four a b c d l k j p q r s = rw (p, q, r, s, le-ltb x 10 l, le-ltb x 100 k, le-ltb x 1000 j)

-- four bits to a hexadecimal digit
sixteens : (c : ℕ) → 16 ^ c ≡ 2 ^ (4 * c)
sixteens zero = refl
sixteens (suc c) =
    let q : 4 * suc c ≡ 4 * c + 4 = omega arith in
    rw (q, pow-add 2 (4 * c) 4, ← sixteens c) (pow-suc 16 c)

-- the digit that is due where so many are left
pub hex-next : (left x : ℕ) → 0 < left → hex left x ≡ (digit (x / 2 ^ (4 * (left - 1)) % 16) ∷ []) ++ hex (left - 1) x
unfolding hex
hex-next zero x h = absurd (not-suc-le-zero h)
hex-next (suc c) x h = let q : suc c - 1 ≡ c = omega arith in rw (q, ← sixteens c)

pub hex-none : (left x : ℕ) → left ≡ 0 → hex left x ≡ []
unfolding hex
hex-none left x e = rw e

-- ## How long they are

pub length-decimal : (x : ℕ) → length (decimal x) ≤ 4
unfolding decimal
length-decimal x =
    by_cases (ltb x 10) (λ a. rw a (omega arith))
    (λ a. by_cases (ltb x 100) (λ b. rw (a, b) (omega arith))
    (λ b. by_cases (ltb x 1000) (λ c. rw (a, b, c) (omega arith)) (λ c. rw (a, b, c) (omega arith))))

pub length-hex : (c x : ℕ) → length (hex c x) ≡ c
unfolding hex
length-hex zero x = refl
length-hex (suc c) x = ap suc (length-hex c x)

pub length-number : (x after : ℕ) → length (number x after) ≤ 5
unfolding number
length-number x after = let n = length-append (decimal x) (after ∷ []) in let k = length-decimal x in omega arith

pub length-field : (c x : ℕ) → length (field c x) ≡ c + 1
unfolding field
length-field c x = let n = length-append (hex c x) (0x20 ∷ []) in let k = length-hex c x in omega arith

-- ## How far a piece reaches

pub number-within : {b b₁ : List ℕ} {at r : ℕ} (x after : ℕ) → Laid b at (number x after) b₁ r → Within b b₁ at r 5
number-within x after l = laid-within 5 (length-number x after) l

pub field-within : {b b₁ : List ℕ} {at r : ℕ} (c x : ℕ) → Laid b at (field c x) b₁ r → Within b b₁ at r (c + 1)
field-within c x l = laid-within (c + 1) (let n = length-field c x in omega arith) l

-- ## The byte behind a number

-- k digits leave a place for it
pub place-behind : {b b₁ xs : List ℕ} {at e : ℕ} (k : ℕ) → length xs ≤ k → Laid b at xs b₁ e → at + (k + 1) ≤ length b → e < length b₁
place-behind k h l r = let w = laid-within k h l in let p = w.behind in let q = w.long in omega arith

pub number-laid : {b b₁ : List ℕ} {at e : ℕ} (x after : ℕ) → Laid b at (decimal x) b₁ e → Laid b at (number x after) (set b₁ e after) (e + 1)
unfolding number
number-laid {b} {b₁} {at} {e} x after l = laid-append l (stored b₁ e after after refl)

pub field-laid : {b b₁ : List ℕ} {at e : ℕ} (c x : ℕ) → Laid b at (hex c x) b₁ e → Laid b at (field c x) (set b₁ e 0x20) (e + 1)
unfolding field
field-laid {b} {b₁} {at} {e} c x l = laid-append l (stored b₁ e 0x20 0x20 refl)
