-- A table in two halves. Assumes nothing.
use mathlib.Core.Path.{◌≡◌, refl, sym, ap, ◌∙◌}
use mathlib.Core.Bool.{Bool}
use mathlib.Core.List.{List, [], ◌∷◌, ◌++◌, append_assoc}
use Prim.Native.Nat.{ℕ, zero, suc, ◌+◌, ◌*◌, ◌^◌}
use native.Mathlib.Nat.{add-zero, mul_assoc, pow-succ'}
use native.Mathlib.Omega.{arith}
use lib.ListN.{length}
use Rattle.bits.specs.Range.{places}
use Rattle.bits.specs.Bit.{number, table_of}
use Rattle.bits.proofs.Ranges.{length-places}

places-append : (n m : ℕ) (p : ℕ → Bool) → places (n + m) p ≡ places n p ++ places m (λ t. p (n + t))
places-append n zero p = ap (λ (k : ℕ). places k p) (add-zero n) ∙ sym (append-nil (places n p))
  where
    append-nil : (l : List Bool) → l ++ [] ≡ l
    append-nil [] = refl
    append-nil (x ∷ l) = ap (λ (r : List Bool). x ∷ r) (append-nil l)
places-append n (suc m) p =
    let e : n + suc m ≡ suc (n + m) = omega arith in
    ap (λ (k : ℕ). places k p) e
    ∙ ap (λ (l : List Bool). l ++ p (n + m) ∷ []) (places-append n m p)
    ∙ append_assoc (places n p) (places m (λ t. p (n + t))) (p (n + m) ∷ [])

number_append : (bs cs : List Bool) → number (bs ++ cs) ≡ number bs + 2 ^ length bs * number cs
number_append [] cs = omega arith
number_append (b ∷ bs) cs =
    omega (arith, number_append bs cs, ap (λ (x : ℕ). x * number cs) (pow-succ' 2 (length bs)), mul_assoc 2 (2 ^ length bs) (number cs))

-- the second half of a table of n + m entries weighs 2 ^ n
pub table-append : (n m : ℕ) (p : ℕ → Bool) → table_of n p + 2 ^ n * table_of m (λ t. p (n + t)) ≡ table_of (n + m) p
table-append n m p =
    sym (ap number (places-append n m p) ∙ number_append (places n p) (places m (λ t. p (n + t)))
    ∙ ap (λ (k : ℕ). table_of n p + 2 ^ k * table_of m (λ t. p (n + t))) (length-places n p))

pub doubled : (k : ℕ) → 2 ^ k + 2 ^ k ≡ 2 ^ suc k
doubled k = omega (arith, pow-succ' 2 k)
