-- The bytes of a number. Assumes nothing.
use mathlib.Core.Path.{◌≡◌, refl, ap}
use mathlib.Core.List.{List, ◌∷◌, ◌++◌}
use Prim.Native.Nat.{ℕ, zero, suc, ◌-◌, ◌/◌, ◌%◌, ◌≤◌, ◌<◌}
use native.Mathlib.Omega.{arith}
use lib.ListN.{length, take}
use Rattle.bits.specs.Lists.{bytes_in}

pub length-bytes : (c x : ℕ) → length (bytes_in c x) ≡ c
length-bytes zero x = refl
length-bytes (suc c) x = ap suc (length-bytes c (x / 256))

pub take-bytes : (z c w : ℕ) (xs : List ℕ) → z ≤ c → take z (bytes_in c w ++ xs) ≡ bytes_in z w
take-bytes zero c w xs h = refl
take-bytes (suc z) zero w xs h = let e : ⊥ = omega arith in absurd e
take-bytes (suc z) (suc c) w xs h = rw (take-bytes z c (w / 256) xs (omega arith))

-- the lowest byte, and those of the rest
pub bytes_next : (c x : ℕ) → 0 < c → bytes_in c x ≡ x % 256 ∷ bytes_in (c - 1) (x / 256)
bytes_next c x h = let q : c ≡ suc (c - 1) = omega arith in ap (λ (k : ℕ). bytes_in k x) q
