-- The bytes of words, and of a set of 2^n bits. Assumes nothing.
use mathlib.Core.Path.{◌≡◌, refl}
use mathlib.Core.List.{List, [], ◌∷◌}
use Prim.Native.Nat.{ℕ, ◌*◌, ◌^◌, ◌/◌, ◌≤◌, ◌<◌}
use native.Mathlib.Omega.{arith}
use lib.Pow.{pow_mono}
use lib.ListN.{length}
use borrow.Author.Tests.{lt-ltb, le-ltb}
use Rattle.bits.specs.Bounds.{most_inputs}
use Rattle.network.specs.Bounds.{most_set_bytes}
use Rattle.network.specs.Load.{set_bytes}
use Rattle.network.specs.Write.{word_bytes}

pub length-words : (ws : List ℕ) → length (word_bytes ws) ≡ 8 * length ws
length-words [] = refl
length-words (w ∷ ws) = let h = length-words ws in omega arith

pub set-small : (n : ℕ) → n < 3 → 1 ≡ set_bytes n
set-small n h = rw (lt-ltb n 3 h)

pub set-large : (n r : ℕ) → 3 ≤ n → n ≤ most_inputs → r ≡ 2 ^ n → (r / 8 ≡ set_bytes n) × (r / 8 ≤ most_set_bytes)
set-large n r h l e =
    let b : 2 ^ n ≤ 1024 = pow_mono {j = most_inputs} l in
    (rw (e, le-ltb n 3 h), omega arith)
