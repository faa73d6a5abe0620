-- The SDC in two words: each entry stands at its place, and up to five fan-ins have the first word alone. Assumes nothing.
use mathlib.Core.Path.{◌≡◌, sym, ap, ◌∙◌}
use mathlib.Core.List.{List, ◌∷◌}
use Prim.Native.Nat.{ℕ, suc, ◌+◌, ◌-◌, ◌/◌, ◌%◌, ◌^◌, ◌≤◌, ◌<◌}
use native.Mathlib.Nat.{div-add-mod', div-eq_of_lt, mod-eq_of_lt, lt_of_lt_of_le}
use native.Mathlib.Decide.{dec_lt}
use native.Mathlib.Omega.{arith}
use lib.ListN.{get_or}
use lib.Pow.{pow_mono}
use Rattle.bits.specs.Bit.{bit}
use Rattle.bits.proofs.BitLaws.{bit-low, bit-shr}
use Rattle.bits.proofs.Ranges.{table-lt}
use Rattle.network.specs.Net.{Net, arity, gate}
use Rattle.network.specs.DontCares.{sdc}
use Rattle.network.specs.Calls.{sdc_words}

-- of any number of 128 bits, whatever stands behind its words
word-bit : (x e : ℕ) (rest : List ℕ) → e < 128 → bit (get_or ((sdc_words x).low ∷ (sdc_words x).high ∷ rest) (e / 64) 0) (e % 64) ≡ bit x e
word-bit x e rest h = go (dec_lt e 64)
  where
    go : Dec (e < 64) → bit (get_or ((sdc_words x).low ∷ (sdc_words x).high ∷ rest) (e / 64) 0) (e % 64) ≡ bit x e
    go (yes l) =
        rw (div-eq_of_lt l, mod-eq_of_lt l)
        (sym (bit-low (x / 2 ^ 64) 64 (x % 2 ^ 64) e l) ∙ ap (λ (y : ℕ). bit y e) (div-add-mod' x (2 ^ 64)))
    go (no n) =
        let q : e / 64 ≡ 1 = omega arith in
        let r : e % 64 ≡ e - 64 = omega arith in
        let back : 64 + (e - 64) ≡ e = omega arith in
        rw (q, r) (bit-shr x 64 (e - 64) ∙ ap (bit x) back)

pub sdc-entries : (N : Net) (g e : ℕ) (rest : List ℕ) → arity (gate N g) ≤ 6 → e < 2 ^ suc (arity (gate N g))
    → let w = sdc_words (sdc N g) in bit (get_or (w.low ∷ w.high ∷ rest) (e / 64) 0) (e % 64) ≡ bit (sdc N g) e
sdc-entries N g e rest few h = word-bit (sdc N g) e rest (lt_of_lt_of_le h (pow_mono {j = 7} (omega arith)))

pub sdc-one-word : (N : Net) (g : ℕ) → arity (gate N g) ≤ 5 → (sdc_words (sdc N g)).high ≡ 0
unfolding sdc
sdc-one-word N g few =
    let entries : 2 ^ suc (arity (gate N g)) ≤ 64 = pow_mono {j = 6} (omega arith) in
    div-eq_of_lt (lt_of_lt_of_le (table-lt (2 ^ suc (arity (gate N g))) _) (pow_mono entries))
