-- Bytes of numbers, and the excluded set's bytes read back. Assumes nothing.
use mathlib.Core.Path.{◌≡◌, refl, ap, ◌∙◌}
use mathlib.Core.Bool.{true}
use mathlib.Core.List.{List, [], ◌∷◌, ◌++◌}
use Prim.Native.Nat.{ℕ, zero, suc, ◌+◌, ◌*◌, ◌-◌, ◌^◌, ◌/◌, ◌≤◌, ◌<◌}
use native.Mathlib.Omega.{arith}
use native.Mathlib.Decide.{dec_lt}
use native.Mathlib.Nat.{mod-add-div, div-lt_iff_lt-mul, pow-suc, lt_of_lt_of_le, pow-le-pow_right, div-eq_of_eq-mul_left}
use lib.Dec.{eqb}
use lib.ListN.{length, get_or, take, replicate, drop_of_length-le, get_or-eq_default}
use lib.Pow.{pow_pos}
use lib.Seq.{take_all, take-append-add}
use borrow.Author.Tests.{le-ltb, eqb-true}
use Rattle.bits.specs.Bounds.{most_inputs}
use Rattle.bits.specs.Lists.{bytes_in}
use Rattle.bits.proofs.Ranges.{and_l, and_r}
use Rattle.bits.proofs.Bytes.{length-bytes, take-bytes}
use Rattle.network.specs.Answer.{Done}
use Rattle.network.specs.Bounds.{excluded_words, most_set_bytes}
use Rattle.network.specs.Tests.{width_test, excluded_test}
use Rattle.network.specs.Load.{little_endian, words_from, set_bytes}
use Rattle.network.specs.Write.{word_bytes, all_zero}
use Rattle.network.proofs.TestLaws.{each-e, width-e}

-- ## Bytes of a number

pub number-bytes : (c x : ℕ) → x < 256 ^ c → little_endian (bytes_in c x) ≡ x
number-bytes zero x h = let e : 0 ≡ x = omega arith in e
number-bytes (suc c) x h =
    rw (number-bytes c (x / 256) ((div-lt_iff_lt-mul (omega arith)).1 (rw pow-suc at h))) (mod-add-div x 256)

bytes_pow : (z : ℕ) → 2 ^ (8 * z) ≡ 256 ^ z
bytes_pow zero = refl
bytes_pow (suc z) =
    let q : 8 * suc z ≡ suc (suc (suc (suc (suc (suc (suc (suc (8 * z)))))))) = omega arith in
    let r = bytes_pow z in
    rw q (simp pow-suc (omega arith))

-- ## Words

pub zeros : (ws : List ℕ) → all_zero ws ≡ true → ws ≡ replicate (length ws) 0
zeros [] h = refl
zeros (w ∷ ws) h =
    let f = eqb-true w 0 (and_l (eqb w 0) (all_zero ws) h) in
    let g = zeros ws (and_r (eqb w 0) (all_zero ws) h) in
    rw (f, ← g)

-- each word has no bit at or past `bits`, and is a word
abbrev pub Within : ℕ → List ℕ → Type 0
Within bits ws = (i : ℕ) → (get_or ws i 0 < 2 ^ (bits - 64 * i)) × (get_or ws i 0 < 2 ^ 64)

-- a session without a fault has its excluded set within its patterns
pub within : (n : ℕ) (ws : List ℕ) → length ws ≡ excluded_words → ((w : ℕ) → get_or ws w 0 < 2 ^ 64) → excluded_test n ws ≡ Done → Within (2 ^ n) ws
unfolding excluded_test
within n ws e wide h i = (go (dec_lt i excluded_words), wide i)
  where
    go : Dec (i < excluded_words) → get_or ws i 0 < 2 ^ (2 ^ n - 64 * i)
    go (yes l) = width-e (2 ^ n - 64 * i) (get_or ws i 0) (each-e (λ w. width_test (2 ^ n - 64 * w) (get_or ws w 0)) excluded_words h i l)
    go (no l) = rw (get_or-eq_default ws 0 {n = i} (omega arith)) (pow_pos (2 ^ n - 64 * i))

-- z bytes hold so many bits
abbrev pub Holds : ℕ → ℕ → Type 0
Holds bits z = (bits ≤ 8 * z) × (8 ≤ z → bits ≡ 8 * z)

next-within : (bits w : ℕ) (ws : List ℕ) → Within bits (w ∷ ws) → Within (bits - 64) ws
next-within bits w ws h i =
    let q : bits - 64 - 64 * i ≡ bits - 64 * suc i = omega arith in
    rw q (h (suc i))

-- the bytes of the set from three inputs on
set-bytes : (n : ℕ) → set_bytes (suc (suc (suc n))) ≡ 2 ^ n
set-bytes n =
    let p : 2 ^ suc (suc (suc n)) ≡ 2 ^ n * 8 = simp pow-suc (omega arith) in
    rw (le-ltb (suc (suc (suc n))) 3 (omega arith)) (div-eq_of_eq-mul_left (omega arith) p)

pub holds : (n : ℕ) → Holds (2 ^ n) (set_bytes n)
holds zero = (omega arith, λ h. omega arith)
holds (suc zero) = (omega arith, λ h. omega arith)
holds (suc (suc zero)) = (omega arith, λ h. omega arith)
holds (suc (suc (suc n))) =
    let p : 2 ^ suc (suc (suc n)) ≡ 2 ^ n * 8 = simp pow-suc (omega arith) in
    rw (set-bytes n, p) (omega arith, λ h. omega arith)

pub set-bytes-most : (n : ℕ) → n ≤ most_inputs → set_bytes n ≤ most_set_bytes
set-bytes-most zero h = omega arith
set-bytes-most (suc zero) h = omega arith
set-bytes-most (suc (suc zero)) h = omega arith
set-bytes-most (suc (suc (suc n))) h =
    let b : 2 ^ n ≤ most_set_bytes = pow-le-pow_right {n = 2} (omega arith) {i = n} {j = 7} (omega arith) in
    rw (set-bytes n) b

-- no bits, no bytes
none_left : (ws : List ℕ) → Within 0 ws → words_from (length ws) [] ≡ ws
none_left [] h = refl
none_left (w ∷ ws) h =
    let l = (h 0).0 in
    let e : w ≡ 0 = omega arith in
    rw (e, none_left ws (next-within 0 w ws h))

module _ (w : ℕ) (ws : List ℕ) (bits z : ℕ) (h : Within bits (w ∷ ws)) (l : Holds bits z) where
  few : z < 8 → words_from (suc (length ws)) (take z (word_bytes (w ∷ ws))) ≡ w ∷ ws
  few s =
      let t = take-bytes z 8 w (word_bytes ws) (omega arith) in
      let n = length-bytes z w in
      let small : w < 256 ^ z = lt_of_lt_of_le (h 0).0 (rw (← bytes_pow z) (pow-le-pow_right (omega arith) (omega arith))) in
      let b : bits - 64 ≡ 0 = omega arith in
      let r = rw b at (next-within bits w ws h) in
      rw (t, take_all 8 (bytes_in z w) (omega arith), number-bytes z w small, drop_of_length-le (bytes_in z w) {i = 8} (omega arith), none_left ws r)

  more : 8 ≤ z → words_from (length ws) (take (z - 8) (word_bytes ws)) ≡ ws → words_from (suc (length ws)) (take z (word_bytes (w ∷ ws))) ≡ w ∷ ws
  more s r =
      let q : z ≡ 8 + (z - 8) = omega arith in
      let a : take z (word_bytes (w ∷ ws)) ≡ bytes_in 8 w ++ take (z - 8) (word_bytes ws) = ap (λ (k : ℕ). take k (word_bytes (w ∷ ws))) q ∙ take-append-add (bytes_in 8 w) (word_bytes ws) (z - 8) in
      rw (a, number-bytes 8 w (h 0).1, r)

pub words_back : (ws : List ℕ) (bits z : ℕ) → Within bits ws → Holds bits z → words_from (length ws) (take z (word_bytes ws)) ≡ ws
words_back [] bits z h l = refl
words_back (w ∷ ws) bits z h l = go (dec_lt z 8) (λ s. words_back ws (bits - 64) (z - 8) (next-within bits w ws h) (lower s))
  where
    lower : 8 ≤ z → Holds (bits - 64) (z - 8)
    lower s = let e = l.1 s in (omega arith, λ x. omega arith)

    go : Dec (z < 8) → (8 ≤ z → words_from (length ws) (take (z - 8) (word_bytes ws)) ≡ ws) → words_from (suc (length ws)) (take z (word_bytes (w ∷ ws))) ≡ w ∷ ws
    go (yes s) r = few w ws bits z h l s
    go (no s) r = let s' : 8 ≤ z = omega arith in more w ws bits z h l s' (r s')
