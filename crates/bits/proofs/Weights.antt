-- How many bits of a pattern are set, by its word and its place there. Assumes nothing.
use mathlib.Core.Path.{◌≡◌, sym, ap, ap₂, ◌∙◌}
use mathlib.Core.Bool.{false}
use Prim.Native.Nat.{ℕ, ◌+◌, ◌-◌, ◌*◌, ◌^◌, ◌<◌, ◌≤◌}
use native.Mathlib.Nat.{add-zero, add_comm}
use native.Mathlib.Decide.{ℕ_discrete}
use native.Mathlib.Omega.{arith}
use lib.Dec.{eqb}
use borrow.Author.Tests.{ne_eqb, eq-eqb}
use Rattle.bits.specs.Bounds.{most_inputs, row_words}
use Rattle.bits.specs.Range.{count}
use Rattle.bits.specs.Bit.{bit}
use Rattle.bits.proofs.BitLaws.{bit-low, bit_high, bit-above}
use Rattle.bits.proofs.Cuts.{count-ext, count_add, count_none, count-le}

-- bits past the last one count for nothing
ones-past : (k d x : ℕ) → x < 2 ^ k → count (k + d) (bit x) ≡ count k (bit x)
ones-past k d x h =
    count_add k d (bit x) ∙ ap (λ (e : ℕ). count k (bit x) + e) (count_none d (λ i. bit x (k + i)) (λ i. bit-above x k (k + i) h (omega arith)))
    ∙ add-zero (count k (bit x))

pub ones-same : (k n x : ℕ) → x < 2 ^ k → x < 2 ^ n → count k (bit x) ≡ count n (bit x)
ones-same k n x h l = sym (ones-past k n x h) ∙ ap (λ (e : ℕ). count e (bit x)) (add_comm k n) ∙ ones-past n k x l

-- those of a place, and those of its word
ones_cut : (k w b : ℕ) → b < 64 → count (6 + k) (bit (w * 64 + b)) ≡ count 6 (bit b) + count k (bit w)
ones_cut k w b h =
    count_add 6 k (bit (w * 64 + b))
    ∙ ap₂ (λ (x y : ℕ). x + y) (count-ext 6 (bit (w * 64 + b)) (bit b) (λ i l. bit-low w 6 b i l))
    (count-ext k (λ i. bit (w * 64 + b) (6 + i)) (bit w) (λ i l. bit_high w 6 b i h))

ones-at : (n w b : ℕ) → w < row_words → b < 64 → w * 64 + b < 2 ^ n → count n (bit (w * 64 + b)) ≡ count 6 (bit b) + count 64 (bit w)
ones-at n w b hw hb h =
    ones-same n (6 + (most_inputs - 6)) (w * 64 + b) h (omega arith) ∙ ones_cut (most_inputs - 6) w b hb
    ∙ ap (λ (e : ℕ). count 6 (bit b) + e) (ones-same (most_inputs - 6) 64 w hw (omega arith))

moved : (a l c : ℕ) → a ≤ c → eqb l (c - a) ≡ eqb (l + a) c
moved a l c h = go (ℕ_discrete l (c - a))
  where
    go : Dec (l ≡ c - a) → eqb l (c - a) ≡ eqb (l + a) c
    go (yes e) = eq-eqb l (c - a) e ∙ sym (eq-eqb (l + a) c (omega arith))
    go (no n) = ne_eqb l (c - a) n ∙ sym (ne_eqb (l + a) c (λ e. n (omega arith)))

-- the pattern at place b of word w, whose number has `above` bits set: whether it has c
module _ (n w b c above : ℕ) (hw : w < row_words) (hb : b < 64) (h : w * 64 + b < 2 ^ n) (e : above ≡ count 64 (bit w)) where
  split : count n (bit (w * 64 + b)) ≡ count 6 (bit b) + above
  split = ones-at n w b hw hb h ∙ ap (λ (a : ℕ). count 6 (bit b) + a) (sym e)

  pub weight-few : c < above → false ≡ eqb (count n (bit (w * 64 + b))) c
  weight-few l = rw split (sym (ne_eqb (count 6 (bit b) + above) c (λ q. few (count 6 (bit b)) q)))
    where
      few : (u : ℕ) → u + above ≡ c → ⊥
      few u q = omega arith

  pub weight-many : 6 < c - above → false ≡ eqb (count n (bit (w * 64 + b))) c
  weight-many l = rw split (sym (ne_eqb (count 6 (bit b) + above) c (λ q. many (count 6 (bit b)) (count-le 6 (bit b)) q)))
    where
      many : (u : ℕ) → u ≤ 6 → u + above ≡ c → ⊥
      many u m q = omega arith

  pub weight-at : above ≤ c → eqb (count 6 (bit b)) (c - above) ≡ eqb (count n (bit (w * 64 + b))) c
  weight-at l = rw split (moved above (count 6 (bit b)) c l)
