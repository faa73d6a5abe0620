-- The patterns of n inputs, which are the numbers below 2^n, cut into words of 64 places. Assumes nothing.
use Rattle.std.specs.Prelude.{◌≡◌, cond, ◌⊎◌, ℕ, ◌+◌, ◌-◌, ◌*◌, ◌/◌, ◌%◌, ◌^◌, ◌≤◌, ◌<◌, ltb}
use Rattle.bits.specs.Bounds.{row_words}
use Rattle.bits.specs.Bit.{bit}

-- 2^n / 64 words, and at least one
unfoldable pub word_count : ℕ → ℕ
word_count n = cond (ltb n 6) 1 (2 ^ (n - 6))

-- W words of L places hold each pattern at its own place
pub record Cut (n W L : ℕ) : Type 0 where
  pub words : W ≤ row_words
  pub places : L ≤ 64
  pub word : (x : ℕ) → x < 2 ^ n → x / 64 < W
  pub place : (x : ℕ) → x < 2 ^ n → x % 64 < L
  pub pattern : (w b : ℕ) → w < W → b < L → w * 64 + b < 2 ^ n
  pub whole : ((W ≡ 1) × (L ≡ 2 ^ n)) ⊎ ((L ≡ 64) × (W * 64 ≡ 2 ^ n))

-- the patterns of n inputs take `count` words, and the word `live` has the places of each that are patterns
pub record Framed (n count live : ℕ) : Type 0 where
  pub words : count ≡ word_count n
  pub word : live < 2 ^ 64
  pub size : ℕ
  pub cut : Cut n count size
  pub lives : (b : ℕ) → bit live b ≡ ltb b size
