-- Bytes by kind, and digits. Assumes nothing.
use mathlib.Core.Path.{◌≡◌, sym, ap, ◌∙◌}
use mathlib.Core.Bool.{Bool, true, false, cond, ◌&&◌}
use Prim.Native.Nat.{ℕ, zero, suc, ◌+◌, ◌-◌, ◌*◌, ◌^◌, ◌≤◌, ◌<◌}
use native.Mathlib.Omega.{arith}
use native.Mathlib.Numerals.{add-one}
use native.Mathlib.Nat.{pow-suc, suc-mul, mul-le-mul_right, pow-le-pow_right}
use lib.Dec.{leb, ltb}
use lib.ListN.{length, get_or, drop, drop_of_length-le}
use borrow.Author.Tests.{leb-true, ltb-true, le-leb, lt-leb}
use Rattle.bits.proofs.Ranges.{and_l, and_r}
use Rattle.text.specs.Words.{Text, between, is_printing, all}
use Rattle.text.proofs.Places.{split_at, all-at}
use Rattle.ordertext.specs.Order.{is_equals, digit_of, digits, is_numeral, onward, before_last, name_length, table_text, is_pair}

-- a byte between two
pub between-e : (least most b : ℕ) → between least most b ≡ true → (least ≤ b) × (b ≤ most)
between-e least most b h = (leb-true least b (and_l (leb least b) (leb b most) h), leb-true b most (and_r (leb least b) (leb b most) h))

-- ## Numbers

pub digit-below : (base : ℕ) (w : Text) (i : ℕ) → digits base w ≡ true → i < length w → digit_of (get_or w i 0) < base
digit-below base w i e h = ltb-true (digit_of (get_or w i 0)) base (all-at (λ b. ltb (digit_of b) base) w i e h)

-- one digit more
pub digit_room : (base v d i n : ℕ) → v < base ^ i → d < base → i < n → base ^ n ≤ 2 ^ 64
    → (v * base + d < base ^ (i + 1)) × (v * base + d < 2 ^ 64)
digit_room base v d i n hv hd hi hn =
    let one : suc v * base ≤ base ^ suc i = rw pow-suc (mul-le-mul_right base hv) in
    let two : suc v * base ≡ v * base + base = suc-mul v base in
    let three : base ^ suc i ≤ base ^ n = pow-le-pow_right (omega arith) hi in
    let four : v * base + d < base ^ suc i = omega arith in
    (rw add-one four, omega arith)

pub onward-next : (base v : ℕ) (w : Text) (i : ℕ) → i < length w → onward base (v * base + digit_of (get_or w i 0)) (drop (i + 1) w) ≡ onward base v (drop i w)
onward-next base v w i h = rw (split_at w i h)

pub onward-done : (base v : ℕ) (w : Text) (i : ℕ) → length w ≤ i → v ≡ onward base v (drop i w)
onward-done base v w i h = rw (drop_of_length-le w {i = i} h)

-- ## The last =, from the end on

last_step : (w : Text) (i : ℕ) (t : Bool) → 0 < i → is_equals (get_or w (i - 1) 0) ≡ t → before_last w i ≡ cond t (i - 1) (before_last w (i - 1))
last_step w i t h e =
    let q : i ≡ suc (i - 1) = omega arith in
    ap (before_last w) q ∙ ap (λ (c : Bool). cond c (i - 1) (before_last w (i - 1))) e

pub last-here : (w : Text) (i : ℕ) → 0 < i → is_equals (get_or w (i - 1) 0) ≡ true → i - 1 ≡ before_last w i
last-here w i h e = sym (last_step w i true h e)

pub last_none : (w : Text) (i : ℕ) → i ≤ 0 → 0 ≡ before_last w i
last_none w i h = let q : i ≡ 0 = omega arith in ap (before_last w) (sym q)

-- the last = stands inside the word
last-inside : (w : Text) (n : ℕ) → 0 < before_last w n → before_last w n < n
last-inside w zero h = h
last-inside w (suc i) h = go (is_equals (get_or w i 0)) (last-inside w i) h
  where
    go : (t : Bool) → (0 < before_last w i → before_last w i < i) → 0 < cond t i (before_last w i) → cond t i (before_last w i) < suc i
    go true f h = omega arith
    go false f h = let k = f h in omega arith

pub name-inside : (w : Text) → 1 ≤ name_length w → name_length w < length w
unfolding name_length
name-inside w h = last-inside w (length w) h

-- ## Numerals

module _ (base most : ℕ) (w : Text) where
  pub numeral-e : is_numeral base most w ≡ true → (1 ≤ length w) × (length w ≤ most) × (digits base w ≡ true)
  unfolding is_numeral
  numeral-e h =
      let r = and_r (leb 1 (length w)) (leb (length w) most && digits base w) h in (
        leb-true 1 (length w) (and_l (leb 1 (length w)) (leb (length w) most && digits base w) h),
        leb-true (length w) most (and_l (leb (length w) most) (digits base w) r),
        and_r (leb (length w) most) (digits base w) r,
      )

  -- what its number needs to fit
  pub numeral-fits : is_numeral base most w ≡ true → 0 < base → base ^ most ≤ 2 ^ 64 → (digits base w ≡ true) × (base ^ length w ≤ 2 ^ 64)
  numeral-fits h p k =
      let n = numeral-e h in
      let q : base ^ length w ≤ base ^ most = pow-le-pow_right p n.1 in
      (n.2, omega arith)

  pub numeral-short : length w < 1 → false ≡ is_numeral base most w
  unfolding is_numeral
  numeral-short h = rw (lt-leb 1 (length w) h)

  pub numeral-long : 1 ≤ length w → most < length w → false ≡ is_numeral base most w
  unfolding is_numeral
  numeral-long h k = rw (le-leb 1 (length w) h, lt-leb (length w) most k)

  pub numeral-sized : 1 ≤ length w → length w ≤ most → digits base w ≡ is_numeral base most w
  unfolding is_numeral
  numeral-sized h k = rw (le-leb 1 (length w) h, le-leb (length w) most k)

-- ## Pairs

module _ (w : Text) where
  pub pair-foreign : all is_printing w ≡ false → false ≡ is_pair w
  unfolding is_pair
  pair-foreign e = rw e

  pub pair-unnamed : all is_printing w ≡ true → name_length w < 1 → false ≡ is_pair w
  unfolding is_pair
  pair-unnamed e h = rw (e, lt-leb 1 (name_length w) h)

  pub pair-named : all is_printing w ≡ true → 1 ≤ name_length w → is_numeral 16 16 (table_text w) ≡ is_pair w
  unfolding is_pair
  pair-named e h = rw (e, le-leb 1 (name_length w) h)

  -- what a pair has
  pub pair-e : is_pair w ≡ true → (1 ≤ name_length w) × (is_numeral 16 16 (table_text w) ≡ true)
  unfolding is_pair
  pair-e h =
      let r = and_r (all is_printing w) (leb 1 (name_length w) && is_numeral 16 16 (table_text w)) h in (
        leb-true 1 (name_length w) (and_l (leb 1 (name_length w)) (is_numeral 16 16 (table_text w)) r),
        and_r (leb 1 (name_length w)) (is_numeral 16 16 (table_text w)) r,
      )
