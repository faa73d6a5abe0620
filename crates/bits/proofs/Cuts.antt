-- Patterns cut into words, and tables joined. Assumes nothing.
use mathlib.Core.Path.{◌≡◌, refl, sym, ap, ap₂, ◌∙◌}
use mathlib.Core.Logic.{◌⊎◌, inl, inr}
use mathlib.Core.Bool.{Bool, true, false, not, cond, ◌&&◌, ◌||◌}
use Prim.Native.Nat.{ℕ, zero, suc, ◌+◌, ◌-◌, ◌*◌, ◌/◌, ◌%◌, ◌^◌, ◌≤◌, ◌<◌}
use native.Mathlib.Nat.{one-mul, add-zero, zero-add, div-add-mod'}
use native.Mathlib.Decide.{dec_lt}
use native.Mathlib.Omega.{arith}
use lib.Dec.{ltb, lit<, lit≤}
use lib.Pow.{pow-add, pow_mono, pow_pos, pow-lt, shl_exact}
use lib.Bits.{bit_or, or_lt}
use borrow.Author.Tests.{ltb-true, lt-ltb, le-ltb}
use Rattle.bits.specs.Bounds.{most_inputs, row_words}
use Rattle.bits.specs.Range.{num, every, any, count}
use Rattle.bits.specs.Bit.{bit, table_of}
use Rattle.bits.specs.Cut.{Cut, word_count, Framed}
use Rattle.bits.proofs.BitLaws.{bit-or, bit-ext, bit_not, bit-zero, bit-ones, num-lt}
use Rattle.bits.proofs.Ranges.{iff, and_l, and_r, and_i, any-e, any-i, table-lt, table-ext, bit-table}

-- `1 << n` in k bits
pub one_shl : (n k : ℕ) → n < k → (1 * 2 ^ n) % 2 ^ k ≡ 2 ^ n
one_shl n k h = shl_exact 1 n k (lit< tt) (omega arith) ∙ one-mul (2 ^ n)

pub small : (n : ℕ) → n < 6 → Cut n 1 (2 ^ n)
small n h =
    let e : 2 ^ n ≤ 64 = pow_mono {j = 6} (omega arith) in
    record { words = lit≤ tt; places = e; word = λ x l. omega arith; place = λ x l. omega arith; pattern = λ w b lw lb. omega arith; whole = inl (refl, refl) }

pub large : (n : ℕ) → 6 ≤ n → n ≤ most_inputs → Cut n (2 ^ (n - 6)) 64
large n h l =
    let s : n ≡ n - 6 + 6 = omega arith in
    let e : 2 ^ n ≡ 2 ^ (n - 6) * 64 = ap (λ (k : ℕ). 2 ^ k) s ∙ pow-add 2 (n - 6) 6 in
    let q : 2 ^ (n - 6) ≤ row_words = pow_mono {j = most_inputs - 6} (omega arith) in
    record { words = q; places = lit≤ tt; word = λ x g. omega arith; place = λ x g. omega arith; pattern = λ w b lw lb. omega arith; whole = inr (refl, sym e) }

-- the number of words is that of the definition
pub cut-words : (n W L : ℕ) → Cut n W L → W ≡ word_count n
unfolding word_count
cut-words n W L cut = go (dec_lt n 6) cut.whole
  where
    go : Dec (n < 6) → ((W ≡ 1) × (L ≡ 2 ^ n)) ⊎ ((L ≡ 64) × (W * 64 ≡ 2 ^ n)) → W ≡ cond (ltb n 6) 1 (2 ^ (n - 6))
    go (yes h) (inl e) = rw (lt-ltb n 6 h) e.0
    go (yes h) (inr e) = let l : 2 ^ n < 64 = pow-lt h in let q = pow_pos n in absurd (omega (arith, e.1))
    go (no h) e =
        let s : n ≡ n - 6 + 6 = omega arith in
        let p : 2 ^ n ≡ 2 ^ (n - 6) * 64 = ap (λ (k : ℕ). 2 ^ k) s ∙ pow-add 2 (n - 6) 6 in
        rw (le-ltb n 6 (omega arith)) (wide e p (pow_pos (n - 6)))
      where
        wide : ((W ≡ 1) × (L ≡ 2 ^ n)) ⊎ ((L ≡ 64) × (W * 64 ≡ 2 ^ n)) → 2 ^ n ≡ 2 ^ (n - 6) * 64 → 0 < 2 ^ (n - 6) → W ≡ 2 ^ (n - 6)
        wide (inl e) p q = omega (arith, e.0, e.1, cut.places)
        wide (inr e) p q = omega (arith, e.1)

-- a live place of word w is a pattern
pub live_at : {n count live : ℕ} → Framed n count live → (w b : ℕ) → w < count → b < 64 → bit live b ≡ ltb (w * 64 + b) (2 ^ n)
live_at {n} f w b hw hb =
    f.lives b
    ∙ iff (ltb b f.size) (ltb (w * 64 + b) (2 ^ n))
    (λ e. lt-ltb (w * 64 + b) (2 ^ n) (f.cut.pattern w b hw (ltb-true b f.size e)))
    (λ e. lt-ltb b f.size (omega (arith, f.cut.place (w * 64 + b) (ltb-true (w * 64 + b) (2 ^ n) e))))

-- some pattern passes where some place of some word does
pub any-cut : {n W L : ℕ} → Cut n W L → (q : ℕ → Bool) → any W (λ w. any 64 (λ b. ltb b L && q (w * 64 + b))) ≡ any (2 ^ n) q
any-cut {n} {W} {L} cut q = iff (any W inner) (any (2 ^ n) q) there back
  where
    at : ℕ → ℕ → Bool
    at w b = ltb b L && q (w * 64 + b)

    inner : ℕ → Bool
    inner w = any 64 (λ b. ltb b L && q (w * 64 + b))

    there : any W inner ≡ true → any (2 ^ n) q ≡ true
    there e =
        let r = any-e W inner e in
        let s = any-e 64 (λ b. ltb b L && q (r.0 * 64 + b)) r.2 in
        let w = r.0 in
        let b = s.0 in
        any-i (2 ^ n) q (w * 64 + b) (cut.pattern w b r.1 (ltb-true b L (and_l (ltb b L) (q (w * 64 + b)) s.2))) (and_r (ltb b L) (q (w * 64 + b)) s.2)

    back : any (2 ^ n) q ≡ true → any W inner ≡ true
    back e =
        let r = any-e (2 ^ n) q e in
        let x = r.0 in
        any-i W inner (x / 64) (cut.word x r.1)
        (any-i 64 (λ b. ltb b L && q (x / 64 * 64 + b)) (x % 64) (omega arith)
        (and_i (ltb (x % 64) L) (q (x / 64 * 64 + x % 64)) (lt-ltb (x % 64) L (cut.place x r.1)) (ap q (div-add-mod' x 64) ∙ r.2)))

pub every-not : (n : ℕ) (p : ℕ → Bool) → every n (λ i. not (p i)) ≡ not (any n p)
every-not zero p = refl
every-not (suc n) p = ap (λ (x : Bool). x && not (p n)) (every-not n p) ∙ go (any n p) (p n)
  where
    go : (a b : Bool) → (not a && not b) ≡ not (a || b)
    go true b = refl
    go false b = refl

-- the tables of two tests, joined
pub table-or : (n : ℕ) (p q : ℕ → Bool) → bit_or (table_of n p) (table_of n q) ≡ table_of n (λ t. p t || q t)
table-or n p q =
    bit-ext n (bit_or (table_of n p) (table_of n q)) (table_of n (λ t. p t || q t)) (or_lt n (table_of n p) (table_of n q) (table-lt n p) (table-lt n q)) (table-lt n (λ t. p t || q t))
    (λ i h. bit-or (table_of n p) (table_of n q) i ∙ ap₂ (λ (x y : Bool). x || y) (bit-table n p i h) (bit-table n q i h) ∙ sym (bit-table n (λ t. p t || q t) i h))

pub table_none : (n : ℕ) → 0 ≡ table_of n (λ t. false)
table_none n = bit-ext n 0 (table_of n (λ t. false)) (pow_pos n) (table-lt n (λ t. false)) (λ i h. bit-zero i ∙ sym (bit-table n (λ t. false) i h))

-- the complement of a table
pub table-not : (n : ℕ) (p : ℕ → Bool) → 2 ^ n - 1 - table_of n p ≡ table_of n (λ t. not (p t))
table-not n p =
    bit-ext n (2 ^ n - 1 - table_of n p) (table_of n (λ t. not (p t))) (omega (arith, pow_pos n)) (table-lt n (λ t. not (p t)))
    (λ i h. bit_not n (table_of n p) i (table-lt n p) h ∙ ap not (bit-table n p i h) ∙ sym (bit-table n (λ t. not (p t)) i h))

-- ## Counts

-- how many live patterns of the first w words pass
abbrev pub count_live : (live w : ℕ) (q : ℕ → Bool) → ℕ
count_live live zero q = 0
count_live live (suc w) q = count_live live w q + count 64 (λ b. bit live b && q (w * 64 + b))

pub count-ext : (n : ℕ) (p q : ℕ → Bool) → ((i : ℕ) → i < n → p i ≡ q i) → count n p ≡ count n q
count-ext zero p q f = refl
count-ext (suc n) p q f = ap₂ (λ (a : ℕ) (b : Bool). a + num b) (count-ext n p q (λ i h. f i (omega arith))) (f n (omega arith))

pub count-le : (n : ℕ) (p : ℕ → Bool) → count n p ≤ n
count-le zero p = omega arith
count-le (suc n) p = omega (arith, count-le n p, num-lt (p n))

pub count_add : (a c : ℕ) (q : ℕ → Bool) → count (a + c) q ≡ count a q + count c (λ i. q (a + i))
count_add a zero q = ap (λ (k : ℕ). count k q) (add-zero a) ∙ sym (add-zero (count a q))
count_add a (suc c) q =
    let e : a + suc c ≡ suc (a + c) = omega arith in
    ap (λ (k : ℕ). count k q) e ∙ omega (arith, count_add a c q)

pub count_none : (d : ℕ) (f : ℕ → Bool) → ((i : ℕ) → f i ≡ false) → count d f ≡ 0
count_none zero f h = refl
count_none (suc d) f h = ap₂ (λ (a : ℕ) (b : Bool). a + num b) (count_none d f h) (h d)

-- the places from L on count for nothing
count-below : (L d : ℕ) (q : ℕ → Bool) → count (L + d) (λ b. ltb b L && q b) ≡ count L q
count-below L d q =
    count_add L d (λ b. ltb b L && q b)
    ∙ ap₂ (λ (x y : ℕ). x + y) (count-ext L (λ b. ltb b L && q b) q (λ i h. ap (λ (x : Bool). x && q i) (lt-ltb i L h)))
    (count_none d (λ i. ltb (L + i) L && q (L + i)) (λ i. ap (λ (x : Bool). x && q (L + i)) (le-ltb (L + i) L (omega arith))))
    ∙ add-zero (count L q)

-- all places of w words
count-full : (live : ℕ) → ((b : ℕ) → b < 64 → bit live b ≡ true) → (w : ℕ) (q : ℕ → Bool) → count_live live w q ≡ count (w * 64) q
count-full live h zero q = refl
count-full live h (suc w) q =
    let e : suc w * 64 ≡ w * 64 + 64 = omega arith in
    ap₂ (λ (x y : ℕ). x + y) (count-full live h w q) (count-ext 64 (λ b. bit live b && q (w * 64 + b)) (λ b. q (w * 64 + b)) (λ b l. ap (λ (x : Bool). x && q (w * 64 + b)) (h b l)))
    ∙ sym (ap (λ (k : ℕ). count k q) e ∙ count_add (w * 64) 64 q)

pub count_cut : {n W live : ℕ} → Framed n W live → (q : ℕ → Bool) → count_live live W q ≡ count (2 ^ n) q
count_cut {n} {W} {live} f q = go f.cut.whole
  where
    L : ℕ
    L = f.size

    go : ((W ≡ 1) × (L ≡ 2 ^ n)) ⊎ ((L ≡ 64) × (W * 64 ≡ 2 ^ n)) → count_live live W q ≡ count (2 ^ n) q
    go (inl e) =
        let d : 64 ≡ L + (64 - L) = omega (arith, f.cut.places) in
        ap (λ (w : ℕ). count_live live w q) e.0
        ∙ zero-add (count 64 (λ b. bit live b && q (0 * 64 + b)))
        ∙ count-ext 64 (λ b. bit live b && q (0 * 64 + b)) (λ b. ltb b L && q b) (λ b h. ap₂ (λ (x : Bool) (i : ℕ). x && q i) (f.lives b) (omega arith))
        ∙ ap (λ (k : ℕ). count k (λ b. ltb b L && q b)) d ∙ count-below L (64 - L) q ∙ ap (λ (k : ℕ). count k q) e.1
    go (inr e) = count-full live (λ b h. f.lives b ∙ lt-ltb b L (omega (arith, e.0))) W q ∙ ap (λ (k : ℕ). count k q) e.1

-- once all entries are there, more places add none
pub all_there : (K : ℕ) (p : ℕ → ℕ → Bool) (w W acc : ℕ) → w ≤ W → acc ≡ table_of K (λ t. any w (p t)) → acc ≡ 2 ^ K - 1
    → acc ≡ table_of K (λ t. any W (p t))
all_there K p w W acc h e f = e ∙ table-ext K (λ t. any w (p t)) (λ t. any W (p t)) (λ t l. let s = there t l in s ∙ sym (still t s))
  where
    there : (t : ℕ) → t < K → any w (p t) ≡ true
    there t l = sym (bit-table K (λ t. any w (p t)) t l) ∙ ap (λ (x : ℕ). bit x t) (sym e ∙ f) ∙ bit-ones K t l

    still : (t : ℕ) → any w (p t) ≡ true → any W (p t) ≡ true
    still t s = let r = any-e w (p t) s in any-i W (p t) r.0 (omega (arith, r.1)) r.2
