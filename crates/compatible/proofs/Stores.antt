-- Words put in their places, counts, and one place a gate. Assumes nothing.
use mathlib.Core.Path.{◌≡◌, refl, sym, ap, ap₂, ◌∙◌, subst}
use mathlib.Core.Bool.{Bool, cond, ◌&&◌}
use mathlib.Core.List.{List}
use Prim.Native.Nat.{ℕ, zero, suc, ◌+◌, ◌*◌, ◌^◌, ◌<◌, ◌≤◌}
use native.Mathlib.Nat.{lt_of_le_of_lt}
use native.Mathlib.Numerals.{add-one}
use native.Mathlib.Omega.{arith}
use native.Mathlib.Decide.{ℕ_discrete, dec_lt}
use lib.Dec.{ltb}
use lib.Bits.{bit_and, and_le_l}
use lib.ListN.{length, get_or, set, replicate, get_or-replicate}
use lib.Seq.{get_or-set_same, get_or-set_other, ext_get_or}
use borrow.Author.Tests.{lt-ltb, le-ltb}
use Rattle.bits.specs.Bounds.{row_words}
use Rattle.bits.specs.Range.{count}
use Rattle.bits.specs.Bit.{bit, table_of}
use Rattle.bits.specs.Cut.{Framed}
use Rattle.bits.proofs.BitLaws.{bit-and, bit-ext}
use Rattle.bits.proofs.Ranges.{Changed, lt-cases, length-places, places-at, places-ext, table-lt, bit-table}
use Rattle.bits.proofs.Cuts.{live_at, count_live, count-ext, count-le, count_cut}
use Rattle.network.specs.Bounds.{most_gates}
use Rattle.network.specs.Flat.{word_of}
use Rattle.network.specs.Compatible.{per_gate}
use Rattle.compatible.specs.Words.{ones_in}

-- ## The words of a set

pub word-is : {n W live : ℕ} → Framed n W live → (w h : ℕ) (q : ℕ → Bool) → w < W → ((b : ℕ) → b < 64 → bit h b ≡ q (w * 64 + b)) → bit_and live h ≡ word_of n q w
unfolding word_of
word-is {n} {W} {live} f w h q hw set_at =
    let p : ℕ → Bool = λ b. ltb (w * 64 + b) (2 ^ n) && q (w * 64 + b) in
    bit-ext 64 (bit_and live h) (table_of 64 p) (lt_of_le_of_lt (and_le_l live h) f.word) (table-lt 64 p)
    (λ b hb. bit-and live h b ∙ ap₂ (λ (x y : Bool). x && y) (live_at f w b hw hb) (set_at b hb) ∙ sym (bit-table 64 p b hb))

-- one more word of each gate
pub sets-step : (q : ℕ → ℕ → ℕ) (w m : ℕ) (l l' : List ℕ)
    → ((g v : ℕ) → g < m → v < w → get_or l (row_words * g + v) 0 ≡ q g v)
    → ((g : ℕ) → g < m → get_or l' (row_words * g + w) 0 ≡ q g w)
    → ((g v : ℕ) → v < w → get_or l' (row_words * g + v) 0 ≡ get_or l (row_words * g + v) 0)
    → (g v : ℕ) → g < m → v < w + 1 → get_or l' (row_words * g + v) 0 ≡ q g v
sets-step q w m l l' done own kept g v hg hv =
    lt-cases v w (omega arith) (λ h. kept g v h ∙ done g v hg h) (λ e. subst (λ (i : ℕ). get_or l' (row_words * g + i) 0 ≡ q g i) (sym e) (own g hg))

-- ## The ones of a set

-- a word has no more ones than bits
pub ones-few : {c : ℕ} (x : ℕ) → c ≡ count 64 (bit x) → c ≤ 64
ones-few x e = rw e (count-le 64 (bit x))

pub ones_step : (ws : List ℕ) (at w sum c : ℕ) → sum ≡ ones_in ws at w → c ≡ count 64 (bit (get_or ws (at + w) 0)) → sum + c ≡ ones_in ws at (w + 1)
unfolding ones_in
ones_step ws at w sum c e h = rw add-one (ap₂ (λ (x y : ℕ). x + y) e h)

pub ones-le : (ws : List ℕ) (at w : ℕ) → ones_in ws at w ≤ 64 * w
unfolding ones_in
ones-le ws at zero = omega arith
ones-le ws at (suc w) = go (ones_in ws at w) (count 64 (bit (get_or ws (at + w) 0))) (ones-le ws at w) (count-le 64 (bit (get_or ws (at + w) 0)))
  where
    go : (a c : ℕ) → a ≤ 64 * w → c ≤ 64 → a + c ≤ 64 * suc w
    go a c h l = omega arith

ones-are : {n W live : ℕ} → Framed n W live → (at : ℕ) (ws : List ℕ) (q : ℕ → Bool) → ((w : ℕ) → w < W → get_or ws (at + w) 0 ≡ word_of n q w) → ones_in ws at W ≡ count (2 ^ n) q
unfolding ones_in word_of
ones-are {n} {W} {live} f at ws q words = by W (omega arith) ∙ count_cut f q
  where
    by : (w : ℕ) → w ≤ W → ones_in ws at w ≡ count_live live w q
    by zero h = refl
    by (suc w) h =
        let p : ℕ → Bool = λ b. ltb (w * 64 + b) (2 ^ n) && q (w * 64 + b) in
        ap₂ (λ (x y : ℕ). x + y) (by w (omega arith))
        (ap (λ (x : ℕ). count 64 (bit x)) (words w (omega arith))
        ∙ count-ext 64 (bit (table_of 64 p)) (λ b. bit live b && q (w * 64 + b))
        (λ b hb. bit-table 64 p b hb ∙ ap (λ (x : Bool). x && q (w * 64 + b)) (sym (live_at f w b (omega arith) hb))))

-- ## One place a gate

-- one more gate's word w, a row for each gate
pub stored : (l : List ℕ) (p : ℕ → ℕ) (w i v : ℕ) → row_words * i + w < length l → ((q : ℕ) → q < i → get_or l (row_words * q + w) 0 ≡ p q) → v ≡ p i
    → (q : ℕ) → q < i + 1 → get_or (set l (row_words * i + w) v) (row_words * q + w) 0 ≡ p q
stored l p w i v h so_far e q lq = go (ℕ_discrete q i)
  where
    go : Dec (q ≡ i) → get_or (set l (row_words * i + w) v) (row_words * q + w) 0 ≡ p q
    go (yes s) = rw s (get_or-set_same l (row_words * i + w) v 0 h ∙ e)
    go (no n) = get_or-set_other l (row_words * i + w) (row_words * q + w) v 0 (λ s. n (omega arith)) ∙ so_far q (omega arith)

pub per-gate : (l : List ℕ) (p : ℕ → ℕ) (m : ℕ) → length l ≡ most_gates → Changed (λ g v. p g) (replicate most_gates 0) l m → l ≡ per_gate m p
per-gate l p m h c = ext_get_or 0 l (per_gate m p) (h ∙ sym (length-places most_gates f)) (λ g lg. go g (omega arith) (dec_lt g m) ∙ sym (places-at 0 most_gates f g (omega arith)))
  where
    f : ℕ → ℕ
    f g = cond (ltb g m) (p g) 0

    go : (g : ℕ) → g < most_gates → Dec (g < m) → get_or l g 0 ≡ f g
    go g lg (yes lm) = rw (lt-ltb g m lm) (c.0 g lm)
    go g lg (no n) = rw (le-ltb g m (omega arith)) (c.1 g (omega arith) ∙ get_or-replicate {A = ℕ} most_gates g 0 0 lg)

pub per-gate-ext : (m : ℕ) (p q : ℕ → ℕ) → ((g : ℕ) → g < m → p g ≡ q g) → per_gate m p ≡ per_gate m q
per-gate-ext m p q f = places-ext most_gates (λ g. cond (ltb g m) (p g) 0) (λ g. cond (ltb g m) (q g) 0) (λ g lg. go g (dec_lt g m))
  where
    go : (g : ℕ) → Dec (g < m) → cond (ltb g m) (p g) 0 ≡ cond (ltb g m) (q g) 0
    go g (yes h) = rw (lt-ltb g m h) (f g h)
    go g (no h) = rw (le-ltb g m (omega arith))

-- the ones of each gate's words, where they are the words of its set
pub counts-by : {n W live : ℕ} → Framed n W live → (m : ℕ) (l : List ℕ) (q : ℕ → ℕ → Bool) → ((g w : ℕ) → g < m → w < W → get_or l (row_words * g + w) 0 ≡ word_of n (q g) w)
    → per_gate m (λ g. ones_in l (row_words * g) W) ≡ per_gate m (λ g. count (2 ^ n) (q g))
counts-by {n} {W} f m l q words =
    per-gate-ext m (λ g. ones_in l (row_words * g) W) (λ g. count (2 ^ n) (q g)) (λ g h. ones-are f (row_words * g) l (q g) (λ w hw. words g w h hw))
