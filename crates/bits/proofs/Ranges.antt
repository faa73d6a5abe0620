-- Laws of `every`, `any`, `places` and `table_of`. Assumes nothing.
use mathlib.Core.Path.{◌≡◌, refl, sym, ap, ap₂, ◌∙◌, subst}
use mathlib.Core.Bool.{Bool, true, false, ◌&&◌, ◌||◌, false≢true}
use mathlib.Core.List.{List, [], ◌∷◌, ◌++◌, map}
use Prim.Native.Nat.{ℕ, zero, suc, ◌+◌, ◌*◌, ◌/◌, ◌%◌, ◌^◌, ◌<◌, ◌≤◌}
use native.Mathlib.Nat.{zero-div, div-div-eq-div-mul, pow-succ', not-suc-le-zero}
use native.Mathlib.Numerals.{add-one}
use native.Mathlib.Decide.{dec_lt, ℕ_discrete}
use native.Mathlib.Omega.{arith}
use lib.ListN.{length, get_or, set, length-append, get_or-append}
use lib.Pow.{pow_mono}
use lib.Seq.{get_or_at, get_or-set_same, get_or-set_other}
use borrow.Author.Tests.{eq-eqb, ne_eqb}
use Rattle.bits.specs.Bounds.{gate_places, small_fanins, small_words}
use Rattle.bits.specs.Range.{num, every, any, places, up_from}
use Rattle.bits.specs.Bit.{bit, number, table_of, column}
use Rattle.bits.proofs.BitLaws.{bit-zero, some-bit}
use Rattle.bits.proofs.Shannon.{number-snoc}

-- ## Bool

pub and_l : (a b : Bool) → (a && b) ≡ true → a ≡ true
and_l true b e = refl
and_l false b e = e

pub and_r : (a b : Bool) → (a && b) ≡ true → b ≡ true
and_r true b e = e
and_r false b e = absurd (false≢true e)

pub and_i : (a b : Bool) → a ≡ true → b ≡ true → (a && b) ≡ true
and_i a b p q = rw (p, q)

pub or_r : (a b : Bool) → b ≡ true → (a || b) ≡ true
or_r true b e = refl
or_r false b e = e

pub or-false : (a b : Bool) → (a || b) ≡ false → (a ≡ false) × (b ≡ false)
or-false true b e = absurd (false≢true (sym e))
or-false false b e = (refl, e)

pub or_comm : (a b : Bool) → (a || b) ≡ (b || a)
or_comm true true = refl
or_comm true false = refl
or_comm false true = refl
or_comm false false = refl

pub and_assoc : (a b c : Bool) → (a && b) && c ≡ a && (b && c)
and_assoc true b c = refl
and_assoc false b c = refl

pub and-true : (a : Bool) → (a && true) ≡ a
and-true true = refl
and-true false = refl

pub by_cases : {P : Type 0} (b : Bool) → (b ≡ true → P) → (b ≡ false → P) → P
by_cases true f g = f refl
by_cases false f g = g refl

-- two tests are the same where each follows from the other
pub iff : (a b : Bool) → (a ≡ true → b ≡ true) → (b ≡ true → a ≡ true) → a ≡ b
iff true b f g = sym (f refl)
iff false true f g = g refl
iff false false f g = refl

-- ## Ranges

pub lt-cases : {P : Type 0} (i n : ℕ) → i < suc n → (i < n → P) → (i ≡ n → P) → P
lt-cases {P} i n h f g = go (dec_lt i n)
  where
    go : Dec (i < n) → P
    go (yes l) = f l
    go (no k) = g (omega arith)

pub every-e : (n : ℕ) (p : ℕ → Bool) → every n p ≡ true → (i : ℕ) → i < n → p i ≡ true
every-e zero p e i h = absurd (not-suc-le-zero h)
every-e (suc n) p e i h =
    lt-cases i n h (λ l. every-e n p (and_l (every n p) (p n) e) i l) (λ q. rw q (and_r (every n p) (p n) e))

pub every-i : (n : ℕ) (p : ℕ → Bool) → ((i : ℕ) → i < n → p i ≡ true) → every n p ≡ true
every-i zero p f = refl
every-i (suc n) p f = and_i (every n p) (p n) (every-i n p (λ i h. f i (omega arith))) (f n (omega arith))

pub every-ext : (n : ℕ) (p q : ℕ → Bool) → ((i : ℕ) → i < n → p i ≡ q i) → every n p ≡ every n q
every-ext zero p q f = refl
every-ext (suc n) p q f = ap₂ (λ (a b : Bool). a && b) (every-ext n p q (λ i h. f i (omega arith))) (f n (omega arith))

pub any-i : (n : ℕ) (p : ℕ → Bool) (i : ℕ) → i < n → p i ≡ true → any n p ≡ true
any-i zero p i h e = absurd (not-suc-le-zero h)
any-i (suc n) p i h e =
    lt-cases i n h (λ l. rw (any-i n p i l e)) (λ q. or_r (any n p) (p n) (rw q at e))

pub any-e : (n : ℕ) (p : ℕ → Bool) → any n p ≡ true → (i : ℕ) × (i < n) × (p i ≡ true)
any-e zero p e = absurd (false≢true e)
any-e (suc n) p e = by_cases (any n p) (λ l. let r = any-e n p l in (r.0, omega (arith, r.1), r.2)) (λ l. (n, omega arith, rw l at e))

pub any-ext : (n : ℕ) (p q : ℕ → Bool) → ((i : ℕ) → i < n → p i ≡ q i) → any n p ≡ any n q
any-ext zero p q f = refl
any-ext (suc n) p q f = ap₂ (λ (a b : Bool). a || b) (any-ext n p q (λ i h. f i (omega arith))) (f n (omega arith))

-- a word has a bit set where it is not 0
pub any-zero : (k : ℕ) → any k (bit 0) ≡ false
any-zero zero = refl
any-zero (suc k) = rw (any-zero k) (bit-zero k)

pub any_some : (k x : ℕ) → x < 2 ^ k → (x ≡ 0 → ⊥) → any k (bit x) ≡ true
any_some k x h n = let r = some-bit k x h n in any-i k (bit x) r.0 r.1 r.2

-- ## Places

pub length-places : {A : Type 0} (n : ℕ) (p : ℕ → A) → length (places n p) ≡ n
length-places zero p = refl
length-places (suc n) p = omega (arith, length-append (places n p) (p n ∷ []), length-places n p)

pub places-at : {A : Type 0} (d : A) (n : ℕ) (p : ℕ → A) (i : ℕ) → i < n → get_or (places n p) i d ≡ p i
places-at d zero p i h = absurd (not-suc-le-zero h)
places-at d (suc n) p i h =
    lt-cases i n h
    (λ l. get_or-append (places n p) (p n ∷ []) d i (omega (arith, length-places n p)) ∙ places-at d n p i l)
    (λ q. get_or_at (places n p) (p n) [] d i (length-places n p ∙ sym q) ∙ ap p (sym q))

pub places-ext : {A : Type 0} (n : ℕ) (p q : ℕ → A) → ((i : ℕ) → i < n → p i ≡ q i) → places n p ≡ places n q
places-ext zero p q f = refl
places-ext {A} (suc n) p q f = ap₂ (λ (l : List A) (a : A). l ++ a ∷ []) (places-ext n p q (λ i h. f i (omega arith))) (f n (omega arith))

pub map_snoc : {A B : Type 0} (f : A → B) (l : List A) (a : A) → map f (l ++ a ∷ []) ≡ map f l ++ f a ∷ []
map_snoc f [] a = refl
map_snoc {A} {B} f (x ∷ l) a = ap (λ (m : List B). f x ∷ m) (map_snoc f l a)

pub map-places : {A B : Type 0} (f : A → B) (n : ℕ) (p : ℕ → A) → map f (places n p) ≡ places n (λ i. f (p i))
map-places f zero p = refl
map-places {A} {B} f (suc n) p = map_snoc f (places n p) (p n) ∙ ap (λ (l : List B). l ++ f (p n) ∷ []) (map-places f n p)

-- ## Tables

pub bit-number : (bs : List Bool) (r : ℕ) → bit (number bs) r ≡ get_or bs r false
unfolding bit
bit-number [] r = rw (zero-div (2 ^ r))
bit-number (true ∷ bs) zero = eq-eqb ((1 + 2 * number bs) / 1 % 2) 1 (omega arith)
bit-number (false ∷ bs) zero = ne_eqb ((0 + 2 * number bs) / 1 % 2) 1 (omega arith)
bit-number (b ∷ bs) (suc r) =
    let half : (num b + 2 * number bs) / 2 ≡ number bs = go b in
    rw (pow-succ' 2 r, ← div-div-eq-div-mul, half) (bit-number bs r)
  where
    go : (c : Bool) → (num c + 2 * number bs) / 2 ≡ number bs
    go true = omega arith
    go false = omega arith

pub number_lt : (bs : List Bool) → number bs < 2 ^ length bs
number_lt [] = omega arith
number_lt (true ∷ bs) = omega (arith, number_lt bs, pow-succ' 2 (length bs))
number_lt (false ∷ bs) = omega (arith, number_lt bs, pow-succ' 2 (length bs))

pub bit-table : (n : ℕ) (p : ℕ → Bool) (i : ℕ) → i < n → bit (table_of n p) i ≡ p i
bit-table n p i h = bit-number (places n p) i ∙ places-at false n p i h

pub table-lt : (n : ℕ) (p : ℕ → Bool) → table_of n p < 2 ^ n
table-lt n p = subst (λ (k : ℕ). table_of n p < 2 ^ k) (length-places n p) (number_lt (places n p))

-- one entry more, as a loop from 0 up meets it
pub table_more : (n : ℕ) (p : ℕ → Bool) → table_of (n + 1) p ≡ num (p n) * 2 ^ n + table_of n p
table_more n p = rw add-one (number-snoc (places n p) (p n) ∙ ap (λ (k : ℕ). num (p n) * 2 ^ k + table_of n p) (length-places n p))

pub table-ext : (n : ℕ) (p q : ℕ → Bool) → ((i : ℕ) → i < n → p i ≡ q i) → table_of n p ≡ table_of n q
table-ext n p q f = ap number (places-ext n p q f)

-- ## Words

pub column-at : (ws : List ℕ) (b f : ℕ) → get_or (column ws b) f false ≡ bit (get_or ws f 0) b
unfolding column
column-at [] b f = sym (bit-zero b)
column-at (w ∷ ws) b zero = refl
column-at (w ∷ ws) b (suc f) = column-at ws b f

pub column-set : (ws : List ℕ) (b i v : ℕ) → column (set ws i v) b ≡ set (column ws b) i (bit v b)
unfolding column
column-set [] b i v = refl
column-set (w ∷ ws) b zero v = refl
column-set (w ∷ ws) b (suc i) v = ap (λ (l : List Bool). bit w b ∷ l) (column-set ws b i v)

pub column-length : (ws : List ℕ) (b : ℕ) → length (column ws b) ≡ length ws
unfolding column
column-length [] b = refl
column-length (w ∷ ws) b = ap suc (column-length ws b)

-- one turn of a loop that builds a table, entry after entry
module _ (n : ℕ) (p : ℕ → Bool) (acc : ℕ) (so_far : acc ≡ table_of n p) where
  pub table-room : n < 64 → (n < 64) × (acc < 2 ^ n)
  table-room h = (h, subst (λ (x : ℕ). x < 2 ^ n) (sym so_far) (table-lt n p))

  pub table_step : (b : Bool) (r : ℕ) → b ≡ p n → r ≡ num b * 2 ^ n + acc → r ≡ table_of (n + 1) p
  table_step b r e q = q ∙ ap₂ (λ (x : Bool) (y : ℕ). num x * 2 ^ n + y) e so_far ∙ sym (table_more n p)

-- there is a word for each entry, and for each set of fan-ins, of a small gate
pub small-words : (k : ℕ) → k ≤ small_fanins → 2 ^ k ≤ small_words
small-words k h = pow_mono {j = small_fanins} h

-- and a bit of a word for each entry of any gate
pub entries-most : (k : ℕ) → k ≤ gate_places → 2 ^ k ≤ 64
entries-most k h = pow_mono {j = gate_places} h

-- one turn of a loop that fills an array from the front
pub filled : (l : List ℕ) (p : ℕ → ℕ) (i v : ℕ) → i < length l → ((q : ℕ) → q < i → get_or l q 0 ≡ p q) → v ≡ p i
    → (q : ℕ) → q < i + 1 → get_or (set l i v) q 0 ≡ p q
filled l p i v h so_far e q lq = go (ℕ_discrete q i)
  where
    go : Dec (q ≡ i) → get_or (set l i v) q 0 ≡ p q
    go (yes s) = rw s (get_or-set_same l i v 0 h ∙ e)
    go (no n) = get_or-set_other l i q v 0 n ∙ so_far q (omega arith)

-- a loop that changes an array place by place: those before i are done, the rest are as they were
abbrev pub Changed : (f : ℕ → ℕ → ℕ) (l₀ l : List ℕ) (i : ℕ) → Type 0
Changed f l₀ l i = ((q : ℕ) → q < i → get_or l q 0 ≡ f q (get_or l₀ q 0)) × ((q : ℕ) → i ≤ q → get_or l q 0 ≡ get_or l₀ q 0)

pub unchanged : (f : ℕ → ℕ → ℕ) (l₀ : List ℕ) → Changed f l₀ l₀ 0
unchanged f l₀ = (λ q h. absurd (not-suc-le-zero h), λ q h. refl)

pub changed-step : (f : ℕ → ℕ → ℕ) (l₀ l : List ℕ) (i v : ℕ) → i < length l → Changed f l₀ l i → v ≡ f i (get_or l i 0) → Changed f l₀ (set l i v) (i + 1)
changed-step f l₀ l i v h c e = (λ q lq. done q lq (ℕ_discrete q i), λ q lq. get_or-set_other l i q v 0 (λ s. absurd (omega arith)) ∙ c.1 q (omega arith))
  where
    done : (q : ℕ) → q < i + 1 → Dec (q ≡ i) → get_or (set l i v) q 0 ≡ f q (get_or l₀ q 0)
    done q lq (yes s) = rw s (get_or-set_same l i v 0 h ∙ e ∙ ap (f i) (c.1 i (omega arith)))
    done q lq (no n) = get_or-set_other l i q v 0 n ∙ c.0 q (omega arith)

-- ## The numbers from 0 on

up-snoc : (a c : ℕ) → up_from a (suc c) ≡ up_from a c ++ (a + c) ∷ []
up-snoc a zero = let q : a ≡ a + 0 = omega arith in ap (λ (x : ℕ). x ∷ []) q
up-snoc a (suc c) = let q : a + 1 + c ≡ a + suc c = omega arith in ap (λ (l : List ℕ). a ∷ l) (up-snoc (a + 1) c ∙ ap (λ (x : ℕ). up_from (a + 1) c ++ x ∷ []) q)

pub up-places : (c : ℕ) → up_from 0 c ≡ places c (λ i. i)
up-places zero = refl
up-places (suc c) = let q : 0 + c ≡ c = omega arith in up-snoc 0 c ∙ rw q (ap (λ (l : List ℕ). l ++ c ∷ []) (up-places c))
