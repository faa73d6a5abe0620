-- Rule 6 in words, over plain variables. Assumes nothing.
use mathlib.Core.Path.{◌≡◌, refl, sym, ap, ap₂, ◌∙◌, subst}
use mathlib.Core.Bool.{Bool, true, false, not, cond, ◌&&◌, ◌||◌, beq}
use mathlib.Core.List.{List, ◌∷◌}
use Prim.Native.Nat.{ℕ, zero, suc, ◌+◌, ◌-◌, ◌*◌, ◌/◌, ◌%◌, ◌^◌, ◌<◌, ◌≤◌}
use native.Mathlib.Nat.{add-zero, mul-add, mul_assoc, mul-one, pow-succ', sub-zero}
use native.Mathlib.Numerals.{add-one}
use native.Mathlib.Omega.{arith}
use native.Mathlib.Decide.{dec_lt, ℕ_discrete}
use lib.Arith.{lt-one}
use lib.Bits.{bit_and, bit_xor, and_lt, xor_lt, xor_add_and, mask_lt}
use lib.ListN.{length, get_or, set}
use lib.Pow.{pow-add, pow-lt, pow_mono, pow_pos, split}
use lib.Seq.{get_or-set_same, get_or-set_other}
use borrow.Author.Tests.{not-true}
use Rattle.bits.specs.Bounds.{small_fanins}
use Rattle.bits.specs.Bit.{bit, choose, differs, table_of}
use Rattle.bits.proofs.BitLaws.{bit-and, bit-xor, bit-ext, bit-zero, bit-ones, bit-shr, bit-low, bit_high, bit-above, differs_true, with-own, with-other, power-own, power-other}
use Rattle.bits.proofs.Cuts.{one_shl}
use Rattle.bits.proofs.Logic.{beq-i, differs-e, differs-i}
use Rattle.bits.proofs.Ranges.{and_l, and_r, and_i, or_r, and-true, by_cases, iff, every-e, every-i, lt-cases, table-lt, bit-table, entries-most}
use Rattle.network.specs.Bounds.{most_fanins}
use Rattle.network.specs.Net.{entry}
use Rattle.network.specs.Compatible.{agree, constant, turns, free_fanins}
use Rattle.network.specs.Flat.{gate_at}
use Rattle.network.proofs.FlatGates.{entry_lt, arity-at, table_at}
use Rattle.network.proofs.Safe.{constant-e, constant-i, constant-none}
use Rattle.edges.specs.Edges.{edge_table, GateEdged, Constants, Doubled, Halved}

and-false : (a : Bool) → (a && false) ≡ false
and-false true = refl
and-false false = refl

-- ## The entry t with fan-in r turned

differs_false : (b : Bool) → differs b false ≡ b
differs_false true = refl
differs_false false = refl

turn-own : (t r : ℕ) → bit (bit_xor t (2 ^ r)) r ≡ not (bit t r)
turn-own t r = bit-xor t (2 ^ r) r ∙ ap (differs (bit t r)) (power-own r) ∙ differs_true (bit t r)

turn-other : (t r i : ℕ) → (i ≡ r → ⊥) → bit (bit_xor t (2 ^ r)) i ≡ bit t i
turn-other t r i n = bit-xor t (2 ^ r) i ∙ ap (differs (bit t i)) (power-other r i n) ∙ differs_false (bit t i)

module _ (k t r : ℕ) (ht : t < 2 ^ k) (hr : r < k) where
  turn-lt : bit_xor t (2 ^ r) < 2 ^ k
  turn-lt = xor_lt k t (2 ^ r) ht (pow-lt hr)

  and-power : (b : Bool) → bit t r ≡ b → (i : ℕ) → bit (bit_and t (2 ^ r)) i ≡ (b && bit (2 ^ r) i)
  and-power b e i = bit-and t (2 ^ r) i ∙ go (ℕ_discrete i r)
    where
      go : Dec (i ≡ r) → (bit t i && bit (2 ^ r) i) ≡ (b && bit (2 ^ r) i)
      go (yes q) = rw (q, e)
      go (no n) = rw (power-other r i n) (and-false (bit t i) ∙ sym (and-false b))

  set_there : bit t r ≡ true → bit_and t (2 ^ r) ≡ 2 ^ r
  set_there e = bit-ext k (bit_and t (2 ^ r)) (2 ^ r) (and_lt k t (2 ^ r) ht (pow-lt hr)) (pow-lt hr) (λ i l. and-power true e i)

  clear-there : bit t r ≡ false → bit_and t (2 ^ r) ≡ 0
  clear-there e = bit-ext k (bit_and t (2 ^ r)) 0 (and_lt k t (2 ^ r) ht (pow-lt hr)) (pow_pos k) (λ i l. and-power false e i ∙ sym (bit-zero i))

-- the bits of a word shifted up within 64 bits
bit-shl : (x s t : ℕ) → s + t < 64 → bit ((x * 2 ^ s) % 2 ^ 64) (s + t) ≡ bit x t
bit-shl x s t h =
    sym (bit-low (x * 2 ^ s / 2 ^ 64) 64 ((x * 2 ^ s) % 2 ^ 64) (s + t) h)
    ∙ ap (λ (y : ℕ). bit y (s + t)) (split (x * 2 ^ s) 64 ∙ sym (add-zero (x * 2 ^ s)))
    ∙ bit_high x s 0 t (pow_pos s)

-- at t, a word's value at the entry with fan-in r turned: from above where bit r of t is clear, else from below
turned-at : (x r t : ℕ) → r < 6 → t < 64 → choose (bit t r) (bit ((x * 2 ^ (2 ^ r)) % 2 ^ 64) t) (bit (x / 2 ^ (2 ^ r)) t) ≡ bit x (bit_xor t (2 ^ r))
turned-at x r t hr ht = by_cases (bit t r) up down
  where
    u : ℕ
    u = bit_xor t (2 ^ r)

    up : bit t r ≡ true → choose (bit t r) (bit ((x * 2 ^ (2 ^ r)) % 2 ^ 64) t) (bit (x / 2 ^ (2 ^ r)) t) ≡ bit x u
    up e =
        let q : t ≡ 2 ^ r + u = omega (arith, xor_add_and t (2 ^ r), set_there 6 t r ht hr e) in
        rw e (ap (bit ((x * 2 ^ (2 ^ r)) % 2 ^ 64)) q ∙ bit-shl x (2 ^ r) u (omega arith))

    down : bit t r ≡ false → choose (bit t r) (bit ((x * 2 ^ (2 ^ r)) % 2 ^ 64) t) (bit (x / 2 ^ (2 ^ r)) t) ≡ bit x u
    down e =
        let q : 2 ^ r + t ≡ u = omega (arith, xor_add_and t (2 ^ r), clear-there 6 t r ht hr e) in
        rw e (bit-shr x (2 ^ r) t ∙ ap (bit x) q)

-- `edges::turned` from the bits of its parts: ins has bit r of each entry
pub turned-word : (x r step ins y t : ℕ) → r < 6 → t < 64 → step ≡ 2 ^ r → bit ins t ≡ bit (0 * 64 + t) r
    → bit y t ≡ choose (bit ins t) (bit ((x * 2 ^ step) % 2 ^ 64) t) (bit (x / 2 ^ step) t) → bit y t ≡ bit x (bit_xor t (2 ^ r))
turned-word x r step ins y t hr ht es input e =
    e ∙ ap₂ (λ (b : Bool) (s : ℕ). choose b (bit ((x * 2 ^ s) % 2 ^ 64) t) (bit (x / 2 ^ s) t)) (input ∙ ap (λ (i : ℕ). bit i r) (omega arith)) es ∙ turned-at x r t hr ht

-- ## Constant over the fan-ins of a set

-- t and u have the same value at fan-in r, or it is free
abbrev agree_at : ℕ → ℕ → ℕ → ℕ → Bool
agree_at free t u r = bit free r || beq (bit t r) (bit u r)

agree-self : (k f t : ℕ) → agree k f t t ≡ true
unfolding agree
agree-self k f t = every-i k (agree_at f t t) (λ i h. or_r (bit f i) (beq (bit t i) (bit t i)) (beq-i (bit t i) (bit t i) refl))

-- another set and another entry, which are the same but at fan-in r
agree-but : (k r f g t s u : ℕ) → ((i : ℕ) → (i ≡ r → ⊥) → bit g i ≡ bit f i) → ((i : ℕ) → (i ≡ r → ⊥) → bit s i ≡ bit t i)
    → agree_at g s u r ≡ true → agree k f t u ≡ true → agree k g s u ≡ true
unfolding agree
agree-but k r f g t s u ef et own a = every-i k (agree_at g s u) (λ i h. go i (every-e k (agree_at f t u) a i h) (ℕ_discrete i r))
  where
    go : (i : ℕ) → agree_at f t u i ≡ true → Dec (i ≡ r) → agree_at g s u i ≡ true
    go i b (yes q) = rw q own
    go i b (no n) = rw (ef i n, et i n) b

-- two values are the same, or each is the other inverted
either : {P : Type 0} (a b : Bool) → (a ≡ b → P) → (not a ≡ b → P) → P
either true true f g = f refl
either true false f g = g refl
either false true f g = g refl
either false false f g = f refl

-- one fan-in more: constant with either value of it, and the same for both
constant-more : (k table f r t : ℕ) → f < 2 ^ r → r < k → t < 2 ^ k
    → constant k table (2 ^ r + f) t ≡ ((constant k table f t && constant k table f (bit_xor t (2 ^ r))) && not (differs (bit table t) (bit table (bit_xor t (2 ^ r)))))
constant-more k table f r t hf hr ht = iff (constant k table g t) ((constant k table f t && constant k table f s) && like) there back
  where
    g : ℕ
    g = 2 ^ r + f

    s : ℕ
    s = bit_xor t (2 ^ r)

    like : Bool
    like = not (differs (bit table t) (bit table s))

    into : (u v : ℕ) → ((i : ℕ) → (i ≡ r → ⊥) → bit t i ≡ bit v i) → agree k f v u ≡ true → agree k g t u ≡ true
    into u v e = agree-but k r f g v t u (with-other r f hf) e (rw (with-own r f hf))

    out_of : (u v : ℕ) → ((i : ℕ) → (i ≡ r → ⊥) → bit v i ≡ bit t i) → bit v r ≡ bit u r → agree k g t u ≡ true → agree k f v u ≡ true
    out_of u v e own = agree-but k r g f t v u (λ i n. sym (with-other r f hf i n)) e (or_r (bit f r) (beq (bit v r) (bit u r)) (beq-i (bit v r) (bit u r) own))

    there : constant k table g t ≡ true → ((constant k table f t && constant k table f s) && like) ≡ true
    there c =
        let same = constant-e k table g t c in
        let back : (i : ℕ) → (i ≡ r → ⊥) → bit t i ≡ bit s i = λ i n. sym (turn-other t r i n) in
        let both : bit table t ≡ bit table s = same s (turn-lt k t r ht hr) (into s s back (agree-self k f s)) in
        and_i (constant k table f t && constant k table f s) like
        (and_i (constant k table f t) (constant k table f s) (constant-i k table f t (λ u h a. same u h (into u t (λ i n. refl) a)))
        (constant-i k table f s (λ u h a. sym both ∙ same u h (into u s back a))))
        (ap not (differs-i (bit table t) (bit table s) both))

    back : ((constant k table f t && constant k table f s) && like) ≡ true → constant k table g t ≡ true
    back c =
        let cs = and_l (constant k table f t && constant k table f s) like c in
        let both = differs-e (bit table t) (bit table s) (not-true (differs (bit table t) (bit table s)) (and_r (constant k table f t && constant k table f s) like c)) in
        constant-i k table g t (λ u h a. either (bit t r) (bit u r)
        (λ e. constant-e k table f t (and_l (constant k table f t) (constant k table f s) cs) u h (out_of u t (λ i n. refl) e a))
        (λ e. both ∙ constant-e k table f s (and_r (constant k table f t) (constant k table f s) cs) u h (out_of u s (turn-other t r) (turn-own t r ∙ e) a)))

-- ## The words of all sets, twice as many at each fan-in

-- of no fan-ins there is one: all entries
pub constants-none : (table : ℕ) (rest : List ℕ) → Constants table ((2 ^ 64 - 1) ∷ rest) 1
constants-none table rest k f t hk h hf ht = rw (lt-one h) (bit-ones 64 t (omega (arith, entries-most k hk)) ∙ sym (constant-none k table t ht))

-- one fan-in more; y is the table with it turned, and like has the entries at which the two are the same
pub constants-more : (table : ℕ) (l₀ l : List ℕ) (r y like : ℕ) → ((t : ℕ) → t < 64 → bit y t ≡ bit table (bit_xor t (2 ^ r))) → ((t : ℕ) → t < 64 → bit like t ≡ not (bit (bit_xor table y) t))
    → Doubled l₀ l r like (2 ^ r) → Constants table l₀ (2 ^ r) → Constants table l (2 ^ (r + 1))
constants-more table l₀ l r y like turn flip d so_far k f t hk h hf ht = go (dec_lt f (2 ^ r)) (dec_lt r k)
  where
    few : t < 64
    few = omega (arith, entries-most k hk)

    goal : ℕ → Type 0
    goal f = bit (get_or l f 0) t ≡ constant k table f t

    upper : r < k → (f : ℕ) → f < 2 ^ r → f < 2 ^ k → goal (2 ^ r + f)
    upper hr f lo lf =
        d.1 f lo t few
        ∙ ap₂ (λ (a b : Bool). a && b) (ap₂ (λ (a b : Bool). a && b) (so_far k f t hk lo lf ht) (so_far k f (bit_xor t (2 ^ r)) hk lo lf (turn-lt k t r ht hr)))
        (flip t few ∙ ap not (bit-xor table y t ∙ ap (differs (bit table t)) (turn t few)))
        ∙ sym (constant-more k table f r t lo hr ht)

    go : Dec (f < 2 ^ r) → Dec (r < k) → goal f
    go (yes lo) _ = ap (λ (x : ℕ). bit x t) (d.0 f lo) ∙ so_far k f t hk lo hf ht
    go (no n) (yes hr) =
        let e : 2 ^ r + (f - 2 ^ r) ≡ f = omega arith in
        subst goal e (upper hr (f - 2 ^ r) (omega (arith, pow-add 2 r 1)) (omega arith))
    go (no n) (no m) = absurd (omega (arith, pow_mono {i = k} {j = r} (omega arith)))

-- one turn of a loop that doubles words in place; y is the word of f with fan-in r turned
pub doubled-step : (l₀ l : List ℕ) (r size like f y : ℕ) → size ≡ 2 ^ r → f < size → size + f < length l
    → ((t : ℕ) → t < 64 → bit y t ≡ bit (get_or l f 0) (bit_xor t (2 ^ r)))
    → Doubled l₀ l r like f → Doubled l₀ (set l (size + f) (bit_and (bit_and (get_or l f 0) y) like)) r like (f + 1)
doubled-step l₀ l r size like f y es hf hl ey d =
    (λ q lq. get_or-set_other l (size + f) q v 0 (λ e. omega arith) ∙ d.0 q lq, λ q lq. go q lq (ℕ_discrete q f))
  where
    v : ℕ
    v = bit_and (bit_and (get_or l f 0) y) like

    goal : ℕ → Type 0
    goal q = (t : ℕ) → t < 64 → bit (get_or (set l (size + f) v) (2 ^ r + q) 0) t ≡ ((bit (get_or l₀ q 0) t && bit (get_or l₀ q 0) (bit_xor t (2 ^ r))) && bit like t)

    own : (t : ℕ) → t < 64 → bit v t ≡ ((bit (get_or l₀ f 0) t && bit (get_or l₀ f 0) (bit_xor t (2 ^ r))) && bit like t)
    own t ht =
        bit-and (bit_and (get_or l f 0) y) like t
        ∙ ap (λ (b : Bool). b && bit like t) (bit-and (get_or l f 0) y t ∙ ap (λ (b : Bool). bit (get_or l f 0) t && b) (ey t ht))
        ∙ ap (λ (w : ℕ). (bit w t && bit w (bit_xor t (2 ^ r))) && bit like t) (d.0 f (omega arith))

    go : (q : ℕ) → q < f + 1 → Dec (q ≡ f) → goal q
    go q lq (yes e) = subst goal (sym e) (λ t ht. ap (λ (i : ℕ). bit (get_or (set l (size + f) v) (i + f) 0) t) (sym es) ∙ ap (λ (x : ℕ). bit x t) (get_or-set_same l (size + f) v 0 hl) ∙ own t ht)
    go q lq (no n) = λ t ht. ap (λ (x : ℕ). bit x t) (get_or-set_other l (size + f) (2 ^ r + q) v 0 (λ e. n (omega arith))) ∙ d.1 q (omega arith) t ht

-- ## The turns of the fan-ins

turns-lt : (k table t r : ℕ) → turns k table t r < 2 ^ r
unfolding turns
turns-lt k table t zero = omega arith
turns-lt k table t (suc r) = go (constant k table (turns k table t r + 2 ^ r) t) (turns-lt k table t r)
  where
    go : (b : Bool) → turns k table t r < 2 ^ r → cond b (turns k table t r + 2 ^ r) (turns k table t r) < 2 ^ suc r
    go true h = omega (arith, pow-succ' 2 r)
    go false h = omega (arith, pow-succ' 2 r)

-- fan-in r is free where the table is constant over it and the fan-ins already free; later turns leave it
turn-bit : (k table t j r : ℕ) → r < j → bit (turns k table t j) r ≡ constant k table (turns k table t r + 2 ^ r) t
unfolding turns
turn-bit k table t zero r h = absurd (omega arith)
turn-bit k table t (suc j) r h = lt-cases r j h (λ l. kept l (constant k table (x + 2 ^ j) t) ∙ turn-bit k table t j r l) (λ e. rw e (own (constant k table (x + 2 ^ j) t)))
  where
    x : ℕ
    x = turns k table t j

    swap : 2 ^ j + x ≡ x + 2 ^ j
    swap = omega arith

    kept : r < j → (b : Bool) → bit (cond b (x + 2 ^ j) x) r ≡ bit x r
    kept l true = ap (λ (y : ℕ). bit y r) (sym swap) ∙ with-other j x (turns-lt k table t j) r (λ e. omega arith)
    kept l false = refl

    own : (b : Bool) → bit (cond b (x + 2 ^ j) x) j ≡ b
    own true = ap (λ (y : ℕ). bit y j) (sym swap) ∙ with-own j x (turns-lt k table t j)
    own false = bit-above x j j (turns-lt k table t j) (omega arith)

-- before the turn of fan-in r: word h is of the fan-ins already free at an entry, and of those of h, counted from r
abbrev pub AtTurn : (k table : ℕ) (words : List ℕ) (r : ℕ) → Type 0
AtTurn k table l r = (h : ℕ) → h < 2 ^ (k - r) → (t : ℕ) → t < 2 ^ k → bit (get_or l h 0) t ≡ constant k table (turns k table t r + 2 ^ r * h) t

pub at-turn-start : (n k table : ℕ) (l : List ℕ) → k ≤ n → n ≤ most_fanins → Constants table l (2 ^ n) → AtTurn k table l 0
unfolding turns
at-turn-start n k table l hk hn c h lh t ht =
    c k h t (omega arith) (omega (arith, pow_mono {i = k} {j = n} hk, simp sub-zero at lh)) (simp sub-zero at lh) ht ∙ ap (λ (f : ℕ). constant k table f t) (omega arith)

-- word 1 tells where fan-in r becomes free
at-turn-own : (k table : ℕ) (l : List ℕ) (r : ℕ) → r < k → AtTurn k table l r → (t : ℕ) → t < 2 ^ k → bit (get_or l 1 0) t ≡ constant k table (turns k table t r + 2 ^ r) t
at-turn-own k table l r hr left t ht =
    left 1 (pow-lt {i = 0} (omega arith)) t ht ∙ ap (λ (x : ℕ). constant k table (turns k table t r + x) t) (mul-one (2 ^ r))

pub at-turn-edge : (k table : ℕ) (l : List ℕ) (r : ℕ) → r < k → AtTurn k table l r → bit_and (get_or l 1 0) (2 ^ (2 ^ k) - 1) ≡ edge_table k table r
unfolding edge_table
at-turn-edge k table l r hr left =
    bit-ext (2 ^ k) (bit_and (get_or l 1 0) (2 ^ (2 ^ k) - 1)) (table_of (2 ^ k) free) (mask_lt (get_or l 1 0) (2 ^ k)) (table-lt (2 ^ k) free)
    (λ t ht. bit-and (get_or l 1 0) (2 ^ (2 ^ k) - 1) t ∙ ap (λ (b : Bool). bit (get_or l 1 0) t && b) (bit-ones (2 ^ k) t ht) ∙ and-true (bit (get_or l 1 0) t)
    ∙ at-turn-own k table l r hr left t ht ∙ sym (turn-bit k table t k r hr) ∙ sym (bit-table (2 ^ k) free t ht))
  where
    free : ℕ → Bool
    free t = bit (turns k table t k) r

-- the next turn: of each two words the second where fan-in r became free, the first elsewhere
pub at-turn-next : (k table : ℕ) (l₀ l : List ℕ) (r size : ℕ) → r < k → 2 ^ (k - 1 - r) ≤ size → Halved l₀ l (get_or l₀ 1 0) size → AtTurn k table l₀ r → AtTurn k table l (r + 1)
unfolding turns
at-turn-next k table l₀ l r size hr room pick left h lh t ht =
    rw (pick h (omega (arith, half)) t, at-turn-own k table l₀ r hr left t ht, left (2 * h + 1) (omega (arith, half, twice)) t ht, left (2 * h) (omega (arith, half, twice)) t ht, add-one r)
    (go (constant k table (x + 2 ^ r) t))
  where
    x : ℕ
    x = turns k table t r

    half : 2 ^ (k - (r + 1)) ≡ 2 ^ (k - 1 - r)
    half = let e : k - (r + 1) ≡ k - 1 - r = omega arith in rw e

    twice : 2 ^ (k - r) ≡ 2 ^ (k - 1 - r) * 2
    twice = let e : k - r ≡ k - 1 - r + 1 = omega arith in rw e (pow-add 2 (k - 1 - r) 1)

    even : 2 ^ r * (2 * h) ≡ 2 ^ suc r * h
    even = sym (mul_assoc (2 ^ r) 2 h) ∙ ap (λ (p : ℕ). p * h) (sym (pow-add 2 r 1) ∙ rw add-one)

    go : (b : Bool) → choose b (constant k table (x + 2 ^ r * (2 * h + 1)) t) (constant k table (x + 2 ^ r * (2 * h)) t) ≡ constant k table (cond b (x + 2 ^ r) x + 2 ^ suc r * h) t
    go true = ap (λ (f : ℕ). constant k table f t) (omega (arith, mul-add (2 ^ r) (2 * h) 1, mul-one (2 ^ r), even))
    go false = ap (λ (f : ℕ). constant k table (x + f) t) even

-- one turn of a loop that halves words in place: those before h are done, the rest are as they were
abbrev pub Halving : (l₀ l : List ℕ) (free h : ℕ) → Type 0
Halving l₀ l free h = Halved l₀ l free h × ((q : ℕ) → h ≤ q → get_or l q 0 ≡ get_or l₀ q 0)

-- ## Edge tables

-- half of the words that are left
pub half_room : (n k r : ℕ) → n ≤ most_fanins → r < k → k ≤ n → 2 ^ (k - 1 - r) ≤ (1 * 2 ^ (n - 1 - r)) % 2 ^ 64
half_room n k r hn h hk = omega (arith, one_shl (n - 1 - r) 64 (omega arith), pow_mono {i = k - 1 - r} {j = n - 1 - r} (omega arith))

-- one more place of a stretch of k that starts at a
pub filled-from : (l : List ℕ) (p : ℕ → ℕ) (a i k v : ℕ) → a + i < length l → ((q : ℕ) → q < i → q < k → get_or l (a + q) 0 ≡ p q) → (i < k → v ≡ p i)
    → (q : ℕ) → q < i + 1 → q < k → get_or (set l (a + i) v) (a + q) 0 ≡ p q
filled-from l p a i k v h so_far own q lq lk = go (ℕ_discrete q i)
  where
    go : Dec (q ≡ i) → get_or (set l (a + i) v) (a + q) 0 ≡ p q
    go (yes s) = rw s (get_or-set_same l (a + i) v 0 h ∙ own (omega arith))
    go (no n) = get_or-set_other l (a + i) (a + q) v 0 (λ s. n (omega arith)) ∙ so_far q (omega arith) lk

-- of m gates, the first g and all small ones have theirs
abbrev pub EdgedPast : (arity tables edges : List ℕ) (m g : ℕ) → Type 0
EdgedPast ks ts es m g = (h : ℕ) → h < m → (g ≤ h → get_or ks h 0 ≤ small_fanins) → GateEdged ks ts es h

-- at the entry that the values vs pick, the edge table of fan-in r tells whether the gate frees it
pub edge_at : (ks fs ts : List ℕ) (vs : List Bool) (g r : ℕ) → bit (edge_table (get_or ks g 0) (get_or ts g 0) r) (entry vs (gate_at ks fs ts g)) ≡ bit (free_fanins (gate_at ks fs ts g) (entry vs (gate_at ks fs ts g))) r
unfolding edge_table free_fanins
edge_at ks fs ts vs g r =
    bit-table (2 ^ get_or ks g 0) (λ t. bit (turns (get_or ks g 0) (get_or ts g 0) t (get_or ks g 0)) r) (entry vs (gate_at ks fs ts g)) (entry_lt ks fs ts vs g)
    ∙ ap₂ (λ (k t : ℕ). bit (turns k t (entry vs (gate_at ks fs ts g)) k) r) (sym (arity-at ks fs ts g)) (sym (table_at ks fs ts g))
