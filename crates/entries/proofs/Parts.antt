-- The entries of a gate by two words each: of its first fan-ins, and of the others. Assumes nothing.
use mathlib.Core.Path.{◌≡◌, refl, sym, ap, ap₂, ◌∙◌, subst}
use mathlib.Core.Bool.{Bool, true, false, not, ◌&&◌, ◌||◌, beq}
use mathlib.Core.List.{List, [], ◌∷◌}
use Prim.Native.Nat.{ℕ, zero, suc, ◌+◌, ◌-◌, ◌*◌, ◌/◌, ◌%◌, ◌^◌, ◌<◌, ◌≤◌}
use native.Mathlib.Nat.{add-zero, mod-lt, mod_self, div-add-mod', lt_of_lt_of_le}
use native.Mathlib.Decide.{dec_lt}
use native.Mathlib.Omega.{arith}
use lib.Bits.{bit_and, bit_or, bit_xor, xor_zero_r, or_lt, and_mask, and_self, xor_self, and_block, xor_block}
use lib.Dec.{eqb, lit<}
use lib.ListN.{get_or}
use lib.Pow.{pow_mono, pow_pos, pow-lt, shr_lt}
use borrow.Author.Tests.{eqb-true}
use Rattle.bits.specs.Bounds.{small_fanins, gate_places}
use Rattle.bits.specs.Range.{every, any}
use Rattle.bits.specs.Bit.{bit, differs, table_of, gives}
use Rattle.bits.proofs.BitLaws.{bit-and, bit-or, bit-xor, bit-zero, bit-power, bit-ones, bit_not, bit-low, bit-shr, bit-above, bit-ext, power-own, power-other}
use Rattle.bits.proofs.Ranges.{and_assoc, and-true, lt-cases, any-ext, every-ext, table-lt, bit-table, entries-most}
use Rattle.bits.proofs.Logic.{clash}
use Rattle.bits.proofs.MintermLaws.{Minterms}
use Rattle.entries.specs.By.{delivered_by, shares}

-- ## A range in two

every_append : (n m : ℕ) (p : ℕ → Bool) → every (n + m) p ≡ (every n p && every m (λ i. p (n + i)))
every_append n zero p = ap (λ (k : ℕ). every k p) (add-zero n) ∙ sym (and-true (every n p))
every_append n (suc m) p =
    let e : n + suc m ≡ suc (n + m) = omega arith in
    ap (λ (k : ℕ). every k p) e
    ∙ ap (λ (x : Bool). x && p (n + m)) (every_append n m p)
    ∙ and_assoc (every n p) (every m (λ i. p (n + i))) (p (n + m))

-- the first n words give the low bits of the entry, and those after them, us with the free places gs, the high bits
gives-parts : (ws fs us gs : List ℕ) (n j t b : ℕ) → ((i : ℕ) → i < j → get_or us i 0 ≡ get_or ws (n + i) 0) → ((i : ℕ) → i < j → get_or gs i 0 ≡ get_or fs (n + i) 0)
    → gives (n + j) ws fs t b ≡ (gives n ws fs (t % 2 ^ n) b && gives j us gs (t / 2 ^ n) b)
gives-parts ws fs us gs n j t b eu eg =
    every_append n j (λ i. test (get_or fs i 0) (get_or ws i 0) (bit t i))
    ∙ ap₂ (λ (x y : Bool). x && y)
    (every-ext n (λ i. test (get_or fs i 0) (get_or ws i 0) (bit t i)) (λ i. test (get_or fs i 0) (get_or ws i 0) (bit (t % 2 ^ n) i))
    (λ i h. ap (test (get_or fs i 0) (get_or ws i 0)) (ap (λ (x : ℕ). bit x i) (sym (div-add-mod' t (2 ^ n))) ∙ bit-low (t / 2 ^ n) n (t % 2 ^ n) i h)))
    (every-ext j (λ i. test (get_or fs (n + i) 0) (get_or ws (n + i) 0) (bit t (n + i))) (λ i. test (get_or gs i 0) (get_or us i 0) (bit (t / 2 ^ n) i))
    (λ i h. ap₂ (λ (f w : ℕ). test f w (bit t (n + i))) (sym (eg i h)) (sym (eu i h)) ∙ ap (test (get_or gs i 0) (get_or us i 0)) (sym (bit-shr t n i))))
  where
    test : ℕ → ℕ → Bool → Bool
    test f w x = bit f b || beq (bit w b) x

-- the minterm words of j words, all places kept
abbrev pub AllMinterms : (ws fs l : List ℕ) (j : ℕ) → Type 0
AllMinterms ws fs l j = (t : ℕ) → t < 2 ^ j → (b : ℕ) → b < 64 → bit (get_or l t 0) b ≡ gives j ws fs t b

pub all-kept : (ws fs l : List ℕ) (j i : ℕ) → j ≡ i → Minterms ws fs (2 ^ 64 - 1) l i → AllMinterms ws fs l j
all-kept ws fs l j i e kept =
    subst (AllMinterms ws fs l) (sym e) (λ t h b hb. kept t h b hb ∙ ap (λ (x : Bool). x && gives i ws fs t b) (bit-ones 64 b hb))

-- the fan-ins after the first three, as the code lays them out
abbrev pub others : List ℕ → List ℕ
others l = get_or l 3 0 ∷ get_or l 4 0 ∷ get_or l 5 0 ∷ 0 ∷ 0 ∷ 0 ∷ []

others-at : (l : List ℕ) (i : ℕ) → i < 3 → get_or (others l) i 0 ≡ get_or l (3 + i) 0
others-at l zero h = refl
others-at l (suc zero) h = refl
others-at l (suc (suc zero)) h = refl
others-at l (suc (suc (suc i))) h = absurd (omega arith)

-- the test in code
pub shares-by : (low high : List ℕ) (t : ℕ) (b x : Bool) → b ≡ any 64 (bit (bit_and (get_or low (t % 8) 0) (get_or high (t / 8) 0))) → b ≡ x → shares low high t ≡ x
unfolding shares
shares-by low high t b x e h = sym e ∙ h

-- an entry's words share the places of keep that deliver it
shares-is : (ins frees low high : List ℕ) (keep k j t : ℕ) → k ≡ 3 + j → j ≤ 3 → t < 2 ^ k
    → Minterms ins frees keep low 3 → AllMinterms (others ins) (others frees) high j → shares low high t ≡ any 64 (λ b. bit keep b && gives k ins frees t b)
unfolding shares
shares-is ins frees low high keep k j t ek few ht el eh =
    any-ext 64 (bit (bit_and (get_or low (t % 8) 0) (get_or high (t / 8) 0))) (λ b. bit keep b && gives k ins frees t b)
    (λ b hb. bit-and (get_or low (t % 8) 0) (get_or high (t / 8) 0) b
    ∙ ap₂ (λ (x y : Bool). x && y) (el (t % 8) (mod-lt t (lit< tt)) b hb) (eh (t / 8) below b hb)
    ∙ and_assoc (bit keep b) (gives 3 ins frees (t % 8) b) (gives j (others ins) (others frees) (t / 8) b)
    ∙ ap (λ (x : Bool). bit keep b && x) (sym (gives-parts ins frees (others ins) (others frees) 3 j t b (λ i h. others-at ins i (omega arith)) (λ i h. others-at frees i (omega arith)))
    ∙ ap (λ (i : ℕ). gives i ins frees t b) (sym ek)))
  where
    below : t / 8 < 2 ^ j
    below = let e : k ≡ j + 3 = omega arith in shr_lt j 3 (subst (λ (i : ℕ). t < 2 ^ i) e ht)

-- ## The entries left, one after the other

or-none : (f : Bool) → f ≡ (f || false)
or-none true = refl
or-none false = refl

pub none_left : (found left t : ℕ) (x : Bool) → left ≡ 0 → bit found t ≡ (bit found t || (bit left t && x))
none_left found left t x e =
    or-none (bit found t) ∙ ap (λ (y : Bool). bit found t || (y && x)) (sym (ap (λ (y : ℕ). bit y t) e ∙ bit-zero t))

-- t is the lowest of the entries left
module _ (left t : ℕ) (own : bit left t ≡ true) (lowest : (i : ℕ) → i < t → bit left i ≡ false) where
  place : (i : ℕ) → i < suc t → bit left i ≡ bit (2 ^ t) i
  place i h = lt-cases i t h (λ l. lowest i l ∙ sym (power-other t i (λ e. omega arith))) (λ e. rw e (own ∙ sym (power-own t)))

  low_part : left % 2 ^ suc t ≡ 2 ^ t
  low_part =
      bit-ext (suc t) (left % 2 ^ suc t) (2 ^ t) (mod-lt left (pow_pos (suc t))) (pow-lt (omega arith))
      (λ i h. sym (bit-low (left / 2 ^ suc t) (suc t) (left % 2 ^ suc t) i h) ∙ ap (λ (x : ℕ). bit x i) (div-add-mod' left (2 ^ suc t)) ∙ place i h)

  -- what stands above it stays, and it goes
  cleared : bit_and left (left - 1) ≡ bit_xor left (2 ^ t)
  cleared =
      ap₂ bit_and whole less ∙ and_block (suc t) high high (2 ^ t) (2 ^ t - 1) fits (omega (arith, fits))
      ∙ ap₂ (λ (x y : ℕ). x * 2 ^ suc t + y) (and_self high) (and_mask (2 ^ t) t ∙ mod_self (2 ^ t))
      ∙ sym (ap₂ bit_xor whole alone ∙ xor_block (suc t) high 0 (2 ^ t) (2 ^ t) fits fits ∙ ap₂ (λ (x y : ℕ). x * 2 ^ suc t + y) (xor_zero_r high) (xor_self (2 ^ t)))
    where
      high : ℕ
      high = left / 2 ^ suc t

      fits : 2 ^ t < 2 ^ suc t
      fits = pow-lt (omega arith)

      whole : left ≡ high * 2 ^ suc t + 2 ^ t
      whole = sym (div-add-mod' left (2 ^ suc t)) ∙ ap (λ (x : ℕ). high * 2 ^ suc t + x) low_part

      less : left - 1 ≡ high * 2 ^ suc t + (2 ^ t - 1)
      less = omega (arith, whole, pow_pos t)

      alone : 2 ^ t ≡ 0 * 2 ^ suc t + 2 ^ t
      alone = omega arith

  -- one turn: entry t is tested, and no longer left
  pub turn : (test : ℕ → Bool) (found next : ℕ) (whole : ℕ → Bool) → ((i : ℕ) → bit next i ≡ (bit found i || (eqb t i && test t)))
      → ((i : ℕ) → (bit found i || (bit left i && test i)) ≡ whole i) → (i : ℕ) → (bit next i || (bit (bit_and left (left - 1)) i && test i)) ≡ whole i
  turn test found next whole en so_far i =
      ap₂ (λ (x y : Bool). x || (y && test i)) (en i) (ap (λ (x : ℕ). bit x i) cleared ∙ bit-xor left (2 ^ t) i ∙ ap (differs (bit left i)) (bit-power t i))
      ∙ step (bit found i) (bit left i) (eqb t i) (test t) (test i) (λ e. ap (bit left) (sym (eqb-true t i e)) ∙ own) (λ e. ap test (eqb-true t i e))
      ∙ so_far i
    where
      step : (f l o p q : Bool) → (o ≡ true → l ≡ true) → (o ≡ true → p ≡ q) → ((f || (o && p)) || (differs l o && q)) ≡ (f || (l && q))
      step true l o p q h e = refl
      step false true false p q h e = refl
      step false false false p q h e = refl
      step false true true true q h e = e refl
      step false true true false q h e = e refl
      step false false true p q h e = clash (h refl) refl

-- what is found with entry t, and without it
module _ (found t : ℕ) (test : ℕ → Bool) where
  pub with-own : (p : ℕ) → p ≡ 2 ^ t → test t ≡ true → (i : ℕ) → bit (bit_or found p) i ≡ (bit found i || (eqb t i && test t))
  with-own p ep e i =
      bit-or found p i
      ∙ ap (λ (x : Bool). bit found i || x) (ap (λ (x : ℕ). bit x i) ep ∙ bit-power t i ∙ sym (and-true (eqb t i)) ∙ ap (λ (x : Bool). eqb t i && x) (sym e))

  pub without : test t ≡ false → (i : ℕ) → bit found i ≡ (bit found i || (eqb t i && test t))
  without e i = rw e (none (bit found i) (eqb t i))
    where
      none : (f o : Bool) → f ≡ (f || (o && false))
      none f true = or-none f
      none f false = or-none f

-- the entries found, and those of the missing ones that pass the test: all that are found or pass
rest-is : (K found left r : ℕ) (p q : ℕ → Bool) → K ≤ 64 → found < 2 ^ K → left ≡ 2 ^ K - 1 - found → r < 2 ^ 64
    → ((t : ℕ) → bit r t ≡ (bit left t && q t)) → ((t : ℕ) → t < K → q t ≡ p t) → bit_or found r ≡ bit_or found (table_of K p)
rest-is K found left r p q hK hf el hr er same =
    bit-ext 64 (bit_or found r) (bit_or found (table_of K p)) (or_lt 64 found r (fits found hf) hr) (or_lt 64 found (table_of K p) (fits found hf) (fits (table_of K p) (table-lt K p)))
    (λ i h. bit-or found r i ∙ ap (λ (x : Bool). bit found i || x) (er i) ∙ here i (dec_lt i K) ∙ sym (bit-or found (table_of K p) i))
  where
    fits : (x : ℕ) → x < 2 ^ K → x < 2 ^ 64
    fits x h = lt_of_lt_of_le h (pow_mono {i = K} {j = 64} hK)

    both : (f x : Bool) → (f || (not f && x)) ≡ (f || x)
    both true x = refl
    both false x = refl

    here : (i : ℕ) → Dec (i < K) → (bit found i || (bit left i && q i)) ≡ (bit found i || bit (table_of K p) i)
    here i (yes h) =
        ap₂ (λ (x y : Bool). bit found i || (x && y)) (ap (λ (x : ℕ). bit x i) el ∙ bit_not K found i hf h) (same i h ∙ sym (bit-table K p i h))
        ∙ both (bit found i) (bit (table_of K p) i)
    here i (no n) =
        let l : K ≤ i = omega arith in
        let fl : left < 2 ^ K = omega arith in
        ap (λ (x : Bool). bit found i || x) (ap (λ (x : Bool). x && q i) (bit-above left K i fl l) ∙ sym (bit-above (table_of K p) K i (table-lt K p) l))

-- left is what complement_within gives of found, and r what the test finds in it
pub missing-is : (ins frees low high : List ℕ) (keep k found n left r : ℕ) → small_fanins < k → k ≤ gate_places → found < 2 ^ 2 ^ k → n ≡ 2 ^ k → left ≡ 2 ^ n - 1 - found → r < 2 ^ 64
    → Minterms ins frees keep low 3 → AllMinterms (others ins) (others frees) high (k - 3) → ((t : ℕ) → bit r t ≡ (bit left t && shares low high t))
    → bit_or found r ≡ bit_or found (delivered_by k ins frees keep)
unfolding delivered_by
missing-is ins frees low high keep k found n left r wide few hf en el hr ml mh er =
    rest-is (2 ^ k) found left r (λ t. any 64 (λ b. bit keep b && gives k ins frees t b)) (shares low high) (entries-most k few) hf (el ∙ ap (λ (i : ℕ). 2 ^ i - 1 - found) en) hr er
    (λ t h. shares-is ins frees low high keep k (k - 3) t (omega arith) (omega arith) h ml mh)
