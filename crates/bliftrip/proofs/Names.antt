-- The names that go out: different for different signals, and found at their places. Assumes nothing.
use mathlib.Core.Path.{◌≡◌, refl, sym, ap}
use mathlib.Core.Bool.{Bool, true, false, not, ◌&&◌, false≢true, beq}
use mathlib.Core.List.{List, [], ◌∷◌, ◌++◌, map}
use Prim.Native.Nat.{ℕ, zero, suc, ◌≤◌, ◌<◌}
use native.Mathlib.Omega.{arith}
use lib.Dec.{T, leb, eqb}
use lib.ListN.{length, get_or, length-map}
use borrow.Author.Tests.{not-true, leb-true, lt-ltb, le-ltb, eq-eqb, ne_eqb}
use Rattle.bits.specs.Range.{places}
use Rattle.bits.proofs.Logic.{beq-e}
use Rattle.bits.proofs.Ranges.{and_l, and_r, and_i, length-places, places-at}
use Rattle.bits.proofs.Table.{each, each_at}
use Rattle.network.specs.Bounds.{most_signals}
use Rattle.text.specs.Numbers.{decimal}
use Rattle.text.specs.Words.{Text, is_printing, all}
use Rattle.blif.specs.Text.{is_blank, is_newline, is_hash}
use Rattle.blif.specs.Read.{same, foreign, place_in, known, repeats}
use Rattle.blif.specs.Write.{name}
use Rattle.blif.proofs.Printed.{Whole, Plain, Plains}

-- ## Words are the same where their bytes are

pub same_refl : (w : Text) → same w w ≡ true
same_refl [] = refl
same_refl (b ∷ bs) = and_i (eqb b b) (same bs bs) (eq-eqb b b refl) (same_refl bs)

-- ## Names of signals, one computed test each: all that is used of `decimal`

holds : (b : Bool) → T b → b ≡ true
holds true t = refl
holds false t = absurd t

-- different signals have different names
name-same : (a b : ℕ) → a < most_signals → b < most_signals → same (name a) (name b) ≡ eqb a b
unfolding decimal
name-same a b h k =
    let row : ℕ → ℕ → Bool = λ a b. beq (same (name a) (name b)) (eqb a b) in
    let t = each_at most_signals (λ a. each most_signals (row a)) tt a h in
    beq-e (same (name a) (name b)) (eqb a b) (holds (row a b) (each_at most_signals (row a) t b k))

abbrev pub plain_byte : ℕ → Bool
plain_byte b = is_printing b && (not (is_blank b) && (not (is_newline b) && not (is_hash b)))

-- a word that is read as it was written
abbrev pub clean : Text → Bool
clean [] = false
clean (b ∷ bs) = all plain_byte (b ∷ bs)

pub name-clean : (x : ℕ) → x < most_signals → clean (name x) ≡ true
unfolding decimal
name-clean x h = holds (clean (name x)) (each_at most_signals (λ x. clean (name x)) tt x h)

pub name-length : (x : ℕ) → x < most_signals → length (name x) ≤ 3
unfolding decimal
name-length x h = leb-true (length (name x)) 3 (holds (leb (length (name x)) 3) (each_at most_signals (λ x. leb (length (name x)) 3) tt x h))

-- ## Places of names

-- each number is a signal that has a name
abbrev pub Small : List ℕ → Type 0
Small l = (i : ℕ) → i < length l → get_or l i 0 < most_signals

-- no number of the list is x
abbrev Lacks : List ℕ → ℕ → Type 0
Lacks l x = (i : ℕ) → i < length l → get_or l i 0 ≡ x → ⊥

place_none : (l : List ℕ) (x : ℕ) → Small l → x < most_signals → Lacks l x → place_in (map name l) (name x) ≡ length l
place_none [] x s b f = refl
place_none (y ∷ l) x s b f =
    rw (name-same y x (s 0 (omega arith)) b, ne_eqb y x (f 0 (omega arith)))
    (ap suc (place_none l x (λ i h. s (suc i) (omega arith)) b (λ i h. f (suc i) (omega arith))))

place_at : (l : List ℕ) (i : ℕ) → Small l → i < length l → ((j : ℕ) → j < i → get_or l j 0 ≡ get_or l i 0 → ⊥) → place_in (map name l) (name (get_or l i 0)) ≡ i
place_at [] i s h f = let z : ⊥ = omega arith in absurd z
place_at (y ∷ l) zero s h f = rw (same_refl (name y))
place_at (y ∷ l) (suc i) s h f =
    let x = get_or l i 0 in
    rw (name-same y x (s 0 (omega arith)) (s (suc i) h), ne_eqb y x (f 0 (omega arith)))
    (ap suc (place_at l i (λ i h. s (suc i) (omega arith)) (omega arith) (λ j k. f (suc j) (omega arith))))

unknown : (l : List ℕ) (x : ℕ) → Small l → x < most_signals → Lacks l x → known (map name l) (name x) ≡ false
unknown l x s b f = rw (place_none l x s b f, length-map l name) (le-ltb (length l) (length l) (omega arith))

-- numbers at different places are different
abbrev pub Different : List ℕ → Type 0
Different l = (i j : ℕ) → i < j → j < length l → get_or l i 0 ≡ get_or l j 0 → ⊥

pub no-repeat : (l : List ℕ) → Small l → Different l → repeats (map name l) ≡ false
no-repeat [] s f = refl
no-repeat (x ∷ l) s f =
    rw (unknown l x (λ i h. s (suc i) (omega arith)) (s 0 (omega arith)) (λ i h e. f 0 (suc i) (omega arith) (omega arith) (sym e)))
    (no-repeat l (λ i h. s (suc i) (omega arith)) (λ i j h k. f (suc i) (suc j) (omega arith) (omega arith)))

-- ## The signals below c, by name

abbrev pub below : ℕ → List ℕ
below c = places c (λ i. i)

pub length-below : (c : ℕ) → length (below c) ≡ c
length-below c = length-places c (λ i. i)

below_at : (c i : ℕ) → i < c → get_or (below c) i 0 ≡ i
below_at c i h = places-at 0 c (λ i. i) i h

pub below-different : (c : ℕ) → Different (below c)
below-different c i j h k e =
    let n = length-below c in
    let a = below_at c i (omega arith) in
    let b = below_at c j (omega arith) in
    omega arith

pub below-small : (c : ℕ) → c ≤ most_signals → Small (below c)
below-small c m i h = let n = length-below c in let a = below_at c i (omega arith) in omega arith

module _ (c : ℕ) (most : c ≤ most_signals) where
  place-below : (x : ℕ) → x < c → place_in (map name (below c)) (name x) ≡ x
  place-below x h =
      let n = length-below c in
      let p = place_at (below c) x (below-small c most) (omega arith) (λ j k. below-different c j x k (omega arith)) in
      rw (below_at c x h) at p

  known-below : (x : ℕ) → x < c → known (map name (below c)) (name x) ≡ true
  known-below x h = rw (place-below x h, length-map (below c) name, length-below c) (lt-ltb x c h)

  pub unknown-below : (x : ℕ) → c ≤ x → x < most_signals → known (map name (below c)) (name x) ≡ false
  unknown-below x h b = unknown (below c) x (below-small c most) b (λ i k e. let n = length-below c in let a = below_at c i (omega arith) in omega arith)

  pub places-below : (fs : List ℕ) → ((r : ℕ) → r < length fs → get_or fs r 0 < c) → map (place_in (map name (below c))) (map name fs) ≡ fs
  places-below [] f = refl
  places-below (x ∷ fs) f = rw (place-below x (f 0 (omega arith))) (ap (λ (l : List ℕ). x ∷ l) (places-below fs (λ r h. f (suc r) (omega arith))))

  pub all_known : (fs : List ℕ) → ((r : ℕ) → r < length fs → get_or fs r 0 < c) → all (known (map name (below c))) (map name fs) ≡ true
  all_known [] f = refl
  all_known (x ∷ fs) f = rw (known-below x (f 0 (omega arith))) (all_known fs (λ r h. f (suc r) (omega arith)))

-- ## Words that are read as they were written

all-e : (p : ℕ → Bool) (b : ℕ) (bs : Text) → all p (b ∷ bs) ≡ true → (p b ≡ true) × (all p bs ≡ true)
all-e p b bs h = (and_l (p b) (all p bs) h, and_r (p b) (all p bs) h)

whole-all : (cut : ℕ → Bool) → ((b : ℕ) → plain_byte b ≡ true → cut b ≡ false) → (w : Text) → all plain_byte w ≡ true → Whole cut w
whole-all cut f [] h = tt
whole-all cut f (b ∷ bs) h = let e = all-e plain_byte b bs h in (f b e.0, whole-all cut f bs e.1)

module _ (b : ℕ) (h : plain_byte b ≡ true) where
  abbrev rest1 : Bool
  rest1 = not (is_blank b) && (not (is_newline b) && not (is_hash b))

  abbrev rest2 : Bool
  rest2 = not (is_newline b) && not (is_hash b)

  printing : is_printing b ≡ true
  printing = and_l (is_printing b) rest1 h

  after1 : rest2 ≡ true
  after1 = and_r (not (is_blank b)) rest2 (and_r (is_printing b) rest1 h)

  not-blank : is_blank b ≡ false
  not-blank = not-true (is_blank b) (and_l (not (is_blank b)) rest2 (and_r (is_printing b) rest1 h))

  not-newline : is_newline b ≡ false
  not-newline = not-true (is_newline b) (and_l (not (is_newline b)) (not (is_hash b)) after1)

  not-hash : is_hash b ≡ false
  not-hash = not-true (is_hash b) (and_r (not (is_newline b)) (not (is_hash b)) after1)

clean-plain : (w : Text) → clean w ≡ true → Plain w
clean-plain [] h = absurd (false≢true h)
clean-plain (b ∷ bs) h = record {
  some = (b, bs, refl);
  solid = whole-all is_blank not-blank (b ∷ bs) h;
  flat = whole-all is_newline not-newline (b ∷ bs) h;
  open-ended = whole-all is_hash not-hash (b ∷ bs) h;
}

all-printing : (w : Text) → all plain_byte w ≡ true → all is_printing w ≡ true
all-printing [] h = refl
all-printing (b ∷ bs) h = let e = all-e plain_byte b bs h in and_i (is_printing b) (all is_printing bs) (printing b e.0) (all-printing bs e.1)

clean-printing : (w : Text) → clean w ≡ true → all is_printing w ≡ true
clean-printing [] h = refl
clean-printing (b ∷ bs) h = all-printing (b ∷ bs) h

-- all words of a line are so
pub line-native : (ws : List Text) → all clean ws ≡ true → foreign ws ≡ false
line-native ws h = ap not (go ws h)
  where
    go : (ws : List Text) → all clean ws ≡ true → all (all is_printing) ws ≡ true
    go [] h = refl
    go (w ∷ ws) h = and_i (all is_printing w) (all (all is_printing) ws) (clean-printing w (and_l (clean w) (all clean ws) h)) (go ws (and_r (clean w) (all clean ws) h))

pub line_plain : (ws : List Text) → all clean ws ≡ true → Plains ws
line_plain [] h = tt
line_plain (w ∷ ws) h = (clean-plain w (and_l (clean w) (all clean ws) h), line_plain ws (and_r (clean w) (all clean ws) h))

pub all_append : {A : Type 0} (p : A → Bool) (xs ys : List A) → all p xs ≡ true → all p ys ≡ true → all p (xs ++ ys) ≡ true
all_append p [] ys h k = k
all_append p (x ∷ xs) ys h k = and_i (p x) (all p (xs ++ ys)) (and_l (p x) (all p xs) h) (all_append p xs ys (and_r (p x) (all p xs) h) k)

pub names-clean : (l : List ℕ) → Small l → all clean (map name l) ≡ true
names-clean [] f = refl
names-clean (x ∷ l) f = and_i (clean (name x)) (all clean (map name l)) (name-clean x (f 0 (omega arith))) (names-clean l (λ i h. f (suc i) (omega arith)))
