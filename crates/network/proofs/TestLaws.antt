-- What a list of tests says: each test of a list that refuses nothing, tests that stand before others, what each test of 3 to 7
-- shows, and a load that went on. Assumes nothing.
use mathlib.Core.Path.{◌≡◌, refl, sym, ap, ◌∙◌}
use mathlib.Core.Bool.{Bool, true, false, not, ◌&&◌}
use mathlib.Core.List.{List, [], ◌∷◌, ◌++◌, map}
use Prim.Native.Nat.{ℕ, zero, suc, ◌+◌, ◌^◌, ◌≤◌, ◌<◌}
use native.Mathlib.Nat.{add-zero, zero-add}
use native.Mathlib.Omega.{arith}
use lib.Dec.{leb, ltb}
use lib.ListN.{length, get_or}
use borrow.Author.Tests.{le-ltb, lt-ltb, le-leb, eq-eqb, leb-true, ltb-true, ltb-false, not-false}
use Rattle.bits.specs.Range.{up_from}
use Rattle.bits.proofs.Ranges.{and_l, and_r}
use Rattle.network.specs.declared.Session.{Session}
use Rattle.network.specs.declared.Refusal.{Refusal}
use Rattle.network.specs.declared.Refusal.TheVariants.{Truncated, OutOfBounds, FaninNotEarlier, BitPastEnd, NotASignal}
use Rattle.std.specs.Prelude.{Result, Ok, Err}
use Rattle.std.specs.Result.{IsErrAnd}
use Rattle.std.proofs.lemmas.Result.{err_from_is_err_and}
use Rattle.network.specs.Answer.{Answer, Done, answer_of, given_or, onward}
use Rattle.network.specs.Tests.{refuse_if, or_else, first, length_test, mark, mark_test, count_test, range_test, fanin_test, fanins_test, width_test, output_test}

-- ## Answers

pub refused-done : {P : Type 0} (r : Refusal) → Err r ≡ Done → P
refused-done r h = let z : ◌≡◌ {A = ℕ} 0 1 = cc in let e : ⊥ = omega arith in absurd e

-- what refuses nothing found nothing
pub passed : (b : Bool) (r : Refusal) → refuse_if b r ≡ Done → b ≡ false
passed true r h = refused-done r h
passed false r h = refl

pub kept : (b : Bool) (r : Refusal) → refuse_if (not b) r ≡ Done → b ≡ true
kept b r h = not-false b (passed (not b) r h)

-- ## A list of tests

pub both : (a b : Answer) → or_else a b ≡ Done → (a ≡ Done) × (b ≡ Done)
both (Ok _) b h = (refl, h)
both (Err r) b h = refused-done r h

-- none of the tests refuses
abbrev pub Clear : List Answer → Type 0
Clear [] = Unit {0}
Clear (a ∷ rest) = (a ≡ Done) × Clear rest

pub clear-e : (tests : List Answer) → first tests ≡ Done → Clear tests
clear-e [] h = tt
clear-e (a ∷ rest) h = let b = both a (first rest) h in (b.0, clear-e rest b.1)

pub clear-i : (tests : List Answer) → Clear tests → first tests ≡ Done
clear-i [] h = refl
clear-i (a ∷ rest) h = rw h.0 (clear-i rest h.1)

pub alone : (a : Answer) → a ≡ first (a ∷ [])
alone (Ok _) = refl
alone (Err r) = refl

pub or_else-assoc : (a b c : Answer) → or_else (or_else a b) c ≡ or_else a (or_else b c)
or_else-assoc (Ok _) b c = refl
or_else-assoc (Err r) b c = refl

first-append : (xs ys : List Answer) → first (xs ++ ys) ≡ or_else (first xs) (first ys)
first-append [] ys = refl
first-append ((Ok _) ∷ xs) ys = first-append xs ys
first-append (Err r ∷ xs) ys = refl

-- v is the answer of the tests xs, which stand before ys
module _ {v : Answer} (xs ys : List Answer) (e : v ≡ first xs) where
  pub stopped : {r : Refusal} → v ≡ Err r → v ≡ first (xs ++ ys)
  stopped k = k ∙ sym (first-append xs ys ∙ ap (λ (a : Answer). or_else a (first ys)) (sym e ∙ k))

  pub went_on : v ≡ Done → first ys ≡ first (xs ++ ys)
  went_on k = sym (first-append xs ys ∙ ap (λ (a : Answer). or_else a (first ys)) (sym e ∙ k))

-- one test for each number
each_from : (p : ℕ → Answer) (a c : ℕ) → first (map p (up_from a c)) ≡ Done → (d : ℕ) → d < c → p (a + d) ≡ Done
each_from p a zero h d l = let z : ⊥ = omega arith in absurd z
each_from p a (suc c) h zero l = rw add-zero (both (p a) (first (map p (up_from (a + 1) c))) h).0
each_from p a (suc c) h (suc d) l =
    let q : a + suc d ≡ a + 1 + d = omega arith in
    rw q (each_from p (a + 1) c (both (p a) (first (map p (up_from (a + 1) c))) h).1 d (omega arith))

none_from : (p : ℕ → Answer) (a c : ℕ) → ((d : ℕ) → d < c → p (a + d) ≡ Done) → first (map p (up_from a c)) ≡ Done
none_from p a zero h = refl
none_from p a (suc c) h =
    let x : p a ≡ Done = rw add-zero at (h 0 (omega arith)) in
    rw x (none_from p (a + 1) c (λ d l. let q : a + 1 + d ≡ a + suc d = omega arith in rw q (h (suc d) (omega arith))))

pub each-e : (p : ℕ → Answer) (c : ℕ) → first (map p (up_from 0 c)) ≡ Done → (i : ℕ) → i < c → p i ≡ Done
each-e p c h i l = rw zero-add at (each_from p 0 c h i l)

pub each-i : (p : ℕ → Answer) (c : ℕ) → ((i : ℕ) → i < c → p i ≡ Done) → first (map p (up_from 0 c)) ≡ Done
each-i p c h = none_from p 0 c (λ d l. rw zero-add (h d l))

-- ## 1 and 2

pub short-e : (size : ℕ) (rest : List ℕ) → length_test size rest ≡ Done → size ≤ length rest
short-e size rest h = ltb-false (length rest) size (passed (ltb (length rest) size) Truncated h)

pub short-i : (size : ℕ) (rest : List ℕ) → size ≤ length rest → length_test size rest ≡ Done
short-i size rest h = rw (le-ltb (length rest) size h)

pub mark-i : (due : ℕ) (rest : List ℕ) → 2 ≤ length rest → mark rest ≡ due → mark_test due rest ≡ Done
unfolding mark_test
mark-i due rest h e = rw (le-ltb (length rest) 2 h, eq-eqb (mark rest) due e)

-- ## 3, 6 and 7

pub range-e : (least most x : ℕ) → range_test least most x ≡ Done → (least ≤ x) × (x ≤ most)
range-e least most x h =
    let e = kept (leb least x && leb x most) OutOfBounds h in
    (leb-true least x (and_l (leb least x) (leb x most) e), leb-true x most (and_r (leb least x) (leb x most) e))

pub count-e : (most x : ℕ) → count_test most x ≡ Done → (1 ≤ x) × (x ≤ most)
count-e most x h =
    let e = kept (leb 1 x && leb x most) OutOfBounds h in
    (leb-true 1 x (and_l (leb 1 x) (leb x most) e), leb-true x most (and_r (leb 1 x) (leb x most) e))

pub range-i : (least most x : ℕ) → least ≤ x → x ≤ most → range_test least most x ≡ Done
range-i least most x a b = rw (le-leb least x a, le-leb x most b)

pub count-i : (most x : ℕ) → 1 ≤ x → x ≤ most → count_test most x ≡ Done
count-i most x a b = rw (le-leb 1 x a, le-leb x most b)

pub width-e : (bits x : ℕ) → width_test bits x ≡ Done → x < 2 ^ bits
width-e bits x h = ltb-true x (2 ^ bits) (kept (ltb x (2 ^ bits)) BitPastEnd h)

pub width-i : (bits x : ℕ) → x < 2 ^ bits → width_test bits x ≡ Done
width-i bits x h = rw (lt-ltb x (2 ^ bits) h)

pub output-e : (signals x : ℕ) → output_test signals x ≡ Done → x < signals
output-e signals x h = ltb-true x signals (kept (ltb x signals) NotASignal h)

pub output-i : (signals x : ℕ) → x < signals → output_test signals x ≡ Done
output-i signals x h = rw (lt-ltb x signals h)

-- ## 4 and 5

-- 4: each fan-in is a signal below the limit
pub fanins-e : (limit : ℕ) (fs : List ℕ) → fanins_test limit fs ≡ Done → (r : ℕ) → r < length fs → get_or fs r 0 < limit
unfolding fanins_test fanin_test
fanins-e limit fs h r l =
    let late = not (ltb (get_or fs r 0) limit) in
    let t = both (refuse_if late FaninNotEarlier) _ (each-e (fanin_test limit fs) (length fs) h r l) in
    ltb-true (get_or fs r 0) limit (kept (ltb (get_or fs r 0) limit) FaninNotEarlier t.0)

-- ## A load that is not refused went on

pub went : (a : Answer) (l : Result Session Refusal) (u : Session) → onward a l ≡ Ok u → (a ≡ Done) × (l ≡ Ok u)
went (Ok _) l u h = (refl, h)
went (Err r) l u h = refused-done r (ap answer_of h)

-- two loads that go on alike
pub onward-ext : (a : Answer) (l l' : Result Session Refusal) → (a ≡ Done → l ≡ l') → onward a l ≡ onward a l'
onward-ext (Ok _) l l' f = f refl
onward-ext (Err r) l l' f = refl

-- what a load gives
pub given-same : {t u : Session} → ◌≡◌ {A = Result Session Refusal} (Ok t) (Ok u) → t ≡ u
given-same {t} h = ap (λ (x : Result Session Refusal). given_or t x) h

-- ## What a `?` hands on

pub handed-on : {T : Type 0} {a x : Result T Refusal} {r : Refusal} → IsErrAnd a (λ y. y ≡ r) → Err r ≡ x → a ≡ x
handed-on {a = a} h q = let p = err_from_is_err_and a h in rw (p.1, p.2) q
