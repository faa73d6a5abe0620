-- The refusals of the tests 3 to 7, the steps of a loop over a row of tests, and the tests of a gate and of a session. Assumes nothing.
use mathlib.Core.Path.{◌≡◌, refl, sym, ap, ◌∙◌}
use mathlib.Core.Bool.{true, false, not}
use mathlib.Core.List.{List, [], ◌∷◌, ◌++◌, map}
use Prim.Native.Nat.{ℕ, zero, suc, ◌+◌, ◌-◌, ◌*◌, ◌^◌, ◌≤◌, ◌<◌}
use native.Mathlib.Nat.{sub-zero, lt_of_lt_of_le, pow-le-pow_right}
use native.Mathlib.Omega.{arith}
use lib.Dec.{ltb}
use lib.ListN.{length, get_or, take, drop, length-drop}
use lib.Seq.{take-suc, take_all, get_or-drop}
use borrow.Author.Tests.{lt-ltb, le-ltb, le-leb, lt-leb}
use Rattle.bits.specs.Bounds.{most_inputs, gate_places}
use Rattle.bits.specs.Range.{places, up_from}
use Rattle.bits.proofs.Ranges.{places-ext}
use Rattle.std.specs.Prelude.{Ok, Err}
use Rattle.network.specs.Answer.{Answer, Done}
use Rattle.network.specs.declared.Session.{Session}
use Rattle.network.specs.declared.Refusal.{Refusal}
use Rattle.network.specs.declared.Refusal.TheVariants.{OutOfBounds, FaninNotEarlier, FaninRepeated}
use Rattle.network.specs.Bounds.{most_gates, most_outputs, most_fanins, fanin_places}
use Rattle.network.specs.Tests.{refuse_if, or_else, first, count_test, range_test, member, fanin_test, fanins_test, width_test, excluded_test}
use Rattle.network.specs.State.{arity_of, gate_fault, output_fault, state_fault}
use Rattle.network.proofs.TestLaws.{clear-e, count-e}

-- ## One test

-- a test that asks for a below b
pub past : (r : Refusal) (a b : ℕ) → b ≤ a → Err r ≡ refuse_if (not (ltb a b)) r
past r a b h = rw (le-ltb a b h)

pub range-low : (least most x : ℕ) → x < least → Err OutOfBounds ≡ range_test least most x
range-low least most x l = rw (lt-leb least x l)

pub range-high : (least most x : ℕ) → least ≤ x → most < x → Err OutOfBounds ≡ range_test least most x
range-high least most x l h = rw (le-leb least x l, lt-leb x most h)

-- no word has a bit past its 64
pub wide : (bits x : ℕ) → x < 2 ^ 64 → 64 ≤ bits → x < 2 ^ bits
wide bits x h l = lt_of_lt_of_le h (pow-le-pow_right {n = 2} (omega arith) {i = 64} {j = bits} l)

-- ## Fan-ins

module _ (limit : ℕ) (fs : List ℕ) (j : ℕ) where
  pub fanin-late : limit ≤ get_or fs j 0 → Err FaninNotEarlier ≡ fanin_test limit fs j
  unfolding fanin_test
  fanin-late h = rw (le-ltb (get_or fs j 0) limit h)

  pub fanin-twice : get_or fs j 0 < limit → member (get_or fs j 0) (take (j - 0) fs) ≡ true → Err FaninRepeated ≡ fanin_test limit fs j
  unfolding fanin_test
  fanin-twice h m = rw (lt-ltb (get_or fs j 0) limit h, rw sub-zero at m)

  pub fanin-fine : get_or fs j 0 < limit → member (get_or fs j 0) (take (j - 0) fs) ≡ false → Done ≡ fanin_test limit fs j
  unfolding fanin_test
  fanin-fine h m = rw (lt-ltb (get_or fs j 0) limit h, rw sub-zero at m)

-- ## A row of tests, from e on

module _ (p : ℕ → Answer) (e n : ℕ) where
  step : e < n → first (map p (up_from e (n - e))) ≡ or_else (p e) (first (map p (up_from (e + 1) (n - (e + 1)))))
  step h = let q : n - e ≡ suc (n - (e + 1)) = omega arith in rw q

  pub row-refused : {a : Answer} {r : Refusal} → e < n → a ≡ p e → a ≡ Err r → Err r ≡ first (map p (up_from e (n - e)))
  row-refused h q k = rw (step h, sym q ∙ k)

  pub row-passed : {a : Answer} → e < n → a ≡ p e → a ≡ Done → first (map p (up_from (e + 1) (n - (e + 1)))) ≡ first (map p (up_from e (n - e)))
  row-passed h q k = rw (step h, sym q ∙ k)

  pub row-ended : n ≤ e → Done ≡ first (map p (up_from e (n - e)))
  row-ended h = let q : n - e ≡ 0 = omega arith in rw q

-- ## Tests one after the other

pub or-refused : {a b : Answer} {r : Refusal} (x : Answer) → a ≡ b → a ≡ Err r → Err r ≡ or_else b x
or-refused x q k = rw (sym q ∙ k)

pub or-passed : {a b : Answer} (x : Answer) → a ≡ b → a ≡ Done → x ≡ or_else b x
or-passed x q k = rw (sym q ∙ k)

pub or-last : {a : Answer} (b : Answer) → a ≡ b → a ≡ or_else b Done
or-last (Ok _) q = q
or-last (Err r) q = q

joined : (tests more : List Answer) → or_else (first tests) (first more) ≡ first (tests ++ more)
joined [] more = refl
joined ((Ok _) ∷ tests) more = joined tests more
joined (Err r ∷ tests) more = refl

-- ## A gate

-- a count that passes is small
pub few : {a : Answer} (most x : ℕ) → a ≡ count_test most x → a ≡ Done → x ≤ most
few most x q k = (count-e most x (sym q ∙ k)).1

-- the first k of a list, by their places
opening : (l : List ℕ) (k : ℕ) → k ≤ length l → take k l ≡ places k (λ i. get_or l i 0)
opening l zero h = refl
opening l (suc k) h = take-suc l k 0 h ∙ ap (λ (f : List ℕ). f ++ get_or l k 0 ∷ []) (opening l k (omega arith))

-- the test of k fan-ins that open a list
pub fanins-open : {a b : Answer} (limit k : ℕ) (l : List ℕ) → most_fanins ≤ length l → a ≡ count_test most_fanins k → a ≡ Done
    → b ≡ fanins_test limit (take (k - 0) l) → b ≡ fanins_test limit (places k (λ i. get_or l i 0))
fanins-open limit k l h q d e = let f = few most_fanins k q d in e ∙ rw (sub-zero k, opening l k (omega arith))

-- the fan-ins of gate g, lent from their first place on
module _ (s : Session) (g : ℕ) (long : length s.fanins ≡ fanin_places) where
  lent : take (fanin_places - gate_places * g) (drop (gate_places * g) s.fanins) ≡ drop (gate_places * g) s.fanins
  lent = take_all (fanin_places - gate_places * g) (drop (gate_places * g) s.fanins) (simp length-drop (omega arith))

  pub gate-room : g < most_gates → most_fanins ≤ length (take (fanin_places - gate_places * g) (drop (gate_places * g) s.fanins))
  gate-room h = rw lent (simp length-drop (omega arith))

  pub gate-parts : {a : Answer} →
      a
      ≡ first
      (count_test most_fanins (arity_of s g)
      ∷ fanins_test (s.n + g) (places (arity_of s g) (λ i. get_or (take (fanin_places - gate_places * g) (drop (gate_places * g) s.fanins)) i 0))
      ∷ width_test (2 ^ arity_of s g) (get_or s.loaded g 0)
      ∷ width_test (2 ^ arity_of s g) (get_or s.current g 0)
      ∷ [])
      → a ≡ gate_fault s g
  unfolding gate_fault
  gate-parts q =
      let fs = s.fanins in
      q ∙ rw (lent, places-ext (arity_of s g) (λ i. get_or (drop (gate_places * g) fs) i 0) (λ i. get_or fs (gate_places * g + i) 0) (λ i h. get_or-drop (gate_places * g) fs i 0))

-- ## A session

module _ (s : Session) where
  abbrev counts : List Answer
  counts = count_test most_inputs s.n ∷ count_test most_gates s.m ∷ count_test most_outputs s.p ∷ []

  abbrev others : List Answer
  others = excluded_test s.n s.excluded ∷ first (map (gate_fault s) (up_from 0 s.m)) ∷ first (map (output_fault s) (up_from 0 s.p)) ∷ []

  pub in-turn : or_else (first counts) (first others) ≡ state_fault s
  unfolding state_fault
  in-turn = joined counts others

  pub few-counts : {a : Answer} → a ≡ first counts → a ≡ Done → (s.n ≤ most_inputs) × (s.m ≤ most_gates) × (s.p ≤ most_outputs)
  few-counts q k =
      let t = clear-e counts (sym q ∙ k) in
      (few most_inputs s.n refl t.0, few most_gates s.m refl t.1.0, few most_outputs s.p refl t.1.1.0)
