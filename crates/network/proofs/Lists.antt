-- Lists of pairs: which of them the tests of the pairs pass, which pair decides else, and the verdict on two lists as one on pairs.
-- Assumes nothing.
use mathlib.Core.Path.{◌≡◌, refl, sym, ap, ap₂, ◌∙◌}
use mathlib.Core.Logic.{◌↔◌}
use mathlib.Core.Bool.{Bool, true, false, not, ◌||◌}
use mathlib.Core.List.{List, [], ◌∷◌, ◌++◌}
use Prim.Native.Nat.{ℕ, zero, suc, ◌+◌, ◌-◌, ◌<◌, ◌≤◌}
use native.Mathlib.Nat.{not-suc-le-zero}
use native.Mathlib.Omega.{arith}
use lib.Dec.{eqb}
use lib.ListN.{length, get_or}
use borrow.Author.Tests.{eq-eqb, ne_eqb}
use Rattle.bits.specs.Range.{num, count}
use Rattle.bits.proofs.Ranges.{or_comm, lt-cases}
use Rattle.bits.proofs.Cuts.{count-ext, count-le}
use Rattle.bits.proofs.Logic.{clash}
use Rattle.network.specs.declared.Session.{Session}
use Rattle.network.specs.declared.Refusal.{Refusal}
use Rattle.network.specs.declared.Refusal.TheVariants.{NotAGate, TableTooWide, GateRepeated}
use Rattle.network.specs.Answer.{Answer}
use Rattle.network.specs.Answer.{Done}
use Rattle.std.specs.Prelude.{Ok, Err}
use Rattle.network.specs.Net.{Net, is_gate, Replacement, signals, new_tables, replaced}
use Rattle.network.specs.Flat.{loaded_net, current_net}
use Rattle.network.specs.Refusals.{said}
use Rattle.network.specs.Tests.{refuse_if, or_else, first, member}
use Rattle.network.specs.State.{state_test}
use Rattle.network.specs.Calls.{gate_test, fits, table_test, harm_test, lengths_test, pairs, pair_test, pairs_test, verdict_of, verdict_on}
use Rattle.network.specs.Lists.{Sound, PairExactOf, JudgedOf, FaultedOf, FewOf, ListedOf, UnequalOf, LoneOf}
use Rattle.network.proofs.Earlier.{gate-bounds}
use Rattle.network.proofs.TestLaws.{refused-done, passed, kept, both, clear-e, alone}

-- ## Pairs, and two lists

pub pairs-back : (rs : List Replacement) → pairs (signals rs) (new_tables rs) ≡ rs
pairs-back [] = refl
pairs-back (r ∷ rs) = ap (λ (l : List Replacement). r ∷ l) (pairs-back rs)

as_long : (rs : List Replacement) → length (signals rs) ≡ length (new_tables rs)
as_long [] = refl
as_long (r ∷ rs) = ap suc (as_long rs)

pub lengths-fine : (rs : List Replacement) → lengths_test (signals rs) (new_tables rs) ≡ Done
unfolding lengths_test
lengths-fine rs = rw (eq-eqb (length (signals rs)) (length (new_tables rs)) (as_long rs))

pub signals-back : (gs ts : List ℕ) → length gs ≡ length ts → signals (pairs gs ts) ≡ gs
signals-back [] ts e = refl
signals-back (g ∷ gs) [] e = let z : ⊥ = omega arith in absurd z
signals-back (g ∷ gs) (t ∷ ts) e = ap (λ (l : List ℕ). g ∷ l) (signals-back gs ts (omega arith))

pub tables-back : (gs ts : List ℕ) → length gs ≡ length ts → new_tables (pairs gs ts) ≡ ts
tables-back [] [] e = refl
tables-back [] (t ∷ ts) e = let z : ⊥ = omega arith in absurd z
tables-back (g ∷ gs) [] e = let z : ⊥ = omega arith in absurd z
tables-back (g ∷ gs) (t ∷ ts) e = ap (λ (l : List ℕ). t ∷ l) (tables-back gs ts (omega arith))

pub listed_of : ListedOf
listed_of s gs ts e = sym (ap₂ (verdict_of s) (signals-back gs ts e) (tables-back gs ts e))

pub unequal-of : UnequalOf
unfolding verdict_of lengths_test
unequal-of s gs ts d v = rw (v, ne_eqb (length gs) (length ts) d)

pub lone_of : LoneOf
unfolding verdict_of lengths_test pair_test
lone_of s r = go (state_test s) (gate_test (loaded_net s) r.signal) (table_test (loaded_net s) r) (harm_test (loaded_net s) (replaced (current_net s) (r ∷ [])))
  where
    go : (a b c d : Answer) → first (a ∷ Done ∷ or_else (first (b ∷ Done ∷ c ∷ [])) Done ∷ d ∷ []) ≡ first (a ∷ b ∷ c ∷ d ∷ [])
    go (Err f) b c d = refl
    go (Ok _) (Err f) c d = refl
    go (Ok _) (Ok _) (Err f) d = refl
    go (Ok _) (Ok _) (Ok _) d = refl

-- ## One pair: is it a gate, is it named, does its table fit

abbrev told : (gate named fit : Bool) → List ℕ
told a b c = said (first (refuse_if (not a) NotAGate ∷ refuse_if b GateRepeated ∷ refuse_if (not c) TableTooWide ∷ []))

head : {l k : List ℕ} → l ≡ k → get_or l 0 0 ≡ get_or k 0 0
head e = ap {B = ℕ} (λ (l : List ℕ). get_or l 0 0) e

no-gate : (a b c : Bool) → (told a b c ≡ 11 ∷ []) ↔ (a ≡ false)
no-gate false b c = (λ e. refl, λ e. refl)
no-gate true true c = (λ e. absurd (omega (arith, head e)), λ e. clash refl e)
no-gate true false false = (λ e. absurd (omega (arith, head e)), λ e. clash refl e)
no-gate true false true = (λ e. absurd (omega (arith, head e)), λ e. clash refl e)

repeated : (a b c : Bool) → (told a b c ≡ 16 ∷ []) ↔ ((a ≡ true) × (b ≡ true))
repeated false b c = (λ e. absurd (omega (arith, head e)), λ e. clash e.0 refl)
repeated true true c = (λ e. (refl, refl), λ e. refl)
repeated true false false = (λ e. absurd (omega (arith, head e)), λ e. clash e.1 refl)
repeated true false true = (λ e. absurd (omega (arith, head e)), λ e. clash e.1 refl)

too_wide : (a b c : Bool) → (told a b c ≡ 12 ∷ []) ↔ ((a ≡ true) × (b ≡ false) × (c ≡ false))
too_wide false b c = (λ e. absurd (omega (arith, head e)), λ e. clash e.0 refl)
too_wide true true c = (λ e. absurd (omega (arith, head e)), λ e. clash refl e.1)
too_wide true false false = (λ e. (refl, refl, refl), λ e. refl)
too_wide true false true = (λ e. absurd (omega (arith, head e)), λ e. clash refl e.2)

pub pair-exact-of : PairExactOf
unfolding pair_test gate_test table_test
pair-exact-of N named r =
    let a = is_gate N r.signal in
    let b = member r.signal named in
    let c = fits N r in
    record { no_gate = no-gate a b c; repeated = repeated a b c; too_wide = too_wide a b c }

-- ## Sound lists, and the first pair at fault

module _ (N : Net) where
  pub sound-i : (named : List ℕ) (rs : List Replacement) → Sound N named rs → pairs_test N named rs ≡ Done
  unfolding pair_test gate_test table_test
  sound-i named [] a = refl
  sound-i named (r ∷ rs) a = rw (a.0, a.1, a.2) (sound-i (r.signal ∷ named) rs a.3)

  -- of one pair
  pair-e : (named : List ℕ) (r : Replacement) → pair_test N named r ≡ Done → (is_gate N r.signal ≡ true) × (member r.signal named ≡ false) × (fits N r ≡ true)
  unfolding pair_test gate_test table_test
  pair-e named r e =
      let c = clear-e (gate_test N r.signal ∷ refuse_if (member r.signal named) GateRepeated ∷ table_test N r ∷ []) e in
      (kept (is_gate N r.signal) NotAGate c.0, passed (member r.signal named) GateRepeated c.1.0, kept (fits N r) TableTooWide c.1.1.0)

  pub sound-e : (named : List ℕ) (rs : List Replacement) → pairs_test N named rs ≡ Done → Sound N named rs
  sound-e named [] e = tt
  sound-e named (r ∷ rs) e =
      let b = both (pair_test N named r) (pairs_test N (r.signal ∷ named) rs) e in
      let p = pair-e named r b.0 in
      (p.0, p.1, p.2, sound-e (r.signal ∷ named) rs b.1)

  -- the gates that are named once a list is taken too
  abbrev onto : (named : List ℕ) → List Replacement → List ℕ
  onto named [] = named
  onto named (r ∷ rs) = onto (r.signal ∷ named) rs

  either : (a b c : Bool) → a || (b || c) ≡ (b || a) || c
  either true true c = refl
  either true false c = refl
  either false true c = refl
  either false false c = refl

  onto-member : (k : ℕ) (named : List ℕ) (rs : List Replacement) → member k (onto named rs) ≡ member k (signals rs) || member k named
  onto-member k named [] = refl
  onto-member k named (r ∷ rs) = onto-member k (r.signal ∷ named) rs ∙ either (member k (signals rs)) (eqb r.signal k) (member k named)

  -- a pair sees only whether its gate is named
  same_names : (before : List Replacement) (r : Replacement) → pair_test N (onto [] before) r ≡ pair_test N (signals before) r
  unfolding pair_test
  same_names before r =
      ap (λ (b : Bool). first (gate_test N r.signal ∷ refuse_if b GateRepeated ∷ table_test N r ∷ []))
      (onto-member r.signal [] before ∙ or_comm (member r.signal (signals before)) false)

  -- where those of `named` are named before
  record Fault (named : List ℕ) (rs : List Replacement) (f : Refusal) : Type 0 where
    before : List Replacement
    fault : Replacement
    behind : List Replacement
    whole : rs ≡ before ++ fault ∷ behind
    sound : Sound N named before
    refused : pair_test N (onto named before) fault ≡ Err f

  fault-e : (f : Refusal) (named : List ℕ) (rs : List Replacement) → pairs_test N named rs ≡ Err f → Fault named rs f
  fault-e f named [] e = refused-done f (sym e)
  fault-e f named (r ∷ rs) e = go (pair_test N named r) refl (fault-e f (r.signal ∷ named) rs) e
    where
      go : (a : Answer) → pair_test N named r ≡ a → (pairs_test N (r.signal ∷ named) rs ≡ Err f → Fault (r.signal ∷ named) rs f)
          → or_else a (pairs_test N (r.signal ∷ named) rs) ≡ Err f → Fault named (r ∷ rs) f
      go (Ok _) k next e =
          let p = pair-e named r k in
          let w = next e in
          record {
            before = r ∷ w.before;
            fault = w.fault;
            behind = w.behind;
            whole = ap (λ (l : List Replacement). r ∷ l) w.whole;
            sound = (p.0, p.1, p.2, w.sound);
            refused = w.refused;
          }
      go (Err g) k next e = record { before = []; fault = r; behind = rs; whole = refl; sound = tt; refused = k ∙ e }

  -- a sound list hands the test on to what stands behind it
  sound-append : (named : List ℕ) (before behind : List Replacement) → Sound N named before → pairs_test N named (before ++ behind) ≡ pairs_test N (onto named before) behind
  unfolding pair_test gate_test table_test
  sound-append named [] behind a = refl
  sound-append named (r ∷ rs) behind a = rw (a.0, a.1, a.2) (sound-append (r.signal ∷ named) rs behind a.3)

-- a verdict on a sound list is the search for harm
pub verdict-is : (s : Session) (rs : List Replacement) → state_test s ≡ Done → Sound (loaded_net s) [] rs
    → verdict_on s rs ≡ harm_test (loaded_net s) (replaced (current_net s) rs)
unfolding verdict_of
verdict-is s rs v a = rw (v, lengths-fine rs, pairs-back rs, sound-i (loaded_net s) [] rs a) (sym (alone (harm_test (loaded_net s) (replaced (current_net s) rs))))

pub judged-of : JudgedOf
judged-of N rs = (sound-e N [] rs, sound-i N [] rs)

pub faulted-of : FaultedOf
faulted-of N rs f = (
  λ e. let w = fault-e N f [] rs e in
      record {
        before = w.before;
        fault = w.fault;
        behind = w.behind;
        whole = w.whole;
        sound = w.sound;
        refused = sym (same_names N w.before w.fault) ∙ w.refused;
      },
  λ w. ap (pairs_test N []) w.whole ∙ sound-append N [] w.before (w.fault ∷ w.behind) w.sound
      ∙ ap (λ (a : Answer). or_else a (pairs_test N (w.fault.signal ∷ onto N [] w.before) w.behind)) (same_names N w.before w.fault ∙ w.refused),
)

-- ## No more pairs than gates

-- one number more passes the test
count-more : (m g : ℕ) (p q : ℕ → Bool) → g < m → p g ≡ false → q g ≡ true → ((k : ℕ) → (k ≡ g → ⊥) → q k ≡ p k) → count m q ≡ suc (count m p)
count-more zero g p q h a b other = absurd (not-suc-le-zero h)
count-more (suc m) g p q h a b other =
    lt-cases g m h
    (λ l.
    let rest : count m q ≡ suc (count m p) = count-more m g p q l a b other in
    let last : num (q m) ≡ num (p m) = ap num (other m (λ e. absurd (omega arith))) in
    omega (arith, rest, last))
    (λ e.
    let old : count m q ≡ count m p = count-ext m q p (λ i l. other i (λ d. absurd (omega arith))) in
    let new : num (q m) ≡ 1 = ap num (ap q (sym e) ∙ b) in
    let was : num (p m) ≡ 0 = ap num (ap p (sym e) ∙ a) in
    omega (arith, old, new, was))

module _ (N : Net) where
  abbrev m : ℕ
  m = length N.gates

  abbrev named-gates : List ℕ → ℕ → Bool
  named-gates named g = member (N.inputs + g) named

  few : (named : List ℕ) (rs : List Replacement) → Sound N named rs → length rs + count m (named-gates named) ≤ m
  few named [] s = omega (arith, count-le m (named-gates named))
  few named (r ∷ rs) s =
      let b = gate-bounds N r.signal s.0 in
      let g = r.signal - N.inputs in
      let back : N.inputs + g ≡ r.signal = omega arith in
      let more : count m (named-gates (r.signal ∷ named)) ≡ suc (count m (named-gates named)) =
      count-more m g (named-gates named) (named-gates (r.signal ∷ named)) (omega arith)
      (ap (λ (k : ℕ). member k named) back ∙ s.1)
      (ap (λ (b : Bool). b || named-gates named g) (eq-eqb r.signal (N.inputs + g) (sym back)))
      (λ k d. ap (λ (b : Bool). b || named-gates named k) (ne_eqb r.signal (N.inputs + k) (λ e. d (omega arith)))) in
      omega (arith, few (r.signal ∷ named) rs s.3, more)

pub few-of : FewOf
few-of N rs s = let f = few N [] rs s in omega (arith, f)
