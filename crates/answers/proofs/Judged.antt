-- A list of pairs: the tests by numbers are those of the session's network, and what they come to is the verdict. Assumes nothing.
use mathlib.Core.Path.{◌≡◌, refl, sym, ap, ap₂, ◌∙◌}
use mathlib.Core.Bool.{Bool, true, false, not, cond, ◌&&◌}
use mathlib.Core.List.{List, [], ◌∷◌}
use Prim.Native.Nat.{ℕ, suc, ◌+◌, ◌-◌, ◌^◌, ◌≤◌}
use native.Mathlib.Omega.{arith}
use lib.Dec.{leb, ltb}
use lib.ListN.{length, get_or}
use borrow.Author.Tests.{eq-eqb, ne_eqb}
use Rattle.bits.specs.Bit.{bit}
use Rattle.bits.proofs.BitLaws.{bit-zero}
use Rattle.std.specs.Prelude.{Result, Ok, Err}
use Rattle.std.specs.Result.{MatchResult, IsErrAnd}
use Rattle.network.specs.Answer.{Answer, Done}
use Rattle.network.specs.declared.Session.{Session}
use Rattle.network.specs.declared.Refusal.{Refusal}
use Rattle.network.specs.declared.Refusal.TheVariants.{NotAGate, TableTooWide, ListsUnequal, GateRepeated}
use Rattle.network.specs.Bounds.{most_gates}
use Rattle.network.specs.Net.{is_gate, Replacement, replaced}
use Rattle.network.specs.Flat.{net_with, loaded_net, current_net, stored_all}
use Rattle.network.specs.Tests.{refuse_if, or_else, first, is_done, member}
use Rattle.network.specs.State.{state_fault, state_test}
use Rattle.network.specs.Calls.{gate_test, fits, table_test, harm_test, lengths_test, pairs, pair_test, pairs_test, refused_at, verdict_of}
use Rattle.network.proofs.TestLaws.{alone, handed-on}
use Rattle.network.proofs.Valid.{state-i}
use Rattle.network.proofs.Exchanges.{gate-e}
use Rattle.network.proofs.Lists.{sound-e}
use Rattle.network.proofs.Replaced.{replaced-all}
use Rattle.replacements.specs.declared.PairRefused.{PairRefused}
use Rattle.replacements.specs.Pair.{GatesIn, pair_by, pairs_by, refused_by}
use Rattle.replacements.proofs.Pairs.{pairs-in, stored-length}
use Rattle.answers.proofs.Named.{gate-is, bounded, fits-is}

-- ## By numbers, and by the session's network

-- 12 is asked only of a gate
same_tests : (a b a' b' again : Bool) → a ≡ b → (b ≡ true → a' ≡ b')
    → first (refuse_if (not a) NotAGate ∷ refuse_if again GateRepeated ∷ refuse_if (not a') TableTooWide ∷ [])
    ≡ first (refuse_if (not b) NotAGate ∷ refuse_if again GateRepeated ∷ refuse_if (not b') TableTooWide ∷ [])
same_tests a true a' b' again e f = rw (e, f refl)
same_tests a false a' b' again e f = rw e

module _ (s : Session) where
  pair_is : (named : List ℕ) (r : Replacement)
      → pair_by s.n s.m s.arity (member r.signal named) r.signal r.table ≡ pair_test (loaded_net s) named r
  unfolding pair_by pair_test gate_test table_test
  pair_is named r =
      same_tests (leb s.n r.signal && ltb r.signal (s.n + s.m)) (is_gate (loaded_net s) r.signal) (ltb r.table (2 ^ (2 ^ get_or s.arity (r.signal - s.n) 0))) (fits (loaded_net s) r) (member r.signal named)
      (sym (gate-is s r.signal)) (λ e. let b = gate-e s r.signal e in sym (fits-is s r b.0 b.1))

  pairs-are : (named : List ℕ) (rs : List Replacement) → pairs_by s.n s.m s.arity named rs ≡ pairs_test (loaded_net s) named rs
  pairs-are named [] = refl
  pairs-are named (r ∷ rs) = ap₂ or_else (pair_is named r) (pairs-are (r.signal ∷ named) rs)

  refused-by : (named : List ℕ) (rs : List Replacement) → refused_by s.n s.m s.arity named rs ≡ refused_at (loaded_net s) named rs
  refused-by named [] = refl
  refused-by named (r ∷ rs) = ap₂ (λ (a : Answer) (k : ℕ). cond (is_done a) (suc k) 0) (pair_is named r) (refused-by (r.signal ∷ named) rs)

  pub refused-is : (n m : ℕ) → n ≡ s.n → m ≡ s.m → (rs : List Replacement) → refused_by n m s.arity [] rs ≡ refused_at (loaded_net s) [] rs
  refused-is n m en em rs = rw (en, em) (refused-by [] rs)

  -- 11 and 12 are what is asked of a pair with none before it
  pub first-pair : (r : Replacement) (n m : ℕ) → n ≡ s.n → m ≡ s.m → state_fault s ≡ Done
      → pair_by n m s.arity (bit 0 r.signal) r.signal r.table ≡ first (state_test s ∷ gate_test (loaded_net s) r.signal ∷ table_test (loaded_net s) r ∷ [])
  unfolding pair_test
  first-pair r n m en em v = rw (en, em, bit-zero, state-i s v) (pair_is [] r)

-- ## The verdict

-- the answer alone of the tests of the pairs
pub answer-alone : (v : Result (Unit {0}) PairRefused) {r a : Answer} (k l : ℕ) → MatchResult v (λ x. r ≡ Ok x) (λ e. IsErrAnd r (λ f. f ≡ e.refusal))
    → MatchResult v (λ _. (Done ≡ a) × (l ≡ k)) (λ e. (Err e.refusal ≡ a) × (e.pair ≡ k)) → r ≡ a
answer-alone (Ok _) k l p t = p ∙ t.0
answer-alone (Err e) k l p t = handed-on p t.0

-- n and m are the session's counts
module _ (s : Session) (valid : state_fault s ≡ Done) (gs ts : List ℕ) where
  pub verdict-unequal : (length gs ≡ length ts → ⊥) → Err ListsUnequal ≡ verdict_of s gs ts
  unfolding verdict_of lengths_test
  verdict-unequal d = rw (state-i s valid, ne_eqb (length gs) (length ts) d)

  module _ (same : length gs ≡ length ts) (n m : ℕ) (en : n ≡ s.n) (em : m ≡ s.m) {a : Answer} (e : a ≡ pairs_by n m s.arity [] (pairs gs ts)) where
    answer-is : a ≡ pairs_test (loaded_net s) [] (pairs gs ts)
    answer-is = e ∙ rw (en, em) (pairs-are s [] (pairs gs ts))

    pub verdict-refused : {f : Refusal} → a ≡ Err f → Err f ≡ verdict_of s gs ts
    unfolding verdict_of lengths_test
    verdict-refused k = rw (state-i s valid, eq-eqb (length gs) (length ts) same, sym answer-is ∙ k)

    -- each gate's table has a place
    pub gates-placed : a ≡ Done → GatesIn n most_gates gs
    gates-placed k i h =
        let b = pairs-in n m s.arity [] gs ts same (sym e ∙ k) i h in
        (b.0, omega (arith, b.1, (bounded s n m en em valid).1))

    pub verdict-judged : a ≡ Done → (all : List ℕ) → all ≡ stored_all n (pairs gs ts) s.current → length all ≡ most_gates
        → harm_test (loaded_net s) (net_with s all) ≡ verdict_of s gs ts
    unfolding verdict_of lengths_test current_net
    verdict-judged k all q l =
        let sound = sound-e (loaded_net s) [] (pairs gs ts) (sym answer-is ∙ k) in
        let room : s.m ≤ length s.current = omega (arith, (bounded s s.n s.m refl refl valid).1, l, ap {B = ℕ} (λ (x : List ℕ). length x) q, stored-length n (pairs gs ts) s.current) in
        rw (state-i s valid, eq-eqb (length gs) (length ts) same, sym answer-is ∙ k, q, en)
        (ap (harm_test (loaded_net s)) (sym (replaced-all s [] (pairs gs ts) s.current room sound)) ∙ alone (harm_test (loaded_net s) (replaced (net_with s s.current) (pairs gs ts))))
