-- What is promised of a list of gates on one verdict: which lists are judged, which pair of the others decides, and that nothing is lost
-- by speaking of pairs. Assumes nothing.
use Rattle.std.specs.Prelude.{◌≡◌, ◌↔◌, true, false, List, [], ◌∷◌, ◌++◌, ℕ, ◌≤◌, length}
use Rattle.network.specs.declared.Session.{Session}
use Rattle.network.specs.declared.Refusal.{Refusal}
use Rattle.network.specs.Answer.{Done}
use Rattle.std.specs.Prelude.{Err}
use Rattle.network.specs.Net.{Net, is_gate, Replacement, signals, replaced}
use Rattle.network.specs.Flat.{loaded_net, current_net}
use Rattle.network.specs.Refusals.{said}
use Rattle.network.specs.Tests.{first, member}
use Rattle.network.specs.State.{state_test}
use Rattle.network.specs.Calls.{gate_test, fits, table_test, harm_test, pairs, pair_test, pairs_test, verdict_of, verdict_on}

-- each pair names a gate that no earlier one names, with a table that fits it
abbrev pub Sound : Net → (named : List ℕ) → List Replacement → Type 0
Sound N named [] = Unit {0}
Sound N named (r ∷ rs) = (is_gate N r.signal ≡ true) × (member r.signal named ≡ false) × (fits N r ≡ true) × Sound N (r.signal ∷ named) rs

-- each refusal of a pair, in 01's numbers, has exactly its cause; named are the gates of the pairs before it
pub record PairExact (N : Net) (named : List ℕ) (r : Replacement) : Type 0 where
  pub no_gate : (said (pair_test N named r) ≡ 11 ∷ []) ↔ (is_gate N r.signal ≡ false)
  pub repeated : (said (pair_test N named r) ≡ 16 ∷ []) ↔ ((is_gate N r.signal ≡ true) × (member r.signal named ≡ true))
  pub too_wide : (said (pair_test N named r) ≡ 12 ∷ []) ↔ ((is_gate N r.signal ≡ true) × (member r.signal named ≡ false) × (fits N r ≡ false))

abbrev pub PairExactOf : Type 0
PairExactOf = (N : Net) (named : List ℕ) (r : Replacement) → PairExact N named r

-- 11, 16 and 12 pass exactly these lists
abbrev pub JudgedOf : Type 0
JudgedOf = (N : Net) (rs : List Replacement) → (pairs_test N [] rs ≡ Done) ↔ Sound N [] rs

-- the first pair at fault decides: those before it are sound, and f is what is said of it behind them
pub record FirstFault (N : Net) (rs : List Replacement) (f : Refusal) : Type 0 where
  pub before : List Replacement
  pub fault : Replacement
  pub behind : List Replacement
  pub whole : rs ≡ before ++ fault ∷ behind
  pub sound : Sound N [] before
  pub refused : pair_test N (signals before) fault ≡ Err f

abbrev pub FaultedOf : Type 0
FaultedOf = (N : Net) (rs : List Replacement) (f : Refusal) → (pairs_test N [] rs ≡ Err f) ↔ FirstFault N rs f

-- a list that is judged names all gates at the most
abbrev pub FewOf : Type 0
FewOf = (N : Net) (rs : List Replacement) → Sound N [] rs → length rs ≤ length N.gates

-- two lists of one length are a list of pairs
abbrev pub ListedOf : Type 0
ListedOf = (s : Session) (gs ts : List ℕ) → length gs ≡ length ts → verdict_of s gs ts ≡ verdict_on s (pairs gs ts)

-- and of others 15 is said, in a state that 10 does not refuse
abbrev pub UnequalOf : Type 0
UnequalOf = (s : Session) (gs ts : List ℕ) → (length gs ≡ length ts → ⊥) → state_test s ≡ Done → said (verdict_of s gs ts) ≡ 15 ∷ []

-- the verdict on one gate is the one of 01: the first of 10, 11, 12 and 14 that applies
abbrev pub LoneOf : Type 0
LoneOf = (s : Session) (r : Replacement)
    → verdict_on s (r ∷ []) ≡ first (state_test s ∷ gate_test (loaded_net s) r.signal ∷ table_test (loaded_net s) r ∷ harm_test (loaded_net s) (replaced (current_net s) (r ∷ [])) ∷ [])
