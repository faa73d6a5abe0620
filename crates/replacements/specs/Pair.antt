-- The tests of pairs by numbers, as loops over two lists meet them. Assumes nothing.
use Rattle.std.specs.Prelude.{Bool, not, cond, ◌&&◌, List, [], ◌∷◌, ℕ, suc, ◌+◌, ◌-◌, ◌^◌, ◌<◌, ◌≤◌, leb, ltb, length, get_or}
use Rattle.bits.specs.Bounds.{most_inputs}
use Rattle.network.specs.Answer.{Answer, Done}
use Rattle.network.specs.declared.Refusal.TheVariants.{NotAGate, TableTooWide, GateRepeated}
use Rattle.network.specs.Bounds.{most_gates, most_fanins}
use Rattle.network.specs.Net.{Replacement}
use Rattle.network.specs.Tests.{refuse_if, or_else, first, is_done, member}

-- 01's bounds on a network's counts and arities
abbrev pub Bounded : (n m : ℕ) (arity : List ℕ) → Type 0
Bounded n m ks = (n ≤ most_inputs) × (m ≤ most_gates) × ((g : ℕ) → g < m → get_or ks g 0 ≤ most_fanins)

-- each signal of the list is one of the m that stand behind n
abbrev pub GatesIn : (n m : ℕ) → List ℕ → Type 0
GatesIn n m gs = (i : ℕ) → i < length gs → (n ≤ get_or gs i 0) × (get_or gs i 0 < n + m)

-- 11, then 16 where the gate is named already, then 12
unfoldable pub pair_by : (n m : ℕ) (arity : List ℕ) (again : Bool) (gate table : ℕ) → Answer
pair_by n m ks again g t =
    first (refuse_if (not (leb n g && ltb g (n + m))) NotAGate ∷ refuse_if again GateRepeated ∷ refuse_if (not (ltb t (2 ^ (2 ^ get_or ks (g - n) 0)))) TableTooWide ∷ [])

-- the pairs in order
abbrev pub pairs_by : (n m : ℕ) (arity named : List ℕ) → List Replacement → Answer
pairs_by n m ks named [] = Done
pairs_by n m ks named (r ∷ rs) = or_else (pair_by n m ks (member r.signal named) r.signal r.table) (pairs_by n m ks (r.signal ∷ named) rs)

-- how many pairs stand before the first that is refused
abbrev pub refused_by : (n m : ℕ) (arity named : List ℕ) → List Replacement → ℕ
refused_by n m ks named [] = 0
refused_by n m ks named (r ∷ rs) = cond (is_done (pair_by n m ks (member r.signal named) r.signal r.table)) (suc (refused_by n m ks (r.signal ∷ named) rs)) 0
