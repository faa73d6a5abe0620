-- The networks that a session holds in flat arrays, and sets of patterns as words: 01, 'A session holds both' and 'Pattern sets'.
-- Assumes nothing.
use Rattle.std.specs.Prelude.{Bool, ◌&&◌, List, [], ◌∷◌, ℕ, ◌+◌, ◌-◌, ◌*◌, ◌^◌, ltb, get_or, set}
use Rattle.bits.specs.Bounds.{gate_places}
use Rattle.bits.specs.Range.{places}
use Rattle.bits.specs.Bit.{table_of}
use Rattle.bits.specs.Cut.{word_count}
use Rattle.network.specs.declared.Session.{Session}
use Rattle.network.specs.Net.{Gate, Net, Replacement}

-- gate g has its k fan-ins at places gate_places g and on
abbrev pub fanins_at : (arity fanins : List ℕ) → ℕ → List ℕ
fanins_at ks fs g = places (get_or ks g 0) (λ r. get_or fs (gate_places * g + r) 0)

module _ (ks fs ts : List ℕ) where
  unfoldable pub gate_at : ℕ → Gate
  gate_at g = record { fanins = fanins_at ks fs g; table = get_or ts g 0 }

  unfoldable pub gates_of : ℕ → List Gate
  gates_of m = places m gate_at

  -- n inputs, m gates, the excluded set ex, and the first p of outs as outputs
  unfoldable pub net_of : (n m : ℕ) (ex outs : List ℕ) (p : ℕ) → Net
  net_of n m ex outs p = record { inputs = n; excluded = ex; gates = gates_of m; outputs = places p (λ i. get_or outs i 0) }

-- a session's network with the tables ts
abbrev pub net_with : Session → List ℕ → Net
net_with s ts = net_of s.arity s.fanins ts s.n s.m s.excluded s.outputs s.p

unfoldable pub loaded_net : Session → Net
loaded_net s = net_with s s.loaded

unfoldable pub current_net : Session → Net
current_net s = net_with s s.current

-- the tables ts of the gates behind n inputs, with those of a list of replacements stored one after the other
abbrev pub stored_all : (n : ℕ) → List Replacement → (ts : List ℕ) → List ℕ
stored_all n [] ts = ts
stored_all n (r ∷ rs) ts = stored_all n rs (set ts (r.signal - n) r.table)

-- ## A set of patterns below 2^n as words of 64

-- word w of the set p: bit b is set where the set holds 64 w + b; spare bits are zero
unfoldable pub word_of : ℕ → (ℕ → Bool) → ℕ → ℕ
word_of n p w = table_of 64 (λ b. ltb (w * 64 + b) (2 ^ n) && p (w * 64 + b))

unfoldable pub words_of : ℕ → (ℕ → Bool) → List ℕ
words_of n p = places (word_count n) (word_of n p)
