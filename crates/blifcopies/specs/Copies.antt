-- The copying gates in flat arrays. Assumes nothing.
use Rattle.std.specs.Prelude.{Bool, cond, ◌||◌, List, [], ◌∷◌, ℕ, zero, suc, ◌+◌, ltb, get_or, take, replicate}
use Rattle.network.specs.declared.Session.{Session}
use Rattle.network.specs.Bounds.{excluded_words}
use Rattle.network.specs.Tests.{member}
use Rattle.network.specs.Load.{with_gate, with_output, with_excluded}
use Rattle.blif.specs.Read.{counted}

-- output i is driven by one of n inputs, or repeats an earlier one
unfoldable pub copy_due : (n : ℕ) (outs : List ℕ) → ℕ → Bool
copy_due n outs i = ltb (get_or outs i 0) n || member (get_or outs i 0) (take i outs)

-- with nothing excluded
abbrev pub freed : Session → Session
freed s = with_excluded s (replicate excluded_words 0)

-- one gate more: it copies signal x and drives output i
unfoldable pub with_copy : Session → (i x : ℕ) → Session
with_copy t i x = counted (with_output (with_gate t t.m 1 (x ∷ []) 2) i (t.n + t.m)) (t.m + 1)

-- with the copy for output i, where one is due
unfoldable pub copied : Session → (outs : List ℕ) → ℕ → Session
copied t outs i = cond (copy_due t.n outs i) (with_copy t i (get_or outs i 0)) t

-- with the copies for the first i outputs
abbrev pub grown : Session → ℕ → Session
grown t zero = t
grown t (suc i) = copied (grown t i) t.outputs i
