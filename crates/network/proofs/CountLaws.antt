-- The counts of the compatible sets: where each stands, and how large they are, of every network and within 01's bounds. Assumes nothing.
use mathlib.Core.Path.{◌≡◌}
use Prim.Native.Nat.{ℕ, zero, suc, ◌+◌, ◌*◌, ◌≤◌, ◌<◌}
use native.Mathlib.Nat.{le_trans, add-le-add, mul-le-mul, suc-mul}
use native.Mathlib.Omega.{arith}
use lib.Pow.{pow_mono}
use lib.ListN.{get_or}
use Rattle.bits.specs.Bounds.{most_inputs}
use Rattle.bits.proofs.Cuts.{count-le}
use Rattle.network.specs.declared.Session.{Session}
use Rattle.network.specs.Answer.{Done}
use Rattle.network.specs.Bounds.{most_gates}
use Rattle.network.specs.Net.{Net, patterns}
use Rattle.network.specs.Compatible.{compatible, compatible_count, compatible_total}
use Rattle.network.specs.Flat.{loaded_net, net_of}
use Rattle.network.specs.State.{state_test}
use Rattle.network.specs.Calls.{pattern_counts}
use Rattle.network.proofs.FlatGates.{per-gate-at}
use Rattle.network.proofs.Valid.{state-e, net-ok}

module _ (N : Net) where
  -- a set has at most all patterns
  count-patterns : (s : ℕ) → compatible_count N s ≤ patterns N
  unfolding compatible_count
  count-patterns s = count-le (patterns N) (compatible N s)

  -- and those of g gates at most g times as many
  total-patterns : (g : ℕ) → compatible_total N g ≤ g * patterns N
  total-patterns zero = omega arith
  total-patterns (suc g) = rw (suc-mul g (patterns N)) (add-le-add (total-patterns g) (count-patterns (N.inputs + g)))

  module _ (h : N.inputs ≤ most_inputs) where
    few-patterns : patterns N ≤ 1024
    few-patterns = pow_mono {j = most_inputs} h

    pub count-few : (s : ℕ) → compatible_count N s ≤ 1024
    count-few s = le_trans (count-patterns s) few-patterns

    total-few : (g : ℕ) → g ≤ most_gates → compatible_total N g ≤ 40960
    total-few g l = le_trans (total-patterns g) (mul-le-mul l few-patterns)

-- the count of gate g
pub counts-at : (s : Session) → state_test s ≡ Done → (g : ℕ) → g < s.m → get_or (pattern_counts s) g 0 ≡ compatible_count (loaded_net s) (s.n + g)
counts-at s v g l =
    per-gate-at s.m (λ g. compatible_count (loaded_net s) (s.n + g)) g (omega (arith, (net-ok s (state-e s v)).most)) l

-- sixteen bits hold each of them
pub counts-fit : (s : Session) → state_test s ≡ Done → ((g : ℕ) → compatible_count (loaded_net s) g ≤ 1024) × (compatible_total (loaded_net s) s.m ≤ 40960)
unfolding loaded_net net_of
counts-fit s v =
    let ok = net-ok s (state-e s v) in
    (count-few (loaded_net s) ok.ins, total-few (loaded_net s) ok.ins s.m ok.most)
