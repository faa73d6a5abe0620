-- The digits of a session's tables, by the arities of its gates. Assumes nothing.
use mathlib.Core.Path.{◌≡◌, refl, ap, ◌∙◌}
use mathlib.Core.Bool.{Bool, cond}
use mathlib.Core.List.{List}
use Prim.Native.Nat.{ℕ, zero, suc, ◌<◌, ◌≤◌}
use native.Mathlib.Numerals.{add-one}
use native.Mathlib.Omega.{arith}
use lib.Dec.{ltb}
use lib.ListN.{length, get_or, take}
use Rattle.std.specs.List.{list_any}
use Rattle.std.proofs.lemmas.List.Folds.{list_any_more}
use Rattle.bits.specs.Range.{any}
use Rattle.bits.proofs.Ranges.{by_cases, any-ext}
use Rattle.network.specs.declared.Session.{Session}
use Rattle.network.specs.Net.{Net, arity, no_gate}
use Rattle.network.specs.Flat.{net_of, loaded_net}
use Rattle.network.specs.Load.{narrow}
use Rattle.network.proofs.FlatGates.{arity-at}
use Rattle.network.proofs.Earlier.{gates-at}
use Rattle.network.proofs.Exchanges.{loaded-length}
use Rattle.text.specs.Numbers.{word_digits}
use Rattle.tabletext.specs.Digits.{digits}

pub digits-few : (N : Net) → digits N ≤ word_digits
unfolding digits
digits-few N =
    by_cases (any (length N.gates) (λ g. ltb narrow.most (arity (get_or N.gates g no_gate)))) (λ e. rw e (omega arith)) (λ e. rw e (omega arith))

-- a test of the first n numbers
list_any-take : (p : ℕ → Bool) (xs : List ℕ) (n : ℕ) → n ≤ length xs → list_any p (take n xs) ≡ any n (λ i. p (get_or xs i 0))
list_any-take p xs zero h = refl
list_any-take p xs (suc n) h =
    rw add-one at (list_any_more p xs n 0 (omega arith)) ∙ rw (list_any-take p xs n (omega arith))

module _ (s : Session) where
  arity-same : (g : ℕ) → g < s.m → arity (get_or (loaded_net s).gates g no_gate) ≡ get_or s.arity g 0
  unfolding loaded_net net_of
  arity-same g h = ap arity (gates-at s.arity s.fanins s.loaded s.m g h) ∙ arity-at s.arity s.fanins s.loaded g

  some_same : any (length (loaded_net s).gates) (λ g. ltb narrow.most (arity (get_or (loaded_net s).gates g no_gate))) ≡ any s.m (λ g. ltb narrow.most (get_or s.arity g 0))
  some_same =
      rw (loaded-length s)
      (any-ext s.m (λ g. ltb narrow.most (arity (get_or (loaded_net s).gates g no_gate))) (λ g. ltb narrow.most (get_or s.arity g 0))
      (λ g h. ap (ltb narrow.most) (arity-same g h)))

  pub digits-by : (r : Bool) (m : ℕ) → m ≡ s.m → m ≤ length s.arity → r ≡ list_any (ltb narrow.most) (take m s.arity) → digits (loaded_net s) ≡ cond r word_digits 4
  unfolding digits
  digits-by r m q h e = rw (some_same, ← q, e, list_any-take (ltb narrow.most) s.arity m h)
