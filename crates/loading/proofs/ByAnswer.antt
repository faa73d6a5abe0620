-- What a load gives by the answer of what was read. Assumes nothing.
use mathlib.Core.Path.{◌≡◌, refl, sym, ap, ◌∙◌}
use mathlib.Core.List.{List}
use Prim.Native.Nat.{ℕ}
use Rattle.std.specs.Prelude.{Result, Ok}
use Rattle.network.specs.declared.Session.{Session}
use Rattle.network.specs.declared.Refusal.{Refusal}
use Rattle.network.specs.Answer.{Done}
use Rattle.network.specs.Flat.{loaded_net}
use Rattle.network.specs.State.{state_fault}
use Rattle.network.specs.Load.{opened, opening, read_of, load_of}
use Rattle.network.specs.Calls.{pattern_counts}
use Rattle.network.proofs.Reached.{opened-fault, loaded-fresh, load-back}
use Rattle.loading.specs.Counted.{counted, counted_of}

module _ (bytes : List ℕ) where
  -- what is read passes refusal 10's test
  pub read-valid : {s : Session} → Ok s ≡ read_of bytes → state_fault s ≡ Done
  read-valid {s} e = sym (opened-fault s) ∙ (loaded-fresh bytes (opened s) (load-back bytes s (sym e))).valid

  pub opening-is : {l : Result Session Refusal} → l ≡ read_of bytes → opening l ≡ load_of bytes
  unfolding load_of
  opening-is e = ap opening e

  -- the open tables are none of the network
  pub counted-is : {l : Result Session Refusal} → l ≡ read_of bytes → counted (opening l) ≡ counted_of bytes
  unfolding counted_of
  counted-is e = ap counted (opening-is e)

pub opened-counts : (s : Session) → pattern_counts (opened s) ≡ pattern_counts s
unfolding loaded_net
opened-counts s = refl
