-- The turns of the simulation, over plain variables. Assumes nothing.
use mathlib.Core.Path.{◌≡◌, sym, ap, ap₂, ◌∙◌}
use mathlib.Core.Bool.{Bool}
use mathlib.Core.List.{List, [], ◌∷◌, ◌++◌}
use Prim.Native.Nat.{ℕ, suc, ◌+◌, ◌*◌, ◌≤◌, ◌<◌}
use native.Mathlib.Nat.{add-zero}
use native.Mathlib.Numerals.{add-one}
use native.Mathlib.Omega.{arith}
use lib.ListN.{length, get_or, take, set, length-set}
use Rattle.bits.specs.Range.{places}
use Rattle.bits.specs.Bit.{bit, column}
use Rattle.network.specs.Bounds.{most_signals}
use Rattle.network.specs.Net.{entry, run}
use Rattle.network.specs.Flat.{gate_at, gates_of}
use Rattle.network.specs.Valid.{GateOk}
use Rattle.network.proofs.FlatGates.{more-words, entry-take, gates-suc, run-snoc, table_at}
use Rattle.simulate.specs.Simulated.{Inputs, Simulated}

-- fan-ins before e are before any later place
pub later : {ks fs : List ℕ} {g e f : ℕ} → e ≤ f → GateOk ks fs g e → GateOk ks fs g f
later h ok = record { some = ok.some; few = ok.few; early = λ r l. omega (arith, ok.early r l) }

-- one input more
pub input-step : (vs : List ℕ) (i w v : ℕ) → i < length vs → Inputs vs i w → ((b : ℕ) → b < 64 → bit v b ≡ bit (w * 64 + b) i) → Inputs (set vs i v) (i + 1) w
input-step vs i w v h so_far here b l =
    rw add-one (more-words vs i v b h ∙ ap₂ (λ (vs : List Bool) (z : Bool). vs ++ z ∷ []) (so_far b l) (here b l))

module _ (ks fs ts vs : List ℕ) (n : ℕ) where
  -- the inputs are there, and no gate
  pub no-gate : (w : ℕ) → length vs ≡ most_signals → Inputs vs n w → Simulated ks fs ts vs n 0 w
  unfolding gates_of
  no-gate w long ins = record { long = long; each = λ b l. rw add-zero (ins b l) }

  -- one gate more
  pub gate-step : (g w v : ℕ) → n + g < most_signals → GateOk ks fs g (n + g) → Simulated ks fs ts vs n g w
      → ((b : ℕ) → b < 64 → bit v b ≡ bit (get_or ts g 0) (entry (column vs b) (gate_at ks fs ts g))) → Simulated ks fs ts (set vs (n + g) v) n (g + 1) w
  gate-step g w v h ok so_far here = record { long = length-set vs (n + g) v ∙ so_far.long; each = each }
    where
      each : (b : ℕ) → b < 64 → take (n + (g + 1)) (column (set vs (n + g) v) b) ≡ run (places n (bit (w * 64 + b))) (gates_of ks fs ts (g + 1))
      each b l =
          let e : n + (g + 1) ≡ suc (n + g) = omega arith in
          let G = gate_at ks fs ts g in
          let x = places n (bit (w * 64 + b)) in
          ap (λ (k : ℕ). take k (column (set vs (n + g) v) b)) e
          ∙ more-words vs (n + g) v b (omega (arith, so_far.long))
          ∙ ap (λ (z : Bool). take (n + g) (column vs b) ++ z ∷ []) (here b l ∙ ap (bit (get_or ts g 0)) (sym (entry-take ks fs ts (column vs b) g (n + g) ok)))
          ∙ ap (λ (l : List Bool). l ++ bit (get_or ts g 0) (entry l G) ∷ []) (so_far.each b l)
          ∙ ap (λ (t : ℕ). run x (gates_of ks fs ts g) ++ bit t (entry (run x (gates_of ks fs ts g)) G) ∷ []) (sym (table_at ks fs ts g))
          ∙ sym (run-snoc x (gates_of ks fs ts g) G)
          ∙ ap (run x) (sym (gates-suc ks fs ts g))
          ∙ ap (λ (k : ℕ). run x (gates_of ks fs ts k)) (sym (add-one g))
