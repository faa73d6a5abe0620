-- Places of a session that nothing fills are 0, after a load as after a text. Assumes nothing.
use mathlib.Core.Path.{◌≡◌, refl, ◌∙◌}
use mathlib.Core.List.{List, [], ◌∷◌}
use Prim.Native.Nat.{ℕ, suc, ◌+◌, ◌*◌, ◌≤◌, ◌<◌}
use native.Mathlib.Omega.{arith}
use native.Mathlib.Decide.{dec_lt, ℕ_discrete}
use lib.ListN.{length, get_or, set, replicate, length-replicate, get_or-replicate, get_or-eq_default}
use lib.Seq.{sets, get_or-set_same, get_or-set_other}
use Rattle.bits.specs.Bounds.{gate_places}
use Rattle.network.specs.declared.Session.{Session}
use Rattle.network.specs.Bounds.{most_gates, most_outputs, fanin_places}
use Rattle.network.specs.Load.{started, with_gate, with_output}
use Rattle.network.specs.Valid.{Sized}
use Rattle.network.proofs.Slots.{sets-before}

-- a run of stores leaves what stands behind it
pub sets_behind : (vs l : List ℕ) (i j : ℕ) → i + length vs ≤ j → get_or (sets l i vs) j 0 ≡ get_or l j 0
sets_behind [] l i j h = refl
sets_behind (v ∷ vs) l i j h = sets_behind vs (set l i v) (suc i) j (omega arith) ∙ get_or-set_other l i j v 0 (λ e. omega arith)

zero-at : (n i : ℕ) → ◌≡◌ {A = ℕ} (get_or (replicate n 0) i 0) 0
zero-at n i = by (dec_lt i n)
  where
    by : Dec (i < n) → ◌≡◌ {A = ℕ} (get_or (replicate n 0) i 0) 0
    by (yes y) = get_or-replicate {A = ℕ} n i 0 0 y
    by (no y) = get_or-eq_default {A = ℕ} (replicate n 0) 0 {n = i} (omega (arith, length-replicate {A = ℕ} n 0))

-- behind g gates and j outputs, and behind the fan-ins of each gate
pub record Tidy (t : Session) (g j : ℕ) : Type 0 where
  pub arities : (i : ℕ) → g ≤ i → get_or t.arity i 0 ≡ 0
  pub slots : (i r : ℕ) → r < gate_places → get_or t.arity i 0 ≤ r → get_or t.fanins (gate_places * i + r) 0 ≡ 0
  pub tables : (i : ℕ) → g ≤ i → get_or t.loaded i 0 ≡ 0
  pub outs : (i : ℕ) → j ≤ i → get_or t.outputs i 0 ≡ 0

module _ (t : Session) (g k : ℕ) (fs : List ℕ) (tb : ℕ) (sized : Sized t) (more : g < most_gates) (len : length fs ≡ k) (few : k ≤ gate_places) (tidy : Tidy t g 0) where
  slot-blank : (i r : ℕ) → r < gate_places → get_or (set t.arity g k) i 0 ≤ r → Dec (i ≡ g) → get_or (sets t.fanins (gate_places * g) fs) (gate_places * i + r) 0 ≡ 0
  slot-blank i r h b (yes e) =
      let n = sized.arities in
      let a : get_or (set t.arity g k) i 0 ≡ k = rw e (get_or-set_same t.arity g k 0 (omega arith)) in
      let z = tidy.arities i (omega arith) in
      sets_behind fs t.fanins (gate_places * g) (gate_places * i + r) (omega arith) ∙ tidy.slots i r h (omega arith)
  slot-blank i r h b (no e) =
      let a = get_or-set_other t.arity g i k 0 e in
      let old = tidy.slots i r h (omega arith) in
      beside (dec_lt i g) old
    where
      beside : Dec (i < g) → get_or t.fanins (gate_places * i + r) 0 ≡ 0 → get_or (sets t.fanins (gate_places * g) fs) (gate_places * i + r) 0 ≡ 0
      beside (yes l) old = sets-before fs t.fanins (gate_places * g) (gate_places * i + r) (omega arith) ∙ old
      beside (no l) old = let q : suc g ≤ i = after l e in sets_behind fs t.fanins (gate_places * g) (gate_places * i + r) (omega arith) ∙ old
        where
          after : (i < g → ⊥) → (i ≡ g → ⊥) → suc g ≤ i
          after a b = omega arith

  pub tidy-gate : Tidy (with_gate t g k fs tb) (g + 1) 0
  tidy-gate = record {
    arities = λ i h. get_or-set_other t.arity g i k 0 (λ e. omega arith) ∙ tidy.arities i (omega arith);
    slots = λ i r h b. slot-blank i r h b (ℕ_discrete i g);
    tables = λ i h. get_or-set_other t.loaded g i tb 0 (λ e. omega arith) ∙ tidy.tables i (omega arith);
    outs = tidy.outs;
  }

pub tidy-output : (t : Session) (g j x : ℕ) → Tidy t g j → Tidy (with_output t j x) g (j + 1)
tidy-output t g j x tidy = record {
  arities = tidy.arities;
  slots = tidy.slots;
  tables = tidy.tables;
  outs = λ i h. get_or-set_other t.outputs j i x 0 (λ e. omega arith) ∙ tidy.outs i (omega arith);
}

pub tidy-started : (n m p : ℕ) → Tidy (started n m p) 0 0
tidy-started n m p = record { arities = λ i h. zero-at most_gates i; slots = λ i r h b. zero-at fanin_places (gate_places * i + r); tables = λ i h. zero-at most_gates i; outs = λ i h. zero-at most_outputs i }
