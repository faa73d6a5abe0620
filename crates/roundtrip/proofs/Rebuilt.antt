-- What has been laid into a session so far: gates and outputs of another, each gate with its current table twice. Assumes nothing.
use mathlib.Core.Path.{◌≡◌, ◌∙◌}
use mathlib.Core.List.{List}
use Prim.Native.Nat.{ℕ, ◌+◌, ◌≤◌, ◌<◌}
use native.Mathlib.Omega.{arith}
use lib.ListN.{get_or}
use lib.Seq.{get_or-set_same, get_or-set_other}
use Rattle.bits.specs.Bounds.{gate_places}
use Rattle.bits.specs.Range.{places}
use Rattle.bits.proofs.Ranges.{lt-cases, length-places, places-ext}
use Rattle.network.specs.declared.Session.{Session}
use Rattle.network.specs.Bounds.{most_gates, most_outputs}
use Rattle.network.specs.Flat.{gate_at, gates_of, net_of, net_with, current_net}
use Rattle.network.specs.Valid.{Sized}
use Rattle.network.specs.State.{arity_of, fanins_of}
use Rattle.network.specs.Load.{with_gate, with_output}
use Rattle.network.proofs.Slots.{sized-gate, sized-output, GateIs, gate-new, gate-kept}

-- gate j of t is gate j of s, loaded and current the current one of s
abbrev pub SameGate : Session → Session → ℕ → Type 0
SameGate s t j = GateIs (arity_of s j) (fanins_of s j) (get_or s.current j 0) (get_or s.current j 0) t j

-- the counts, the excluded set, the first g gates and the first i outputs of t are those of s
pub record Rebuilt (s t : Session) (g i : ℕ) : Type 0 where
  pub n-same : t.n ≡ s.n
  pub m-same : t.m ≡ s.m
  pub p-same : t.p ≡ s.p
  pub excluded-same : t.excluded ≡ s.excluded
  pub sized : Sized t
  pub gate : (j : ℕ) → j < g → SameGate s t j
  pub output : (j : ℕ) → j < i → get_or t.outputs j 0 ≡ get_or s.outputs j 0

-- gate g of s with its current table, laid into t
abbrev pub rebuild_gate : Session → Session → ℕ → Session
rebuild_gate s t g = with_gate t g (arity_of s g) (fanins_of s g) (get_or s.current g 0)

abbrev pub rebuild_output : Session → Session → ℕ → Session
rebuild_output s t i = with_output t i (get_or s.outputs i 0)

module _ (s : Session) where
  pub rebuild-gate : (t : Session) (g : ℕ) → g < most_gates → ((j : ℕ) → j < g + 1 → arity_of s j ≤ gate_places) → Rebuilt s t g 0 → Rebuilt s (rebuild_gate s t g) (g + 1) 0
  rebuild-gate t g b few l =
      let k = arity_of s g in
      let fs = fanins_of s g in
      let tb = get_or s.current g 0 in
      record {
        n-same = l.n-same;
        m-same = l.m-same;
        p-same = l.p-same;
        excluded-same = l.excluded-same;
        sized = sized-gate t g k fs tb l.sized;
        gate = λ j h.
            lt-cases j g (omega arith)
            (λ q. gate-kept t g k fs tb (arity_of s j) (fanins_of s j) (get_or s.current j 0) (get_or s.current j 0) j (few j h) q (l.gate j q))
            (λ q. rw q (gate-new t g k fs tb l.sized b (length-places k _) (few g (omega arith))));
        output = λ j h. let z : ⊥ = omega arith in absurd z;
      }

  pub rebuild-output : (t : Session) (g i : ℕ) → i < most_outputs → Rebuilt s t g i → Rebuilt s (rebuild_output s t i) g (i + 1)
  rebuild-output t g i b l =
      let x = get_or s.outputs i 0 in
      let n = l.sized.outs in
      record {
        n-same = l.n-same;
        m-same = l.m-same;
        p-same = l.p-same;
        excluded-same = l.excluded-same;
        sized = sized-output t i x l.sized;
        gate = λ j h. let a = l.gate j h in
            record { arity-is = a.arity-is; fanins-are = a.fanins-are; loaded-is = a.loaded-is; current-is = a.current-is };
        output = λ j h.
            lt-cases j i (omega arith)
            (λ q. get_or-set_other t.outputs i j x 0 (λ e. omega arith) ∙ l.output j q)
            (λ q. rw q (get_or-set_same t.outputs i x 0 (omega arith)));
      }

  -- all laid in: the same network, with any tables that are the current ones of s
  pub same-net : (t : Session) (ts : List ℕ) → Rebuilt s t s.m s.p → ((j : ℕ) → j < s.m → get_or ts j 0 ≡ get_or s.current j 0) → net_with t ts ≡ current_net s
  unfolding current_net net_of gates_of gate_at
  same-net t ts l same =
      let gs : places s.m (gate_at t.arity t.fanins ts) ≡ places s.m (gate_at s.arity s.fanins s.current) =
      places-ext s.m (gate_at t.arity t.fanins ts) (gate_at s.arity s.fanins s.current) (λ j h. rw ((l.gate j h).fanins-are, same j h)) in
      let os : places s.p (λ i. get_or t.outputs i 0) ≡ places s.p (λ i. get_or s.outputs i 0) =
      places-ext s.p (λ i. get_or t.outputs i 0) (λ i. get_or s.outputs i 0) l.output in
      rw (l.n-same, l.m-same, l.p-same, l.excluded-same, gs, os)
