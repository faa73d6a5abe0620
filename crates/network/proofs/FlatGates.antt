-- Laws of `entry`, `run`, `per_gate` and the flat arrays. Assumes nothing.
use mathlib.Core.Path.{◌≡◌, refl, sym, ap, ◌∙◌}
use mathlib.Core.Bool.{Bool, false, cond}
use mathlib.Core.List.{List, [], ◌∷◌, ◌++◌}
use Prim.Native.Nat.{ℕ, suc, ◌+◌, ◌*◌, ◌^◌, ◌<◌}
use native.Mathlib.Nat.{add-zero}
use native.Mathlib.Omega.{arith}
use lib.Dec.{ltb}
use lib.ListN.{length, get_or, take, drop, set, length-append}
use lib.Seq.{take-suc-set, get_or-take, drop-cons}
use borrow.Author.Tests.{lt-ltb}
use Rattle.bits.specs.Bounds.{gate_places}
use Rattle.bits.specs.Range.{places}
use Rattle.bits.specs.Bit.{bit, number, table_of, column, entry_at}
use Rattle.bits.proofs.Ranges.{length-places, places-at, map-places, table-ext, table-lt, column-at, column-set, column-length}
use Rattle.network.specs.Bounds.{most_gates}
use Rattle.network.specs.Net.{Gate, arity, entry, run}
use Rattle.network.specs.Compatible.{per_gate}
use Rattle.network.specs.Flat.{gate_at, gates_of}
use Rattle.network.specs.Valid.{GateOk}

-- of what is said of m gates, what is said of gate g
pub per-gate-at : (m : ℕ) (p : ℕ → ℕ) (g : ℕ) → g < most_gates → g < m → get_or (per_gate m p) g 0 ≡ p g
per-gate-at m p g h l = places-at 0 most_gates (λ i. cond (ltb i m) (p i) 0) g h ∙ rw (lt-ltb g m l)

pub run-snoc : (vs : List Bool) (gs : List Gate) (g : Gate) → run vs (gs ++ g ∷ []) ≡ run vs gs ++ bit g.table (entry (run vs gs) g) ∷ []
run-snoc vs [] g = refl
run-snoc vs (h ∷ gs) g = run-snoc (vs ++ bit h.table (entry vs h) ∷ []) gs g

pub length_run : (gs : List Gate) (vs : List Bool) → length (run vs gs) ≡ length vs + length gs
length_run [] vs = sym (add-zero (length vs))
length_run (g ∷ gs) vs =
    omega (arith, length_run gs (vs ++ bit g.table (entry vs g) ∷ []), length-append vs (bit g.table (entry vs g) ∷ []))

-- one more word, at the end of what is done
pub more-words : (vs : List ℕ) (e v b : ℕ) → e < length vs → take (suc e) (column (set vs e v) b) ≡ take e (column vs b) ++ bit v b ∷ []
more-words vs e v b h =
    ap (take (suc e)) (column-set vs b e v) ∙ take-suc-set (column vs b) e (bit v b) (omega (arith, column-length vs b))

module _ (ks fs ts : List ℕ) where
  pub arity-at : (g : ℕ) → arity (gate_at ks fs ts g) ≡ get_or ks g 0
  unfolding gate_at
  arity-at g = length-places (get_or ks g 0) (λ r. get_or fs (gate_places * g + r) 0)

  pub table_at : (g : ℕ) → (gate_at ks fs ts g).table ≡ get_or ts g 0
  unfolding gate_at
  table_at g = refl

  pub fanin-at : (g r : ℕ) → r < get_or ks g 0 → get_or (gate_at ks fs ts g).fanins r 0 ≡ get_or fs (gate_places * g + r) 0
  unfolding gate_at
  fanin-at g r h = places-at 0 (get_or ks g 0) (λ r. get_or fs (gate_places * g + r) 0) r h

  pub entry-at : (vs : List Bool) (g : ℕ) → entry vs (gate_at ks fs ts g) ≡ table_of (get_or ks g 0) (λ r. get_or vs (get_or fs (gate_places * g + r) 0) false)
  unfolding gate_at entry
  entry-at vs g = ap number (map-places (λ s. get_or vs s false) (get_or ks g 0) (λ r. get_or fs (gate_places * g + r) 0))

  pub entry_lt : (vs : List Bool) (g : ℕ) → entry vs (gate_at ks fs ts g) < 2 ^ get_or ks g 0
  entry_lt vs g = rw (entry-at vs g) (table-lt (get_or ks g 0) (λ r. get_or vs (get_or fs (gate_places * g + r) 0) false))

  -- values that agree at the fan-ins pick the same entry
  pub entry-ext : (us vs : List Bool) (g : ℕ) → ((r : ℕ) → r < get_or ks g 0 → get_or us (get_or fs (gate_places * g + r) 0) false ≡ get_or vs (get_or fs (gate_places * g + r) 0) false)
      → entry us (gate_at ks fs ts g) ≡ entry vs (gate_at ks fs ts g)
  entry-ext us vs g f = entry-at us g ∙ table-ext (get_or ks g 0) (λ r. get_or us (get_or fs (gate_places * g + r) 0) false) (λ r. get_or vs (get_or fs (gate_places * g + r) 0) false) f ∙ sym (entry-at vs g)

  -- words of the fan-ins pick the entry of their column
  pub entry-words : (ins ws : List ℕ) (g k b : ℕ) → get_or ks g 0 ≡ k → ((r : ℕ) → r < k → get_or ins r 0 ≡ get_or ws (get_or fs (gate_places * g + r) 0) 0)
      → entry_at k ins b ≡ entry (column ws b) (gate_at ks fs ts g)
  entry-words ins ws g k b e f =
      table-ext k (λ r. bit (get_or ins r 0) b) (λ r. get_or (column ws b) (get_or fs (gate_places * g + r) 0) false)
      (λ r h. ap (λ (w : ℕ). bit w b) (f r h) ∙ sym (column-at ws b (get_or fs (gate_places * g + r) 0)))
      ∙ ap (λ (k : ℕ). table_of k (λ r. get_or (column ws b) (get_or fs (gate_places * g + r) 0) false)) (sym e)
      ∙ sym (entry-at (column ws b) g)

  -- a gate whose fan-ins are below e sees only the first e values
  pub entry-take : (vs : List Bool) (g e : ℕ) → GateOk ks fs g e → entry (take e vs) (gate_at ks fs ts g) ≡ entry vs (gate_at ks fs ts g)
  entry-take vs g e ok = entry-ext (take e vs) vs g (λ r h. get_or-take e vs (get_or fs (gate_places * g + r) 0) false (ok.early r h))

  pub length-gates : (m : ℕ) → length (gates_of ks fs ts m) ≡ m
  unfolding gates_of
  length-gates m = length-places m (gate_at ks fs ts)

  pub gates-suc : (m : ℕ) → gates_of ks fs ts (suc m) ≡ gates_of ks fs ts m ++ gate_at ks fs ts m ∷ []
  unfolding gates_of
  gates-suc m = refl

  -- the gates from g on
  pub gates-from : (m g : ℕ) → g < m → drop g (gates_of ks fs ts m) ≡ gate_at ks fs ts g ∷ drop (suc g) (gates_of ks fs ts m)
  unfolding gates_of
  gates-from m g h =
      let d = gate_at ks fs ts g in
      drop-cons (places m (gate_at ks fs ts)) g d (omega (arith, length-places m (gate_at ks fs ts)))
      ∙ ap (λ (x : Gate). x ∷ drop (suc g) (places m (gate_at ks fs ts))) (places-at d m (gate_at ks fs ts) g h)
