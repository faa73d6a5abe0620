-- Networks whose gates see earlier signals alone: what the flat arrays must pass for it, and that a value, once worked out, stays.
-- Assumes nothing.
use mathlib.Core.Path.{◌≡◌, refl, sym, ap, ap₂, ◌∙◌, subst}
use mathlib.Core.Bool.{Bool, true, false, ◌&&◌}
use mathlib.Core.List.{List, [], ◌∷◌, ◌++◌, map}
use Prim.Native.Nat.{ℕ, suc, ◌+◌, ◌-◌, ◌^◌, ◌<◌, ◌≤◌}
use native.Mathlib.Omega.{arith}
use lib.Dec.{leb, ltb}
use lib.ListN.{length, get_or, length-append, length-map, get_or-append}
use borrow.Author.Tests.{leb-true, ltb-true}
use Rattle.bits.specs.Bit.{bit, number}
use Rattle.bits.proofs.Ranges.{and_l, and_r, places-at, number_lt}
use Rattle.network.specs.Net.{Gate, Net, arity, is_gate, gate, no_gate, entry, run}
use Rattle.network.specs.Flat.{gate_at, gates_of, net_of}
use Rattle.network.specs.Valid.{NetOk}
use Rattle.network.proofs.FlatGates.{arity-at, fanin-at, length-gates}

-- each fan-in of gate g is a signal below j
abbrev pub Below : ℕ → Gate → Type 0
Below j g = (r : ℕ) → r < arity g → get_or g.fanins r 0 < j

-- each fan-in is an earlier signal; the first of the gates is signal j
abbrev pub Earlier : ℕ → List Gate → Type 0
Earlier j [] = Unit {0}
Earlier j (g ∷ gs) = Below j g × Earlier (suc j) gs

-- gate after gate
pub earlier-i : (gs : List Gate) (j : ℕ) → ((i : ℕ) → i < length gs → Below (j + i) (get_or gs i no_gate)) → Earlier j gs
earlier-i [] j f = tt
earlier-i (g ∷ gs) j f = (λ r h. omega (arith, f 0 (omega arith) r h), earlier-i gs (suc j) (λ i l r h. omega (arith, f (suc i) (omega arith) r h)))

pub gates-at : (ks fs ts : List ℕ) (m g : ℕ) → g < m → get_or (gates_of ks fs ts m) g no_gate ≡ gate_at ks fs ts g
unfolding gates_of
gates-at ks fs ts m g h = places-at no_gate m (gate_at ks fs ts) g h

pub gate-is : (ks fs ts ex outs : List ℕ) (n m p g : ℕ) → g < m → gate (net_of ks fs ts n m ex outs p) (n + g) ≡ gate_at ks fs ts g
unfolding net_of
gate-is ks fs ts ex outs n m p g h =
    let e : n + g - n ≡ g = omega arith in
    ap (λ (i : ℕ). get_or (gates_of ks fs ts m) i no_gate) e ∙ gates-at ks fs ts m g h

-- of the flat arrays
pub earlier-net : {ks fs : List ℕ} {n m : ℕ} (ts : List ℕ) → NetOk ks fs n m → Earlier n (gates_of ks fs ts m)
earlier-net {ks} {fs} {n} {m} ts ok =
    earlier-i (gates_of ks fs ts m) n (λ i l. subst (Below (n + i)) (sym (gates-at ks fs ts m i (below i l))) (early i (below i l)))
  where
    below : (i : ℕ) → i < length (gates_of ks fs ts m) → i < m
    below i l = omega (arith, length-gates ks fs ts m)

    early : (i : ℕ) → i < m → Below (n + i) (gate_at ks fs ts i)
    early i l r h =
        let k : r < get_or ks i 0 = omega (arith, arity-at ks fs ts i) in
        omega (arith, fanin-at ks fs ts i r k, (ok.gate i l).early r k)

-- one of the m gates behind n inputs
pub gate-in : (n m g : ℕ) → (leb n g && ltb g (n + m)) ≡ true → (n ≤ g) × (g < n + m)
gate-in n m g e = (leb-true n g (and_l (leb n g) (ltb g (n + m)) e), ltb-true g (n + m) (and_r (leb n g) (ltb g (n + m)) e))

pub gate-bounds : (N : Net) (s : ℕ) → is_gate N s ≡ true → (N.inputs ≤ s) × (s < N.inputs + length N.gates)
unfolding is_gate
gate-bounds N s w = gate-in N.inputs (length N.gates) s w

-- ## Entries

pub map-ext : (p q : ℕ → Bool) (fs : List ℕ) → ((r : ℕ) → r < length fs → p (get_or fs r 0) ≡ q (get_or fs r 0)) → map p fs ≡ map q fs
map-ext p q [] f = refl
map-ext p q (x ∷ fs) f = ap₂ (λ (b : Bool) (bs : List Bool). b ∷ bs) (f 0 (omega arith)) (map-ext p q fs (λ r h. f (suc r) (omega arith)))

pub entry-below : (vs : List Bool) (g : Gate) → entry vs g < 2 ^ arity g
unfolding entry
entry-below vs g = rw (length-map g.fanins (λ s. get_or vs s false)) at (number_lt (map (λ s. get_or vs s false) g.fanins))

-- values that agree at the fan-ins pick the same entry
pub entry-same : (us vs : List Bool) (g : Gate) → ((r : ℕ) → r < arity g → get_or us (get_or g.fanins r 0) false ≡ get_or vs (get_or g.fanins r 0) false)
    → entry us g ≡ entry vs g
unfolding entry
entry-same us vs g f = ap number (map-ext (λ s. get_or us s false) (λ s. get_or vs s false) g.fanins f)

-- ## Values

-- a value, once worked out, stays
pub run-keep : (gs : List Gate) (vs : List Bool) (s : ℕ) → s < length vs → get_or (run vs gs) s false ≡ get_or vs s false
run-keep [] vs s h = refl
run-keep (g ∷ gs) vs s h =
    run-keep gs (vs ++ bit g.table (entry vs g) ∷ []) s (omega (arith, length-append vs (bit g.table (entry vs g) ∷ [])))
    ∙ get_or-append vs (bit g.table (entry vs g) ∷ []) false s h

-- and so does the entry of a gate that sees only those
pub entry-keep : (gs : List Gate) (vs : List Bool) (g : Gate) → Below (length vs) g → entry (run vs gs) g ≡ entry vs g
entry-keep gs vs g w = entry-same (run vs gs) vs g (λ r h. run-keep gs vs (get_or g.fanins r 0) (w r h))
