-- Tables put in place: a replacement in the network of flat arrays is a table stored. Assumes nothing.
use mathlib.Core.Path.{◌≡◌, refl, sym, ap, ◌∙◌}
use mathlib.Core.List.{List, [], ◌∷◌}
use Prim.Native.Nat.{ℕ, ◌+◌, ◌-◌, ◌<◌, ◌≤◌}
use native.Mathlib.Decide.{ℕ_discrete}
use native.Mathlib.Omega.{arith}
use lib.ListN.{length, get_or, set, length-set}
use lib.Seq.{ext_get_or, get_or-set_same, get_or-set_other}
use Rattle.network.specs.declared.Session.{Session}
use Rattle.network.specs.Net.{Gate, Net, no_gate, Replacement, with_table, with_gates, replace_one, replaced}
use Rattle.network.specs.Flat.{gate_at, gates_of, net_of, net_with, loaded_net, stored_all}
use Rattle.network.specs.Lists.{Sound}
use Rattle.network.proofs.FlatGates.{length-gates}
use Rattle.network.proofs.Earlier.{gates-at}
use Rattle.network.proofs.Exchanges.{gate-e}

module _ (ks fs ts : List ℕ) (m g t : ℕ) (h : g < m) (l : g < length ts) where
  gates-set : gates_of ks fs (set ts g t) m ≡ set (gates_of ks fs ts m) g (with_table (gate_at ks fs ts g) t)
  unfolding gate_at
  gates-set =
      ext_get_or no_gate (gates_of ks fs (set ts g t) m) (set (gates_of ks fs ts m) g (with_table (gate_at ks fs ts g) t))
      (length-gates ks fs (set ts g t) m ∙ sym (length-set (gates_of ks fs ts m) g (with_table (gate_at ks fs ts g) t) ∙ length-gates ks fs ts m))
      (λ i b. at i (omega (arith, length-gates ks fs (set ts g t) m)) (ℕ_discrete i g))
    where
      at : (i : ℕ) → i < m → Dec (i ≡ g) → get_or (gates_of ks fs (set ts g t) m) i no_gate ≡ get_or (set (gates_of ks fs ts m) g (with_table (gate_at ks fs ts g) t)) i no_gate
      at i b (yes e) =
          rw e
          (gates-at ks fs (set ts g t) m g h ∙ ap (with_table (gate_at ks fs ts g)) (get_or-set_same ts g t 0 l)
          ∙ sym (get_or-set_same (gates_of ks fs ts m) g (with_table (gate_at ks fs ts g) t) no_gate (omega (arith, length-gates ks fs ts m))))
      at i b (no d) =
          gates-at ks fs (set ts g t) m i b ∙ ap (with_table (gate_at ks fs ts i)) (get_or-set_other ts g i t 0 d)
          ∙ sym (get_or-set_other (gates_of ks fs ts m) g i (with_table (gate_at ks fs ts g) t) no_gate d ∙ gates-at ks fs ts m i b)

pub replaced-one : (s : Session) (ts : List ℕ) (r : Replacement) → s.n ≤ r.signal → r.signal < s.n + s.m → s.m ≤ length ts
    → replace_one (net_with s ts) r ≡ net_with s (set ts (r.signal - s.n) r.table)
unfolding net_of
replaced-one s ts r a b l =
    let g = r.signal - s.n in
    let G = gates_of s.arity s.fanins ts s.m in
    ap (with_gates (net_with s ts))
    (ap (λ (old : Gate). set G g (with_table old r.table)) (gates-at s.arity s.fanins ts s.m g (omega arith))
    ∙ sym (gates-set s.arity s.fanins ts s.m g r.table (omega arith) (omega arith)))

-- so a sound list's tables, stored one after the other, make the network with all of them in place
pub replaced-all : (s : Session) (named : List ℕ) (rs : List Replacement) (ts : List ℕ) → s.m ≤ length ts → Sound (loaded_net s) named rs
    → replaced (net_with s ts) rs ≡ net_with s (stored_all s.n rs ts)
replaced-all s named [] ts l a = refl
replaced-all s named (r ∷ rs) ts l a =
    let b = gate-e s r.signal a.0 in
    ap (λ (N : Net). replaced N rs) (replaced-one s ts r b.0 b.1 l)
    ∙ replaced-all s (r.signal ∷ named) rs (set ts (r.signal - s.n) r.table) (omega (arith, length-set ts (r.signal - s.n) r.table)) a.3
