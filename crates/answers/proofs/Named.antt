-- What tests 11 to 13 are of the gate that is named, and what tests that refuse nothing tell of it. Assumes nothing.
use mathlib.Core.Path.{◌≡◌, sym, ap, ap₂, ◌∙◌}
use mathlib.Core.Bool.{true, false, not, ◌&&◌}
use mathlib.Core.List.{List, [], ◌∷◌}
use Prim.Native.Nat.{ℕ, ◌+◌, ◌-◌, ◌^◌, ◌≤◌, ◌<◌}
use native.Mathlib.Omega.{arith}
use lib.Dec.{leb, ltb}
use lib.ListN.{get_or}
use Rattle.bits.specs.Bounds.{most_inputs}
use Rattle.bits.specs.Range.{smallest}
use Rattle.bits.specs.Bit.{bit, differs}
use Rattle.std.specs.Prelude.{Err}
use Rattle.network.specs.Answer.{Answer, Done}
use Rattle.network.specs.declared.Session.{Session}
use Rattle.network.specs.declared.Refusal.TheVariants.{NotAGate}
use Rattle.network.specs.Bounds.{most_gates, most_fanins}
use Rattle.network.specs.Net.{Gate, is_gate, gate, arity, Replacement}
use Rattle.network.specs.Flat.{gate_at, loaded_net}
use Rattle.network.specs.Tests.{first}
use Rattle.network.specs.State.{arity_of, state_fault, state_test}
use Rattle.network.specs.Calls.{gate_test, fits, table_test, alters, entry_found, closed_test, held_closed, exchange_answer}
use Rattle.network.proofs.TestLaws.{kept, clear-e, alone, went_on, count-e}
use Rattle.network.proofs.Valid.{valid-e, state-e, state-i}
use Rattle.network.proofs.Exchanges.{net-gate, net-arity, gate-e, loaded-length, loaded-inputs}
use Rattle.replacements.specs.Pair.{Bounded}

-- ## 11

-- where 10 does not apply, one test stands for itself
pub in-valid : (s : Session) → state_fault s ≡ Done → (a : Answer) → a ≡ first (state_test s ∷ a ∷ [])
in-valid s v a = alone a ∙ went_on (state_test s ∷ []) (a ∷ []) (alone (state_test s)) (state-i s v)

module _ (s : Session) (k : ℕ) where
  pub gate-is : is_gate (loaded_net s) k ≡ (leb s.n k && ltb k (s.n + s.m))
  unfolding is_gate
  gate-is = rw (loaded-inputs s, loaded-length s)

  pub gate-fine : (leb s.n k && ltb k (s.n + s.m)) ≡ true → Done ≡ gate_test (loaded_net s) k
  unfolding gate_test
  gate-fine e = rw (gate-is, e)

  pub gate-refused : (leb s.n k && ltb k (s.n + s.m)) ≡ false → Err NotAGate ≡ gate_test (loaded_net s) k
  unfolding gate_test
  gate-refused e = rw (gate-is, e)

-- 01's bounds, of a session that is valid
pub bounded : (s : Session) (n m : ℕ) → n ≡ s.n → m ≡ s.m → state_fault s ≡ Done → Bounded n m s.arity
bounded s n m en em v =
    rw (en, em)
    ((count-e most_inputs s.n (valid-e s v).inputs).1, (count-e most_gates s.m (valid-e s v).gates).1, λ g h. (count-e most_fanins (arity_of s g) ((valid-e s v).gate g h).arity-fine).1)

-- ## What tests that refuse nothing tell

-- the session is valid, and k is one of its gates
pub record Named (s : Session) (k : ℕ) : Type 0 where
  pub valid : state_fault s ≡ Done
  pub low : s.n ≤ k
  pub high : k < s.n + s.m
  pub most : s.m ≤ most_gates
  pub few : arity_of s (k - s.n) ≤ most_fanins

pub named : (s : Session) (k : ℕ) (rest : List Answer) → first (state_test s ∷ gate_test (loaded_net s) k ∷ rest) ≡ Done → Named s k
unfolding gate_test
named s k rest e =
    let c = clear-e (state_test s ∷ gate_test (loaded_net s) k ∷ rest) e in
    let v = state-e s c.0 in
    let b = gate-e s k (kept (is_gate (loaded_net s) k) NotAGate c.1.0) in
    record {
      valid = v;
      low = b.0;
      high = b.1;
      most = (count-e most_gates s.m (valid-e s v).gates).1;
      few = (count-e most_fanins (arity_of s (k - s.n)) ((valid-e s v).gate (k - s.n) (omega arith)).arity-fine).1;
    }

pub exchange-named : (s : Session) (r : Replacement) {a : Answer} → a ≡ exchange_answer s r → a ≡ Done → Named s r.signal
unfolding exchange_answer
exchange-named s r e k = named s r.signal (table_test (loaded_net s) r ∷ closed_test (loaded_net s) (held_closed s r.signal) r ∷ []) (sym e ∙ k)

-- ## 12 and 13, of a gate that is one

module _ (s : Session) (r : Replacement) (low : s.n ≤ r.signal) (high : r.signal < s.n + s.m) where
  abbrev g : ℕ
  g = r.signal - s.n

  loaded-arity : arity (gate (loaded_net s) r.signal) ≡ arity_of s g
  unfolding loaded_net
  loaded-arity = net-arity s s.loaded r.signal low high

  loaded-table : (gate (loaded_net s) r.signal).table ≡ get_or s.loaded g 0
  unfolding loaded_net gate_at
  loaded-table = ap (λ (x : Gate). x.table) (net-gate s s.loaded r.signal low high)

  pub fits-is : fits (loaded_net s) r ≡ ltb r.table (2 ^ (2 ^ arity_of s g))
  fits-is = ap (λ (k : ℕ). ltb r.table (2 ^ (2 ^ k))) loaded-arity

  pub closed_is : entry_found (smallest (2 ^ arity_of s g) (λ t. not (bit (get_or s.open_tables g 0) t) && differs (bit (get_or s.loaded g 0) t) (bit r.table t)))
      ≡ closed_test (loaded_net s) (held_closed s r.signal) r
  unfolding closed_test alters
  closed_is =
      ap₂ (λ (k x : ℕ). entry_found (smallest (2 ^ k) (λ t. not (bit (get_or s.open_tables g 0) t) && differs (bit x t) (bit r.table t)))) (sym loaded-arity) (sym loaded-table)
