-- What a session that passes refusal 10's test has: its counts, and for each gate and output the facts that loops use. Assumes nothing.
use mathlib.Core.Path.{◌≡◌, refl, subst}
use Prim.Native.Nat.{ℕ, ◌+◌, ◌*◌, ◌^◌, ◌<◌}
use native.Mathlib.Omega.{arith}
use lib.ListN.{get_or}
use Rattle.bits.specs.Bounds.{most_inputs, gate_places}
use Rattle.bits.proofs.Ranges.{length-places, places-at}
use Rattle.network.specs.declared.Session.{Session}
use Rattle.network.specs.Answer.{Answer}
use Rattle.network.specs.Answer.{Done}
use Rattle.std.specs.Prelude.{Ok, Err}
use Rattle.network.specs.Bounds.{most_gates, most_outputs, most_fanins}
use Rattle.network.specs.Tests.{count_test, fanins_test, width_test, excluded_test}
use Rattle.network.specs.State.{arity_of, fanins_of, gate_tests, gate_fault, output_fault, state_tests, state_fault, as_invalid, state_test}
use Rattle.network.specs.Valid.{GateOk, NetOk, OutputsOk}
use Rattle.network.proofs.TestLaws.{refused-done, clear-e, clear-i, each-e, each-i, count-e, output-e, fanins-e}

-- ## A valid session

-- what refusal 10 asks of gate g
pub record GateValid (s : Session) (g : ℕ) : Type 0 where
  pub arity-fine : count_test most_fanins (arity_of s g) ≡ Done
  pub fanins-fine : fanins_test (s.n + g) (fanins_of s g) ≡ Done
  pub loaded-fine : width_test (2 ^ arity_of s g) (get_or s.loaded g 0) ≡ Done
  pub current-fine : width_test (2 ^ arity_of s g) (get_or s.current g 0) ≡ Done

pub record Valid (s : Session) : Type 0 where
  pub inputs : count_test most_inputs s.n ≡ Done
  pub gates : count_test most_gates s.m ≡ Done
  pub outs : count_test most_outputs s.p ≡ Done
  pub set-fine : excluded_test s.n s.excluded ≡ Done
  pub gate : (g : ℕ) → g < s.m → GateValid s g
  pub output : (i : ℕ) → i < s.p → output_fault s i ≡ Done

gate-valid : (s : Session) (g : ℕ) → gate_fault s g ≡ Done → GateValid s g
unfolding gate_fault
gate-valid s g e =
    let c = clear-e (gate_tests s g) e in
    record { arity-fine = c.0; fanins-fine = c.1.0; loaded-fine = c.1.1.0; current-fine = c.1.1.1.0 }

gate-fault : (s : Session) (g : ℕ) → GateValid s g → gate_fault s g ≡ Done
unfolding gate_fault
gate-fault s g v = clear-i (gate_tests s g) (v.arity-fine, (v.fanins-fine, (v.loaded-fine, (v.current-fine, tt))))

pub valid-e : (s : Session) → state_fault s ≡ Done → Valid s
unfolding state_fault
valid-e s e =
    let c = clear-e (state_tests s) e in
    record {
      inputs = c.0;
      gates = c.1.0;
      outs = c.1.1.0;
      set-fine = c.1.1.1.0;
      gate = λ i l. gate-valid s i (each-e (gate_fault s) s.m c.1.1.1.1.0 i l);
      output = each-e (output_fault s) s.p c.1.1.1.1.1.0;
    }

pub valid-i : (s : Session) → Valid s → state_fault s ≡ Done
unfolding state_fault
valid-i s v =
    clear-i (state_tests s) (
      v.inputs,
      (v.gates, (v.outs, (v.set-fine, (each-i (gate_fault s) s.m (λ g l. gate-fault s g (v.gate g l)), (each-i (output_fault s) s.p v.output, tt))))),
    )

-- refusal 10 is the first of 3 to 7 under one name
pub state-e : (s : Session) → state_test s ≡ Done → state_fault s ≡ Done
unfolding state_test
state-e s e = go (state_fault s) e
  where
    go : (a : Answer) → as_invalid a ≡ Done → a ≡ Done
    go (Ok _) e = refl
    go (Err r) e = refused-done _ e

pub state-i : (s : Session) → state_fault s ≡ Done → state_test s ≡ Done
unfolding state_test
state-i s e = rw e

-- ## In the form that loops use

pub gate-ok : (s : Session) (g : ℕ) → GateValid s g → GateOk s.arity s.fanins g (s.n + g)
gate-ok s g v =
    let k = count-e most_fanins (arity_of s g) v.arity-fine in
    record {
      some = k.0;
      few = k.1;
      early = λ r h. subst (λ (x : ℕ). x < s.n + g) (places-at 0 (arity_of s g) (λ r. get_or s.fanins (gate_places * g + r) 0) r h)
          (fanins-e (s.n + g) (fanins_of s g) v.fanins-fine r (omega (arith, length-places (arity_of s g) (λ r. get_or s.fanins (gate_places * g + r) 0))));
    }

pub net-ok : (s : Session) → state_fault s ≡ Done → NetOk s.arity s.fanins s.n s.m
net-ok s e =
    let v = valid-e s e in
    record { ins = (count-e most_inputs s.n v.inputs).1; most = (count-e most_gates s.m v.gates).1; gate = λ g h. gate-ok s g (v.gate g h) }

pub outputs-ok : (s : Session) → state_fault s ≡ Done → OutputsOk s.outputs s.p (s.n + s.m)
outputs-ok s e =
    let v = valid-e s e in
    record { most = (count-e most_outputs s.p v.outs).1; each = λ i h. output-e (s.n + s.m) (get_or s.outputs i 0) (v.output i h) }
