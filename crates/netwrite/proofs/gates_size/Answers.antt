-- `gates_size`: with the gates not passed it is the length of all; no gate takes more than most_gate_bytes. Assumes nothing.
use mathlib.Core.Path.{ap, ◌∙◌}
use Prim.Native.Nat.{◌+◌, ◌-◌, ◌≤◌, ◌<◌}
use native.Mathlib.Omega.{arith}
use lib.ListN.{length, length-append}
use borrow.Author.Rules.{rules}
use Rattle.network.specs.Bounds.{most_gates, most_gate_bytes}
use Rattle.network.specs.State.{arity_of}
use Rattle.network.specs.Write.{gate_bytes, gates_bytes}
use Rattle.network.proofs.Valid.{net-ok}
use Rattle.netwrite.proofs.RecordBytes.{length-gate, gates-next, gates-done}
use Rattle.netwrite.proofs.gates_size.Goals as goal
use Rattle.netwrite.proofs.gates_size.Goals.{After-form_for-form}

pub bounds-s-g : goal.bounds-s-g
bounds-s-g c =
    let k = (net-ok c.args.s c.requires).most in
    search rules

-- the gate's record is no longer than the longest, and there are few gates
bounds : (c : After-form_for-form) →
    let s = c.args.s in
    (3 + arity_of s c.loop-g.g + c.form_for-form.result.bytes ≤ most_gate_bytes) × (s.m ≤ most_gates)
bounds c =
    let v = net-ok c.args.s c.requires in
    let f = (v.gate c.loop-g.g (omega arith)).few in
    let z = c.form_for-form.ensures.2 in
    (omega arith, v.most)

pub overflow_add-size : goal.overflow_add-size
overflow_add-size c = omega (arith, (bounds (goal.at.overflow_add-size c).After-form_for-form).0)

pub overflow_add-size-in-loop-g : goal.overflow_add-size-in-loop-g
overflow_add-size-in-loop-g c = omega (arith, (bounds (goal.at.overflow_add-size-in-loop-g c).After-form_for-form).0, (bounds (goal.at.overflow_add-size-in-loop-g c).After-form_for-form).1)

pub loop-g-preserved : goal.loop-g-preserved
loop-g-preserved c =
    let s = c.args.s in
    let h = c.loop-g in
    let l : h.g < s.m = omega arith in
    let n = length-gate s h.g in
    let e = ap length (gates-next s s.m h.g l) ∙ length-append (gate_bytes s h.g) (gates_bytes s (s.m - (h.g + 1)) (h.g + 1)) in
    let i = h.invariant.1 in
    let z = c.form_for-form.ensures.1 in
    (omega (arith, (bounds (goal.at.loop-g-preserved c).After-form_for-form).0, (bounds (goal.at.loop-g-preserved c).After-form_for-form).1), omega arith)

pub returns : goal.returns
returns c =
    let s = c.args.s in
    let h = c.loop-g in
    let k = (net-ok s c.requires).most in
    let i = rw (gates-done s s.m h.g (omega arith)) at h.invariant.1 in
    (omega arith, omega arith)
