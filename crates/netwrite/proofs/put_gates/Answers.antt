-- `put_gates`: what is left to lay are the gates not passed. Assumes nothing.
use Prim.Native.Nat.{◌+◌, ◌-◌, ◌<◌}
use native.Mathlib.Omega.{arith}
use Rattle.buffer.proofs.Laying.{pending-step, pending-room}
use Rattle.network.specs.Write.{gate_bytes, gates_bytes}
use Rattle.network.proofs.Valid.{net-ok}
use Rattle.netwrite.proofs.RecordBytes.{gates-next}
use Rattle.netwrite.proofs.put_gates.Goals as goal

pub put_gate-a-requires : goal.put_gate-a-requires
put_gate-a-requires c =
    let x = c.args in
    let h = c.loop-g in
    let v = net-ok x.s c.requires.0 in
    let k = v.most in
    let l : h.g < x.s.m = omega arith in
    let e = gates-next x.s x.s.m h.g l in
    (omega arith, (v.gate h.g l).few, pending-room (gate_bytes x.s h.g) (gates_bytes x.s (x.s.m - (h.g + 1)) (h.g + 1)) h.invariant e c.requires.1)

pub loop-g-preserved : goal.loop-g-preserved
loop-g-preserved c =
    let x = c.args in
    let h = c.loop-g in
    let e = gates-next x.s x.s.m h.g (omega arith) in
    pending-step (gates_bytes x.s (x.s.m - (h.g + 1)) (h.g + 1)) h.invariant e c.put_gate-a.ensures
