use Prim.Native.Nat.{◌-◌}
use Rattle.buffer.proofs.Laying.{Pending}
use Rattle.network.specs.Write.{gates_bytes}
use Rattle.netwrite.proofs.put_gates.Given as goal

abbrev pub invariant-loop-g : goal.invariant-loop-g
invariant-loop-g l = Pending l.initial.buf l.at (gates_bytes l.s l.s.m 0) l.buf l.a (gates_bytes l.s (l.s.m - l.g) l.g)
