use Prim.Native.Nat.{◌-◌}
use Rattle.buffer.proofs.Laying.{Pending}
use Rattle.network.specs.Write.{outputs_bytes}
use Rattle.netwrite.proofs.put_outputs.Given as goal

abbrev pub invariant-loop-i : goal.invariant-loop-i
invariant-loop-i l = Pending l.initial.buf l.at (outputs_bytes l.s l.s.p 0) l.buf l.a (outputs_bytes l.s (l.s.p - l.i) l.i)
