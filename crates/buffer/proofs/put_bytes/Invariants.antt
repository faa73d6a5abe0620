use Prim.Native.Nat.{◌+◌, ◌-◌}
use Rattle.bits.specs.Lists.{bytes_in}
use Rattle.buffer.proofs.Laying.{Pending}
use Rattle.buffer.proofs.put_bytes.Given as goal

abbrev pub invariant-loop-i : goal.invariant-loop-i
invariant-loop-i l = Pending l.initial.buf l.at (bytes_in l.c l.x) l.buf (l.at + l.i) (bytes_in (l.c - l.i) l.y)
