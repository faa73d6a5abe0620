use Rattle.buffer.proofs.Laying.{Pending}
use Rattle.text.specs.Numbers.{hex}
use Rattle.text.proofs.put_hex.Given as goal

abbrev pub invariant-loop-left : goal.invariant-loop-left
invariant-loop-left l = Pending l.initial.buf l.at (hex l.c l.x) l.buf l.a (hex l.left l.x)
