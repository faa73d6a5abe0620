use Rattle.buffer.specs.Laid.{Laid}
use Rattle.blif.specs.Write.{marks}
use Rattle.blifwrite.proofs.put_marks.Given as goal

abbrev pub invariant-loop-r : goal.invariant-loop-r
invariant-loop-r l = Laid l.initial.buf l.at (marks l.r l.t) l.buf l.a
