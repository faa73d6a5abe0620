use Rattle.buffer.specs.Laid.{Laid}
use Rattle.desk.specs.Answer.{on_lines}
use Rattle.answertext.proofs.put_lines_on.Given as goal

abbrev pub invariant-loop-i : goal.invariant-loop-i
invariant-loop-i l = Laid l.initial.buf l.at (on_lines l.x l.i) l.buf l.a
