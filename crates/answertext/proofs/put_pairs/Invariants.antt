use lib.ListN.{drop}
use Rattle.ordertext.specs.Reads.{pairs_given}
use Rattle.buffer.proofs.Laying.{Pending}
use Rattle.desk.specs.Answer.{pair_lines}
use Rattle.answertext.proofs.put_pairs.Given as goal

abbrev pub invariant-loop-i : goal.invariant-loop-i
invariant-loop-i l = Pending l.initial.buf l.at (pair_lines l.s (pairs_given l.text l.o)) l.buf l.a (pair_lines l.s (drop l.i (pairs_given l.text l.o)))
