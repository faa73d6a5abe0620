use Rattle.judging.proofs.Judging.{Left}
use Rattle.judging.proofs.all_open.Given as goal

abbrev pub invariant-loop-i : goal.invariant-loop-i
invariant-loop-i l = Left l.s l.gates l.tables l.i
