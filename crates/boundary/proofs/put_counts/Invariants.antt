use lib.ListN.{drop}
use Rattle.buffer.proofs.Laying.{Pending}
use Rattle.boundary.proofs.put_counts.Given as goal

abbrev pub invariant-loop-i : goal.invariant-loop-i
invariant-loop-i l = Pending l.initial.out 0 l.counts l.out l.i (drop l.i l.counts)
