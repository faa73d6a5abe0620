use lib.ListN.{get_or}
use Rattle.simulate.proofs.RowLaws.{Stored}
use Rattle.simulate.proofs.store_row.Given as goal

abbrev pub invariant-loop-w : goal.invariant-loop-w
invariant-loop-w l = Stored l.initial.rows l.rows (λ w. get_or l.row w 0) l.s l.w
