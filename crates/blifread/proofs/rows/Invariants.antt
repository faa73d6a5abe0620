use Prim.Native.Nat.{◌-◌}
use lib.ListN.{length}
use Rattle.blifread.specs.Drafts.{RowsTo}
use Rattle.blifread.proofs.rows.Given as goal

abbrev pub invariant-loop-l : goal.invariant-loop-l
invariant-loop-l l = RowsTo l.text l.at l.k l.digit l.table l.i

abbrev pub decreases-loop-l : goal.decreases-loop-l
decreases-loop-l l = length l.text - l.i
