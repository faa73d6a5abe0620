use Prim.Native.Nat.{◌-◌}
use lib.ListN.{length}
use Rattle.ordertext.proofs.Turns.{Reading}
use Rattle.ordertext.proofs.order_of.Given as goal

abbrev pub invariant-loop-at : goal.invariant-loop-at
invariant-loop-at l = Reading l.text l.gates l.tables l.starts l.ends l.n l.at

abbrev pub decreases-loop-at : goal.decreases-loop-at
decreases-loop-at l = length l.text - l.at
