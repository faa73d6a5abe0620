-- `boundary::put_counts`: what is left to lay are the counts not passed. Assumes nothing.
use native.Mathlib.Omega.{arith}
use lib.ListN.{drop_of_length-le}
use Rattle.buffer.proofs.Laying.{laid-start, pending_done}
use Rattle.boundary.proofs.put_counts.Goals as goal

pub returns : goal.returns
returns c =
    let counts = c.args.counts.now in
    let l = c.loop-i in
    (laid-start c.args.out.now counts l.out l.i c.requires (pending_done l.invariant (drop_of_length-le counts {i = l.i} (omega arith)))).1
