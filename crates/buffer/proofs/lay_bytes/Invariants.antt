use Prim.Native.Nat.{◌+◌}
use lib.ListN.{drop}
use Rattle.buffer.proofs.Laying.{Pending}
use Rattle.buffer.proofs.lay_bytes.Given as goal

abbrev pub invariant-loop-i : goal.invariant-loop-i
invariant-loop-i l = Pending l.initial.words l.at l.bytes l.words (l.at + l.i) (drop l.i l.bytes)
