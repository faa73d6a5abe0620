use mathlib.Core.Path.{◌≡◌}
use Prim.Native.Nat.{◌+◌}
use lib.ListN.{length, drop}
use Rattle.text.specs.Words.{before}
use Rattle.ordertext.specs.Order.{gap_is}
use Rattle.ordertext.proofs.find.Given as goal

abbrev pub invariant-loop-i : goal.invariant-loop-i
invariant-loop-i l = (l.i + length (before (gap_is l.wanted) (drop l.i l.text)) ≡ l.at + length (before (gap_is l.wanted) (drop l.at l.text)))
