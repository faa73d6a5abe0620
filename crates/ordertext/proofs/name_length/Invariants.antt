use mathlib.Core.Path.{◌≡◌}
use lib.ListN.{length}
use Rattle.ordertext.specs.Order.{before_last}
use Rattle.ordertext.proofs.name_length.Given as goal

abbrev pub invariant-loop-i : goal.invariant-loop-i
invariant-loop-i l = before_last l.w l.i ≡ before_last l.w (length l.w)
