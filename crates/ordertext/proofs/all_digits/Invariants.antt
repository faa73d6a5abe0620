use mathlib.Core.Path.{◌≡◌}
use lib.ListN.{drop}
use Rattle.ordertext.specs.Order.{digits}
use Rattle.ordertext.proofs.all_digits.Given as goal

abbrev pub invariant-loop-b : goal.invariant-loop-b
invariant-loop-b l = (digits l.base (drop l.b-index l.w) ≡ digits l.base l.w)
