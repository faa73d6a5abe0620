use mathlib.Core.Path.{◌≡◌}
use lib.ListN.{drop}
use Rattle.text.specs.Words.{is_printing, all}
use Rattle.ordertext.proofs.all_printing.Given as goal

abbrev pub invariant-loop-b : goal.invariant-loop-b
invariant-loop-b l = (all is_printing (drop l.b-index l.w) ≡ all is_printing l.w)
