use mathlib.Core.Path.{◌≡◌}
use Rattle.compatible.specs.Words.{ones_in}
use Rattle.compatible.proofs.ones_in.Given as goal

abbrev pub invariant-loop-w : goal.invariant-loop-w
invariant-loop-w l = (l.sum ≡ ones_in l.sets l.at l.w)
