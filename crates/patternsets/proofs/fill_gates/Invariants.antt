use mathlib.Core.Path.{◌≡◌}
use mathlib.Core.List.{◌++◌}
use Prim.Native.Nat.{◌+◌, ◌*◌}
use lib.ListN.{drop}
use Rattle.patternsets.specs.Stretches.{stretches}
use Rattle.patternsets.proofs.fill_gates.Given as goal

abbrev pub invariant-loop-g : goal.invariant-loop-g
invariant-loop-g l = l.buf ≡ stretches l.odcs l.sets l.w l.g ++ drop (l.g * (l.w + l.w)) l.initial.buf
