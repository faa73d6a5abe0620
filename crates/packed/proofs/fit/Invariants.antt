use mathlib.Core.Path.{◌≡◌}
use lib.Dec.{ltb}
use lib.ListN.{get_or}
use Rattle.bits.specs.Range.{every}
use Rattle.packed.proofs.fit.Given as goal

abbrev pub invariant-loop-i : goal.invariant-loop-i
invariant-loop-i l = ltb l.acc 256 ≡ every l.i (λ j. ltb (get_or l.words j 0) 256)
