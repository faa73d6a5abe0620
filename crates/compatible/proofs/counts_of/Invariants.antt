use mathlib.Core.Path.{◌≡◌}
use Prim.Native.Nat.{◌*◌}
use lib.ListN.{length, replicate}
use Rattle.bits.specs.Bounds.{row_words}
use Rattle.bits.proofs.Ranges.{Changed}
use Rattle.network.specs.Bounds.{most_gates}
use Rattle.compatible.specs.Words.{ones_in}
use Rattle.compatible.proofs.counts_of.Given as goal

abbrev pub invariant-loop-g : goal.invariant-loop-g
invariant-loop-g l = (length l.counts ≡ most_gates) × Changed (λ q v. ones_in l.sets (row_words * q) l.most) (replicate most_gates 0) l.counts l.g
