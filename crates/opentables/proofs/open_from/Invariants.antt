use mathlib.Core.Path.{◌≡◌}
use lib.ListN.{length, replicate}
use Rattle.bits.proofs.Ranges.{Changed}
use Rattle.network.specs.Bounds.{most_gates}
use Rattle.opentables.specs.Closed.{open_by}
use Rattle.opentables.proofs.open_from.Given as goal

abbrev pub invariant-loop-g : goal.invariant-loop-g
invariant-loop-g l = (length l.opens ≡ most_gates) × Changed (λ q v. open_by l.arity l.fanins l.rows l.hs l.n l.live l.count q) (replicate most_gates 0) l.opens l.g
