use mathlib.Core.Path.{◌≡◌}
use lib.ListN.{length}
use Rattle.network.specs.Bounds.{most_gates}
use Rattle.incremental.specs.Updated.{Masked}
use Rattle.incremental.proofs.fanin_masks.Given as goal

abbrev pub invariant-loop-g : goal.invariant-loop-g
invariant-loop-g l = (length l.l ≡ most_gates) × Masked l.arity l.fanins l.l l.g
