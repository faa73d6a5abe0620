use mathlib.Core.Path.{◌≡◌}
use Prim.Native.Nat.{◌^◌}
use lib.ListN.{length}
use Rattle.network.specs.Bounds.{most_entries}
use Rattle.edges.specs.Edges.{Constants}
use Rattle.edges.proofs.constants.Given as goal

abbrev pub invariant-loop-r : goal.invariant-loop-r
invariant-loop-r l = (length l.words ≡ most_entries) × Constants l.table l.words (2 ^ l.r)
