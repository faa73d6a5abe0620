use mathlib.Core.Path.{◌≡◌}
use Prim.Native.Nat.{◌/◌, ◌^◌, ◌≤◌}
use lib.ListN.{length}
use Rattle.network.specs.Bounds.{most_entries}
use Rattle.edges.specs.Edges.{Doubled}
use Rattle.edges.proofs.double.Given as goal

abbrev pub invariant-loop-f : goal.invariant-loop-f
invariant-loop-f l = (l.size ≡ 2 ^ l.r) × (2 ^ l.r ≤ most_entries / 2) × (length l.words ≡ most_entries) × Doubled l.initial.words l.words l.r l.like l.f
