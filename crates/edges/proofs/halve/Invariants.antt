use mathlib.Core.Path.{◌≡◌}
use lib.ListN.{length}
use Rattle.network.specs.Bounds.{most_entries}
use Rattle.edges.proofs.EdgeWords.{Halving}
use Rattle.edges.proofs.halve.Given as goal

abbrev pub invariant-loop-h : goal.invariant-loop-h
invariant-loop-h l = (length l.words ≡ most_entries) × Halving l.initial.words l.words l.free l.h
