use mathlib.Core.Path.{◌≡◌}
use lib.ListN.{length}
use Rattle.network.specs.Bounds.{fanin_places}
use Rattle.edges.specs.Edges.{SmallEdged}
use Rattle.edges.proofs.small_edges.Given as goal

abbrev pub invariant-loop-g : goal.invariant-loop-g
invariant-loop-g l = (length l.edges ≡ fanin_places) × SmallEdged l.arity l.tables l.edges l.g
