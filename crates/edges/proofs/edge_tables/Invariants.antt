use mathlib.Core.Path.{◌≡◌}
use lib.ListN.{length}
use Rattle.network.specs.Bounds.{fanin_places}
use Rattle.edges.proofs.EdgeWords.{EdgedPast}
use Rattle.edges.proofs.edge_tables.Given as goal

abbrev pub invariant-loop-g : goal.invariant-loop-g
invariant-loop-g l = (length l.edges ≡ fanin_places) × EdgedPast l.arity l.tables l.edges l.m l.g
