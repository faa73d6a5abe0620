use Rattle.edges.proofs.Turning.{Turning}
use Rattle.edges.proofs.gate_edges.Given as goal

abbrev pub invariant-loop-r : goal.invariant-loop-r
invariant-loop-r g l = Turning g.row.TURNS l.k l.table l.at l.initial.edges l.entries l.edges l.words l.r
