use mathlib.Core.Path.{◌≡◌}
use lib.ListN.{length}
use Rattle.network.specs.Bounds.{most_gates}
use Rattle.dontcares.specs.Tabled.{GatesTabled}
use Rattle.dontcares.proofs.tables_of.Given as goal

abbrev pub invariant-loop-g : goal.invariant-loop-g
invariant-loop-g l =
    (length l.cdc ≡ most_gates) × (length l.full ≡ most_gates)
    × GatesTabled l.arity l.fanins l.excluded l.rows l.odc l.count l.live l.a l.e l.cdc l.full l.g
