use mathlib.Core.Path.{◌≡◌}
use lib.ListN.{length}
use Rattle.network.specs.Bounds.{signal_words}
use Rattle.simulate.specs.Simulated.{Rows}
use Rattle.simulate.proofs.rows.Given as goal

abbrev pub invariant-loop-g : goal.invariant-loop-g
invariant-loop-g l = (length l.rows ≡ signal_words) × Rows l.arity l.fanins l.tables l.rows l.n l.g l.count
