use mathlib.Core.Path.{◌≡◌}
use Rattle.opentables.specs.Closed.{closed_by}
use Rattle.opentables.proofs.closed_by.Given as goal

abbrev pub invariant-loop-w : goal.invariant-loop-w
invariant-loop-w l = l.acc ≡ closed_by l.arity l.fanins l.rows l.hs l.n l.live l.w l.g
