use mathlib.Core.Path.{◌≡◌}
use Prim.Native.Nat.{ℕ, ◌<◌}
use lib.ListN.{get_or}
use Rattle.simulate.specs.Simulated.{words_at}
use Rattle.incremental.proofs.same_row.Given as goal

abbrev pub invariant-loop-w : goal.invariant-loop-w
invariant-loop-w l = (q : ℕ) → q < l.w → get_or l.row q 0 ≡ get_or (words_at l.rows q) l.s 0
