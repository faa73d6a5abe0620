use mathlib.Core.Path.{◌≡◌}
use lib.ListN.{length}
use Rattle.bits.specs.Bounds.{row_words}
use Rattle.verdict.specs.Changed.{Harmed}
use Rattle.verdict.proofs.harm_words.Given as goal

abbrev pub invariant-loop-w : goal.invariant-loop-w
invariant-loop-w l = (length l.harmed ≡ row_words) × Harmed l.p l.excluded l.outs l.xs l.ys l.live l.w l.harmed
