use mathlib.Core.Path.{◌≡◌}
use lib.ListN.{length, take, drop}
use Rattle.network.specs.Bounds.{most_signals}
use Rattle.blif.specs.Text.{fields}
use Rattle.bliftext.specs.Spans.{WordAt}
use Rattle.blifline.specs.Lines.{Held}
use Rattle.blifline.proofs.names_at.Given as goal

abbrev pub invariant-loop-i : goal.invariant-loop-i
invariant-loop-i l = (length l.names ≡ most_signals) × WordAt l.s l.at (drop l.i (fields (drop l.at l.s))) l.x × Held l.s l.names l.i (take l.i (fields (drop l.at l.s)))
