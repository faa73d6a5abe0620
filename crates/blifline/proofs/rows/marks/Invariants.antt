use mathlib.Core.Path.{◌≡◌}
use lib.ListN.{length, drop}
use Rattle.text.specs.Words.{all}
use Rattle.blif.specs.Cover.{is_mark}
use Rattle.blifline.proofs.rows.marks.Given as goal

abbrev pub invariant-loop-b : goal.invariant-loop-b
invariant-loop-b l = (length l.row ≡ l.k) × (all is_mark (drop l.b-index l.row) ≡ all is_mark l.row)
