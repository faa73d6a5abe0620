use lib.ListN.{drop}
use Rattle.blif.specs.Text.{fields}
use Rattle.bliftext.specs.Spans.{WordAt}
use Rattle.bliftext.proofs.word_at.Given as goal

abbrev pub invariant-loop-i : goal.invariant-loop-i
invariant-loop-i l = WordAt l.s l.at (drop l._i (fields (drop l.at l.s))) l.x
