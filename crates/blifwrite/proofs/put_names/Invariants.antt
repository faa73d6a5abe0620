use lib.ListN.{get_or}
use Rattle.buffer.specs.Laid.{Laid}
use Rattle.blifwrite.specs.Pieces.{names_bytes}
use Rattle.blifwrite.proofs.put_names.Given as goal

abbrev pub invariant-loop-x : goal.invariant-loop-x
invariant-loop-x l = Laid l.initial.buf l.at (names_bytes l.x-index (λ j. get_or l.xs j 0)) l.buf l.a
