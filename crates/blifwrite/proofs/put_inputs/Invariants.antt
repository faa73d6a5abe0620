use Rattle.buffer.specs.Laid.{Laid}
use Rattle.blifwrite.specs.Pieces.{names_bytes}
use Rattle.blifwrite.proofs.put_inputs.Given as goal

abbrev pub invariant-loop-i : goal.invariant-loop-i
invariant-loop-i l = Laid l.initial.buf l.at (names_bytes l.i (λ j. j)) l.buf l.a
