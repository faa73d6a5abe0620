use Rattle.buffer.specs.Laid.{Laid}
use Rattle.blifwrite.specs.Pieces.{cover_bytes}
use Rattle.blifwrite.proofs.put_cover.Given as goal

abbrev pub invariant-loop-t : goal.invariant-loop-t
invariant-loop-t l = Laid l.initial.buf l.at (cover_bytes l.k l.table l.t) l.buf l.a
