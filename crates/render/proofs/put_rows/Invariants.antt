use Rattle.buffer.specs.Laid.{Laid}
use Rattle.render.specs.Text.{rows_at}
use Rattle.render.proofs.put_rows.Given as goal

abbrev pub invariant-loop-g : goal.invariant-loop-g
invariant-loop-g l = Laid l.initial.buf l.at (rows_at l.t l.g) l.buf l.a
