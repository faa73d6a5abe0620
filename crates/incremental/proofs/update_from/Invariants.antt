use Rattle.incremental.specs.Updated.{Begun}
use Rattle.incremental.proofs.update_from.Given as goal

abbrev pub invariant-loop-h : goal.invariant-loop-h
invariant-loop-h l = Begun l.arity l.fanins l.before l.tables l.rows l.n l.m l.count l.h l.changed
