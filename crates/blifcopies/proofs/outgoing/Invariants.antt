use mathlib.Core.Path.{◌≡◌}
use Rattle.blifcopies.specs.Copies.{grown}
use Rattle.blifcopies.proofs.outgoing.Given as goal

abbrev pub invariant-loop-i : goal.invariant-loop-i
invariant-loop-i l = l.t ≡ grown l.initial.t l.i
