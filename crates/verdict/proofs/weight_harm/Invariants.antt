use mathlib.Core.Path.{◌≡◌}
use Rattle.verdict.specs.Changed.{harmed_at, at_weight, weight_harm}
use Rattle.verdict.proofs.Turns.{left}
use Rattle.verdict.proofs.weight_harm.Given as goal

abbrev pub invariant-loop-w : goal.invariant-loop-w
invariant-loop-w l =
    let h = harmed_at l.harmed l.outs l.xs l.ys in
    left (at_weight l.c h) l.p l.count l.w ≡ weight_harm h l.p l.count l.c
