use mathlib.Core.Path.{◌≡◌}
use Rattle.network.specs.Answer.{Done}
use Rattle.verdict.specs.Changed.{harmed_at, lightest_harm}
use Rattle.verdict.proofs.lightest_harm.Given as goal

-- no pattern of less weight than c is harmed
abbrev pub invariant-loop-c : goal.invariant-loop-c
invariant-loop-c l = lightest_harm (harmed_at l.harmed l.outs l.xs l.ys) l.p l.count l.c ≡ Done
