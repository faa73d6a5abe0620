-- No pattern of less weight than c is harmed. Assumes nothing.
use native.Mathlib.Omega.{arith}
use Rattle.network.proofs.TestLaws.{handed-on}
use Rattle.verdict.proofs.ByWeight.{weights-found, weights-next}
use Rattle.verdict.proofs.lightest_harm.Goals as goal

pub returns-in_err-weight_harm : goal.returns-in_err-weight_harm
returns-in_err-weight_harm c =
    handed-on c.from_residual.ensures.1 (weights-found _ _ _ _ c.loop-c.invariant _ c.weight_harm.ensures c.args.n (omega arith) c.in_err-weight_harm.was)

pub loop-c-preserved : goal.loop-c-preserved
loop-c-preserved c = weights-next _ _ _ _ c.loop-c.invariant _ c.weight_harm.ensures c.in_ok-weight_harm.was
