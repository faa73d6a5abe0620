use Rattle.network.specs.Load.{output_record}
use Rattle.network.proofs.TestLaws.{short-i, handed-on}
use Rattle.state.proofs.TestSteps.{or-last}
use Rattle.netread.specs.declared.Kind.TheVariants.{Output}
use Rattle.netread.proofs.Marks.{is-due, refused-due, other-due}
use Rattle.netread.proofs.Records.{short}
use Rattle.netread.proofs.output_record.Goals as goal

pub returns-in_err-kind_at : goal.returns-in_err-kind_at
unfolding output_record
returns-in_err-kind_at c = handed-on c.from_residual.ensures.1 (rw (refused-due _ _ Output c.kind_at.ensures c.in_err-kind_at.was))

pub returns-in_default : goal.returns-in_default
unfolding output_record
returns-in_default c = rw (other-due _ _ Output c.kind_at.ensures c.in_ok-kind_at.was c.in_default.not-Output)

pub returns-then-rest-lt3 : goal.returns-then-rest-lt3
unfolding output_record
returns-then-rest-lt3 c = rw (is-due _ _ Output c.kind_at.ensures c.in_ok-kind_at.was c.in-Output.is, short 3 _ c.if-rest-lt3.true)

pub returns : goal.returns
unfolding output_record
returns c = rw (is-due _ _ Output c.kind_at.ensures c.in_ok-kind_at.was c.in-Output.is, short-i 3 _ c.if-rest-lt3.false) (or-last _ c.output_test.ensures)
