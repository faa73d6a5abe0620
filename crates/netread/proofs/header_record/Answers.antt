use Rattle.network.specs.Load.{header_record}
use Rattle.network.proofs.TestLaws.{short-i, handed-on}
use Rattle.netread.specs.declared.Kind.TheVariants.{Header}
use Rattle.netread.proofs.Marks.{is-due, refused-due, other-due}
use Rattle.netread.proofs.Records.{short}
use Rattle.netread.proofs.header_record.Goals as goal

pub returns-in_err-kind_at : goal.returns-in_err-kind_at
unfolding header_record
returns-in_err-kind_at c = handed-on c.from_residual.ensures.1 (rw (refused-due _ _ Header c.kind_at.ensures c.in_err-kind_at.was))

pub returns-in_default : goal.returns-in_default
unfolding header_record
returns-in_default c = rw (other-due _ _ Header c.kind_at.ensures c.in_ok-kind_at.was c.in_default.not-Header)

pub returns-then-rest-lt5 : goal.returns-then-rest-lt5
unfolding header_record
returns-then-rest-lt5 c = rw (is-due _ _ Header c.kind_at.ensures c.in_ok-kind_at.was c.in-Header.is, short 5 _ c.if-rest-lt5.true)

pub returns : goal.returns
unfolding header_record
returns c = rw (is-due _ _ Header c.kind_at.ensures c.in_ok-kind_at.was c.in-Header.is, short-i 5 _ c.if-rest-lt5.false) c.counts_test.ensures
