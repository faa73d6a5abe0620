use Rattle.bits.specs.Bit.{bit}
use borrow.Author.Rules.{rules}
use Rattle.bits.proofs.bit_of.Goals as goal

pub returns : goal.returns
unfolding bit
returns c = search rules
