-- `bits::complement` meets its contract. Assumes nothing.
use Rattle.bits.proofs.BitLaws.{bit_not}
use Rattle.bits.proofs.complement.Goals as goal

pub returns : goal.returns
returns c i h = bit_not 64 c.args.x i c.ranges.x.fits h
