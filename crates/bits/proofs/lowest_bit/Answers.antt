-- `bits::lowest_bit` meets its contract. Assumes nothing.
use Rattle.bits.proofs.BitLaws.{trailing}
use Rattle.bits.proofs.lowest_bit.Goals as goal

pub returns : goal.returns
returns c = trailing 64 c.args.x c.ranges.x.fits c.requires
