-- `bits::ones` meets its contract. Assumes nothing.
use Rattle.bits.proofs.BitLaws.{ones-count}
use Rattle.bits.proofs.ones.Goals as goal

pub returns : goal.returns
returns c = ones-count 64 c.args.x c.ranges.x.fits
