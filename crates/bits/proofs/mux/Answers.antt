-- `bits::mux` meets its contract. Assumes nothing.
use Rattle.bits.proofs.BitLaws.{bit-and, bit-xor}
use Rattle.bits.proofs.Shannon.{chosen}
use Rattle.bits.proofs.mux.Goals as goal

pub returns : goal.returns
returns c i = simp (bit-xor, bit-and, chosen)
