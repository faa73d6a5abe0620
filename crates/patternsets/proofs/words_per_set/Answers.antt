-- `patternsets::words_per_set` meets its contract. Assumes nothing.
use native.Mathlib.Omega.{arith}
use Rattle.network.proofs.Valid.{net-ok}
use Rattle.patternsets.proofs.words_per_set.Goals as goal

pub frame_of-f-requires : goal.frame_of-f-requires
frame_of-f-requires c = omega (arith, (net-ok c.args.s c.requires).ins)
