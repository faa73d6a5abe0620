-- `set_current`: one word set. Assumes nothing.
use Rattle.packed.proofs.Inverse.{current-set}
use Rattle.packed.proofs.set_current.Goals as goal

pub returns : goal.returns
returns c = current-set c.args.words.now c.args.g c.args.table c.requires.0 c.requires.1
