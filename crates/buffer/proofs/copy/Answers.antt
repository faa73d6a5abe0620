use Rattle.buffer.proofs.Laying.{laid-whole}
use Rattle.buffer.proofs.copy.Goals as goal

pub returns : goal.returns
returns c = laid-whole _ _ c.args.bytes.now c.args.at c.copy_from_slice.ensures.after c.requires
