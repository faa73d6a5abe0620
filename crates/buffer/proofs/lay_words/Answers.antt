use Rattle.buffer.proofs.Laying.{laid-whole}
use Rattle.buffer.proofs.lay_words.Goals as goal

pub returns : goal.returns
returns c = (laid-whole _ _ c.args.new.now c.args.at c.copy_from_slice.ensures.after c.requires).buffer
