-- `bits::frame_of` meets its contract. Assumes nothing.
use borrow.Author.Rules.{rules}
use Rattle.bits.proofs.Cuts.{cut-words}
use Rattle.bits.proofs.frame_of.Goals as goal

pub mask-live-requires : goal.mask-live-requires
mask-live-requires c = c.size-z.ensures.places

pub returns : goal.returns
returns c =
    let z = c.size-z in
    record { words = cut-words _ _ _ z.ensures; word = search rules; size = z.result.places; cut = z.ensures; lives = c.mask-live.ensures.1 }
