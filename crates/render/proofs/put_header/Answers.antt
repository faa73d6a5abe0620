-- `put_header`: one line of fixed bytes. Assumes nothing.
use Rattle.render.specs.Listing.{header}
use Rattle.render.proofs.put_header.Goals as goal

pub returns : goal.returns
unfolding header
returns c = c.copy.ensures
