-- `entries_in`: the ones of the word. Assumes nothing.
use mathlib.Core.Path.{◌∙◌}
use Rattle.render.proofs.Pieces.{entries-are}
use Rattle.render.proofs.entries_in.Goals as goal

pub returns : goal.returns
returns c = entries-are c.args.x (c.from.ensures ∙ c.ones.ensures)
