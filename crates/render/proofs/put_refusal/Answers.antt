-- `put_refusal`: the word and a number. Assumes nothing.
use Rattle.render.proofs.Pieces.{refusal-laid}
use Rattle.render.proofs.put_refusal.Goals as goal

pub returns : goal.returns
returns c =
    refusal-laid _ c.copy-a.ensures c.put_number.ensures
