-- `patternsets::words_needed` meets its contract. Assumes nothing.
use Rattle.patternsets.proofs.Words.{needed}
use Rattle.patternsets.proofs.words_needed.Goals as goal

pub returns : goal.returns
returns c = needed c.args.s _ _ c.from.ensures c.words_per_set-w.ensures.0
