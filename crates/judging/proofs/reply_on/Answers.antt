-- `reply_on`: by the verdict, the pair that is refused and whether all are open. Assumes nothing.
use mathlib.Core.Path.{◌∙◌}
use Rattle.judging.proofs.Judging.{reply-is}
use Rattle.judging.proofs.reply_on.Goals as goal

pub returns : goal.returns
returns c =
    c.reply_with.ensures
    ∙ reply-is c.args.s c.args.gates.now c.args.tables.now c.requires.gates_len c.verdict-v.ensures c.refused_at-k.ensures c.all_open-opens.ensures
