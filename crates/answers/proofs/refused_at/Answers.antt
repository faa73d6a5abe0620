-- `answers::refused_at` meets its contract. Assumes nothing.
use mathlib.Core.Path.{◌∙◌}
use Rattle.network.specs.Calls.{pairs}
use Rattle.answers.proofs.Named.{bounded}
use Rattle.answers.proofs.Judged.{refused-is}
use Rattle.answers.proofs.refused_at.Goals as goal

pub pairs_test-requires : goal.pairs_test-requires
pairs_test-requires c =
    record { bounded = bounded c.args.s _ _ c.from-n.ensures c.from-m.ensures c.requires.s_value; gates_len = c.requires.gates_len }

pub returns-in-Ok : goal.returns-in-Ok
returns-in-Ok c =
    c.in-Ok.ensures.1 ∙ refused-is c.args.s _ _ c.from-n.ensures c.from-m.ensures (pairs c.args.gates.now c.args.tables.now)

pub returns-in-Err : goal.returns-in-Err
returns-in-Err c =
    c.in-Err.ensures.1 ∙ refused-is c.args.s _ _ c.from-n.ensures c.from-m.ensures (pairs c.args.gates.now c.args.tables.now)
