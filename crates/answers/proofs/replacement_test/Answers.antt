-- `answers::replacement_test` meets its contract. Assumes nothing.
use mathlib.Core.Path.{◌∙◌}
use Rattle.network.specs.Net.{Replacement}
use Rattle.answers.proofs.Named.{bounded}
use Rattle.answers.proofs.Judged.{first-pair}
use Rattle.answers.proofs.replacement_test.Goals as goal

pub pair_test-requires : goal.pair_test-requires
pair_test-requires c =
    bounded c.args.s _ _ c.from-n.ensures c.from-m.ensures c.requires

pub returns : goal.returns
returns c =
    let r : Replacement = record { signal = c.args.gate; table = c.args.table } in
    c.pair_test.ensures ∙ first-pair c.args.s r _ _ c.from-n.ensures c.from-m.ensures c.requires
