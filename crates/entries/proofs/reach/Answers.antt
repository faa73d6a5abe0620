-- `entries::reach` meets its contract. Assumes nothing.
use mathlib.Core.Path.{ap, ◌∙◌}
use lib.Bits.{bit_or}
use Rattle.entries.proofs.Delivery.{by-agreement}
use Rattle.entries.proofs.reach.Goals as goal

pub returns : goal.returns
returns c =
    let a = c.args in
    c.with_delivered.ensures ∙ ap (bit_or a.found) (by-agreement a.k a.ins.now a.frees.now a.keep)
