-- `entries::meets` meets its contract. Assumes nothing.
use mathlib.Core.Path.{ap, ◌∙◌}
use native.Mathlib.Omega.{arith}
use lib.Bits.{bit_or}
use Rattle.bits.specs.Bounds.{gate_places}
use Rattle.bits.specs.Range.{places}
use Rattle.bits.proofs.Ranges.{places-at}
use Rattle.entries.proofs.Delivery.{by-equality}
use Rattle.entries.proofs.meets.Goals as goal

pub returns : goal.returns
returns c =
    let a = c.args in
    c.with_delivered.ensures ∙ ap (bit_or a.found) (by-equality a.k a.ins.now (places gate_places (λ i. 0)) a.keep (λ i h. places-at 0 gate_places (λ i. 0) i (omega arith)))
