-- `dontcares::without` meets its contract. Assumes nothing.
use mathlib.Core.Path.{ap, ◌∙◌}
use mathlib.Core.Bool.{Bool, ◌&&◌}
use Rattle.bits.specs.Bit.{bit}
use Rattle.bits.proofs.BitLaws.{bit-and}
use Rattle.dontcares.proofs.without.Goals as goal

pub returns : goal.returns
returns c b h =
    let a = c.args in
    bit-and a.word c.complement.result b ∙ ap (λ (x : Bool). bit a.word b && x) (c.complement.ensures b h)
