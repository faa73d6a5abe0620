-- `bits::lut2` meets its contract. Assumes nothing.
use mathlib.Core.List.{[], ◌∷◌}
use Rattle.bits.specs.Bit.{bit}
use Rattle.bits.proofs.Shannon.{davio}
use Rattle.bits.proofs.lut2.Goals as goal

pub returns : goal.returns
returns c i h =
    let s = c.args in
    davio s.t c.lut1.result c.lut1-2.result s.b i (bit s.a i ∷ []) (c.lut1.ensures i h) (c.lut1-2.ensures i h)
