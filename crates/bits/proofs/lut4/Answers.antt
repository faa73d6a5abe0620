-- `bits::lut4` meets its contract. Assumes nothing.
use mathlib.Core.List.{[], ◌∷◌}
use Rattle.bits.specs.Bit.{bit}
use Rattle.bits.proofs.Shannon.{davio}
use Rattle.bits.proofs.lut4.Goals as goal

pub returns : goal.returns
returns c i h =
    let s = c.args in
    davio s.t c.lut3.result c.lut3-2.result s.d i (bit s.a i ∷ bit s.b i ∷ bit s.c i ∷ []) (c.lut3.ensures i h) (c.lut3-2.ensures i h)
