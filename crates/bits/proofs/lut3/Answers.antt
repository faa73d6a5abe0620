-- `bits::lut3` meets its contract. Assumes nothing.
use mathlib.Core.List.{[], ◌∷◌}
use Rattle.bits.specs.Bit.{bit}
use Rattle.bits.proofs.Shannon.{davio}
use Rattle.bits.proofs.lut3.Goals as goal

pub returns : goal.returns
returns c i h =
    let s = c.args in
    davio s.t c.lut2.result c.lut2-2.result s.c i (bit s.a i ∷ bit s.b i ∷ []) (c.lut2.ensures i h) (c.lut2-2.ensures i h)
