-- `widelut::lut4` meets its contract. Assumes nothing.
use mathlib.Core.List.{[], ◌∷◌}
use Rattle.bits.specs.Bit.{bit}
use Rattle.bits.proofs.Shannon.{davio}
use Rattle.widelut.proofs.lut4.Goals as goal

pub returns : goal.returns
returns c a b known i h =
    let s = c.args in
    davio s.t c.lut3.result c.lut3-2.result s.d i (bit a i ∷ bit b i ∷ bit s.c i ∷ []) (c.lut3.ensures a b known i h) (c.lut3-2.ensures a b known i h)
