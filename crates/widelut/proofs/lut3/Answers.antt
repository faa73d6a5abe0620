-- `widelut::lut3` meets its contract. Assumes nothing.
use mathlib.Core.List.{[], ◌∷◌}
use Rattle.bits.specs.Bit.{bit}
use Rattle.bits.proofs.Shannon.{davio}
use Rattle.widelut.proofs.lut3.Goals as goal

pub returns : goal.returns
returns c a b known i h =
    let s = c.args in
    davio s.t c.lut2.result c.lut2-2.result s.c i (bit a i ∷ bit b i ∷ []) (c.lut2.ensures a b known i h) (c.lut2-2.ensures a b known i h)
