-- `widelut::lut6` meets its contract. Assumes nothing.
use mathlib.Core.List.{[], ◌∷◌}
use Rattle.bits.specs.Bit.{bit}
use Rattle.bits.proofs.Shannon.{davio}
use Rattle.widelut.proofs.lut6.Goals as goal

pub returns : goal.returns
returns c a b known i h =
    let s = c.args in
    davio s.t c.lut5.result c.lut5-2.result s.f i (bit a i ∷ bit b i ∷ bit s.c i ∷ bit s.d i ∷ bit s.e i ∷ []) (c.lut5.ensures a b known i h) (c.lut5-2.ensures a b known i h)
