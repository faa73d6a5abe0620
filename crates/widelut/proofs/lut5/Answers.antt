-- `widelut::lut5` meets its contract. Assumes nothing.
use mathlib.Core.List.{[], ◌∷◌}
use Rattle.bits.specs.Bit.{bit}
use Rattle.bits.proofs.Shannon.{davio}
use Rattle.widelut.proofs.lut5.Goals as goal

pub returns : goal.returns
returns c a b known i h =
    let s = c.args in
    davio s.t c.lut4.result c.lut4-2.result s.e i (bit a i ∷ bit b i ∷ bit s.c i ∷ bit s.d i ∷ []) (c.lut4.ensures a b known i h) (c.lut4-2.ensures a b known i h)
