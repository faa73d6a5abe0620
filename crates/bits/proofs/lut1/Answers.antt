-- `bits::lut1` meets its contract. Assumes nothing.
use mathlib.Core.List.{[]}
use Rattle.bits.proofs.Shannon.{davio}
use Rattle.bits.proofs.lut1.Goals as goal

pub returns : goal.returns
returns c i h =
    let s = c.args in
    davio s.t c.broadcast.result c.broadcast-2.result s.a i [] (c.broadcast.ensures i h) (c.broadcast-2.ensures i h)
