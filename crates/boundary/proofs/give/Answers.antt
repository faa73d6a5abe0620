-- `boundary::give` meets its contract. Assumes nothing.
use mathlib.Core.Path.{refl}
use Rattle.buffer.proofs.Laying.{laid-start}
use Rattle.boundary.proofs.give.Goals as goal

pub returns : goal.returns
returns c =
    let a = c.args in
    (laid-start a.out.now a.values.now _ _ c.requires (record { buffer = c.lay_words.ensures; behind = refl })).1
