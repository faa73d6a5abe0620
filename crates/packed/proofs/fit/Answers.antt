-- `fit`: the words passed fit where their or does. Assumes nothing.
use mathlib.Core.Path.{ap, ◌∙◌}
use mathlib.Core.Bool.{Bool, ◌&&◌}
use native.Mathlib.Numerals.{add-one}
use lib.Dec.{ltb}
use lib.ListN.{get_or}
use Rattle.packed.proofs.Reading.{or-fits}
use Rattle.packed.proofs.fit.Goals as goal

pub loop-i-preserved : goal.loop-i-preserved
loop-i-preserved c =
    let w = c.args.words.now in
    let l = c.loop-i in
    rw add-one (or-fits l.acc (get_or w l.i 0) ∙ ap (λ (b : Bool). b && ltb (get_or w l.i 0) 256) l.invariant)
