-- `patternsets::fill_gates` meets its contract: the stretches of the gates before g are laid, the words after them are as they were. Assumes nothing.
use mathlib.Core.Path.{refl}
use Rattle.patternsets.proofs.BufferSteps.{more-words, laid}
use Rattle.patternsets.proofs.fill_gates.Goals as goal

pub loop-g-preserved : goal.loop-g-preserved
loop-g-preserved c =
    let l = c.loop-g in
    let a = c.args in
    rw more-words (laid a.buf.now a.odcs.now a.sets.now a.w l.g _ l.buf c.fill_gate.new.out refl l.invariant c.fill_gate.ensures)
