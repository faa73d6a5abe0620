-- The outputs before i are in the word. Assumes nothing.
use Rattle.bits.proofs.BitLaws.{bit-zero}
use Rattle.simulate.specs.Simulated.{words_at}
use Rattle.verdict.specs.Changed.{changed_word}
use Rattle.verdict.proofs.HarmWords.{changes-step}
use Rattle.verdict.proofs.changes.Goals as goal

pub loop-i-init : goal.loop-i-init
loop-i-init c b = bit-zero b

pub loop-i-preserved : goal.loop-i-preserved
loop-i-preserved c =
    let a = c.args in
    let l = c.loop-i in
    changes-step (changed_word a.outs.now (words_at a.xs.now a.w) (words_at a.ys.now a.w)) l.acc c.changed-acc.result l.i l.invariant c.changed-acc.ensures
