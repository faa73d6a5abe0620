-- The words before w are done. Assumes nothing.
use mathlib.Core.Bool.{not, ◌&&◌}
use native.Mathlib.Omega.{arith}
use lib.ListN.{length-set, get_or}
use Rattle.bits.specs.Range.{any}
use Rattle.bits.specs.Bit.{bit}
use Rattle.simulate.specs.Simulated.{words_at}
use Rattle.simulate.proofs.RowLaws.{filled-bits}
use Rattle.verdict.specs.Changed.{changed_word}
use Rattle.verdict.proofs.HarmWords.{harmed-word}
use Rattle.verdict.proofs.harm_words.Goals as goal

pub loop-w-preserved : goal.loop-w-preserved
loop-w-preserved c =
    let a = c.args in
    let l = c.loop-w in (
      simp length-set l.invariant.0,
      filled-bits l.harmed (λ w b. (bit a.live b && not (bit (get_or a.excluded.now w 0) b)) && any a.p (λ i. bit (changed_word a.outs.now (words_at a.xs.now w) (words_at a.ys.now w) i) b))
          l.w _ (omega arith) l.invariant.1 (harmed-word a.p a.live c.complement.result _ c.changes.result _ c.complement.ensures c.changes.ensures),
    )
