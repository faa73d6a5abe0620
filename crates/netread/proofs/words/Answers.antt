use mathlib.Core.Path.{sym, ◌∙◌}
use native.Mathlib.Omega.{arith}
use lib.ListN.{length-set}
use Rattle.netread.proofs.Steps.{words_step, words-done}
use Rattle.netread.proofs.words.Goals as goal

pub loop-i-preserved : goal.loop-i-preserved
loop-i-preserved c =
    let w = c.word_at in
    let h = c.loop-i in (
      length-set h.ws h.i w.result ∙ h.invariant.0,
      words_step h.ws c.args.bs.now h.i w.result (omega arith) h.invariant.0 w.ensures ∙ h.invariant.1,
    )

pub returns : goal.returns
returns c =
    let h = c.loop-i in
    sym (words-done h.ws c.args.bs.now h.i (omega arith) h.invariant.0) ∙ h.invariant.1
