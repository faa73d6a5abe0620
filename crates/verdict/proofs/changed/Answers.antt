-- The word of the output's signal is read in both. Assumes nothing.
use Rattle.simulate.proofs.RowLaws.{words-at}
use Rattle.verdict.proofs.changed.Goals as goal

pub returns : goal.returns
returns c =
    let a = c.args in
    rw (c.from-s.ensures, words-at a.xs.now a.w _ c.requires.2, words-at a.ys.now a.w _ c.requires.2)
