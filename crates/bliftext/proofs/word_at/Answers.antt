-- `bliftext::word_at` meets its contract. Assumes nothing.
use lib.ListN.{drop}
use Rattle.blif.specs.Text.{fields}
use Rattle.bliftext.proofs.Spans.{word_next}
use Rattle.bliftext.proofs.word_at.Goals as goal

pub loop-i-preserved : goal.loop-i-preserved
loop-i-preserved c =
    let a = c.args in
    let h = c.loop-i in
    word_next a.s.now a.at h._i (fields (drop a.at a.s.now)) h.x c.word_from-x-in-loop-i.result h.invariant c.word_from-x-in-loop-i.ensures
