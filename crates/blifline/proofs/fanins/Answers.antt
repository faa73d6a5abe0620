-- `blifline::fanins` meets its contract. Assumes nothing.
use mathlib.Core.Path.{◌∙◌}
use native.Mathlib.Omega.{arith}
use lib.ListN.{drop}
use Rattle.blif.specs.Text.{fields}
use Rattle.blif.specs.Read.{known, place_in}
use Rattle.bliftext.specs.Named.{names_at}
use Rattle.bliftext.proofs.Spans.{word_next}
use Rattle.blifline.proofs.Lists.{sets-on}
use Rattle.blifline.proofs.fanins.Goals as goal

pub loop-i-preserved : goal.loop-i-preserved
loop-i-preserved c =
    let a = c.args in
    let ns = names_at a.text.now a.signals.now in
    let ws = fields (drop a.at a.s.now) in
    let h = c.loop-i in
    let p = c.signal_of in
    (word_next a.s.now a.at h.i ws h.x c.word_from-x-in-loop-i.result h.invariant.0 c.word_from-x-in-loop-i.ensures, sets-on (known ns) a.s.now a.at h.i a.k ws h.x c.loop-i-test.true (omega arith) h.invariant.0 (place_in ns) h.u a.b p.result p.ensures ∙ h.invariant.1)
