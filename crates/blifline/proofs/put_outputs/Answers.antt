-- `blifline::put_outputs` meets its contract. Assumes nothing.
use mathlib.Core.Path.{◌∙◌}
use Rattle.blif.specs.Read.{place_in}
use Rattle.bliftext.specs.Named.{names_at}
use Rattle.blifline.proofs.Lists.{names-put, names-stored}
use Rattle.blifline.proofs.put_outputs.Goals as goal

pub loop-i-preserved : goal.loop-i-preserved
loop-i-preserved c =
    let a = c.args in
    let text = a.text.now in
    let h = c.loop-i in
    let p = c.signal_of in
    names-put text a.outputs.now h.i _ c.loop-i-test.true (place_in (names_at text a.signals.now)) h.u p.result p.ensures ∙ h.invariant

pub returns : goal.returns
returns c =
    let a = c.args in
    let text = a.text.now in
    let h = c.loop-i in
    names-stored text a.outputs.now h.i (place_in (names_at text a.signals.now)) h.u c.loop-i-test.false ∙ h.invariant
