-- `blifline::all_known` meets its contract. Assumes nothing.
use mathlib.Core.Path.{◌≡◌, sym, ap, ◌∙◌}
use mathlib.Core.Bool.{true, false, not}
use native.Mathlib.Omega.{arith}
use lib.ListN.{drop}
use Rattle.blif.specs.Text.{fields}
use Rattle.blif.specs.Read.{known}
use Rattle.bliftext.specs.Named.{names_at}
use Rattle.bliftext.specs.Spans.{span_of}
use Rattle.bliftext.proofs.Spans.{word_next}
use Rattle.blifline.proofs.Lists.{place-known, all-not, all-on}
use Rattle.blifline.proofs.all_known.Goals as goal

pub returns-then-is_none : goal.returns-then-is_none
returns-then-is_none c =
    let a = c.args in
    let ns = names_at a.text.now a.signals.now in
    let ws = fields (drop a.at a.s.now) in
    let h = c.loop-i in
    let v = span_of a.s.now h.x in
    let p = c.place_of in
    let no : known ns v ≡ false = sym (place-known a.text.now a.signals.now v p.result p.ensures) ∙ c.is_none.ensures ∙ ap not c.if-is_none.true in
    all-not (known ns) a.s.now a.at h._i a.k ws h.x c.loop-i-test.true (omega arith) h.invariant.0 no ∙ h.invariant.1

pub loop-i-preserved : goal.loop-i-preserved
loop-i-preserved c =
    let a = c.args in
    let ns = names_at a.text.now a.signals.now in
    let ws = fields (drop a.at a.s.now) in
    let h = c.loop-i in
    let v = span_of a.s.now h.x in
    let p = c.place_of in
    let yes : known ns v ≡ true = sym (place-known a.text.now a.signals.now v p.result p.ensures) ∙ c.is_none.ensures ∙ ap not c.if-is_none.false in
    (word_next a.s.now a.at h._i ws h.x c.word_from-x-in-loop-i.result h.invariant.0 c.word_from-x-in-loop-i.ensures, all-on (known ns) a.s.now a.at h._i a.k ws h.x c.loop-i-test.true (omega arith) h.invariant.0 yes ∙ h.invariant.1)
