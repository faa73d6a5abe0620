-- `blifline::own_known` meets its contract. Assumes nothing.
use mathlib.Core.Path.{◌∙◌}
use lib.ListN.{drop}
use Rattle.blif.specs.Text.{fields}
use Rattle.blif.specs.Read.{known}
use Rattle.bliftext.specs.Named.{names_at}
use Rattle.bliftext.specs.Spans.{span_of}
use Rattle.blifline.proofs.Lists.{place-known, last-known}
use Rattle.blifline.proofs.own_known.Goals as goal

pub returns : goal.returns
returns c =
    let a = c.args in
    let ns = names_at a.text.now a.signals.now in
    let ws = fields (drop a.at a.s.now) in
    let x = c.word_at-x in
    let v = span_of a.s.now x.result in
    let p = c.place_of in
    c.is_some.ensures ∙ place-known a.text.now a.signals.now v p.result p.ensures
    ∙ last-known (known ns) a.s.now a.at a.k ws x.result c.requires.2 x.ensures c.if-a-e.false
