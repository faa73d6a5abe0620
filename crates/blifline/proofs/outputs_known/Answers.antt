-- `blifline::outputs_known` meets its contract. Assumes nothing.
use mathlib.Core.Path.{◌∙◌}
use borrow.Author.Rules.{rules}
use borrow.Author.Tests.{tests}
use Rattle.std.specs.Option.{is_some}
use Rattle.std.proofs.lemmas.Iterator.{YieldsList-from_slice}
use Rattle.std.proofs.lemmas.Iterator.Search.{all_from_yields_List}
use Rattle.bliftext.specs.Spans.{span_of}
use Rattle.bliftext.specs.Named.{names_at, place_among}
use Rattle.blifline.proofs.Lists.{all-among}
use Rattle.blifline.proofs.outputs_known.Goals as goal

pub returns : goal.returns
returns c =
    let a = c.args in
    let text = a.text.now in
    let ns = names_at text a.signals.now in
    all_from_yields_List (λ o. is_some (place_among ns (span_of text o))) _ _ c.all.result c.all.ensures.ran (YieldsList-from_slice a.outputs.now cc) (λ x b q k. search (rules, tests))
    ∙ all-among ns text a.outputs.now
