-- `bliftext::place_of` meets its contract. Assumes nothing.
use mathlib.Core.Path.{◌∙◌}
use borrow.Author.Rules.{rules}
use borrow.Author.Tests.{tests}
use Rattle.std.proofs.lemmas.Iterator.{YieldsList-from_slice}
use Rattle.std.proofs.lemmas.Iterator.Search.{position_from_yields_List}
use Rattle.blif.specs.Read.{same}
use Rattle.bliftext.specs.Spans.{span_of}
use Rattle.bliftext.proofs.Names.{first-among}
use Rattle.bliftext.proofs.place_of.Goals as goal

pub returns : goal.returns
returns c =
    let a = c.args in
    position_from_yields_List (λ n. same (span_of a.text.now n) a.w.now) _ _ c.position.result c.position.ensures.ran (YieldsList-from_slice a.names.now cc) (λ x b q k. search (rules, tests))
    ∙ first-among a.text.now a.w.now a.names.now
