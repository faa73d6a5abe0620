use mathlib.Core.Path.{◌∙◌, sym}
use lib.Dec.{eqb}
use borrow.Author.Rules.{rules}
use Rattle.std.proofs.Common.{tests}
use Rattle.std.proofs.lemmas.Iterator.{YieldsList-from_slice}
use Rattle.std.proofs.lemmas.Iterator.Search.{all_from_yields_List}
use Rattle.netwrite.proofs.RecordBytes.{all_zero-is}
use Rattle.netwrite.proofs.none.Goals as goal

pub returns : goal.returns
returns c =
    all_from_yields_List (λ w. eqb w 0) _ _ _ c.all.ensures.ran (YieldsList-from_slice c.args.words cc) (λ x b q k. search (rules, tests)) ∙ sym (all_zero-is c.args.words)
