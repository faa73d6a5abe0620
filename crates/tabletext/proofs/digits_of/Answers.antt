-- `digits_of`: by whether some gate has more than four fan-ins. Assumes nothing.
use mathlib.Core.Path.{◌≡◌, sym}
use mathlib.Core.Bool.{cond}
use lib.Dec.{ltb}
use lib.ListN.{length, take}
use native.Mathlib.Omega.{arith}
use borrow.Author.Rules.{rules}
use Rattle.std.proofs.Common.{tests}
use Rattle.std.proofs.lemmas.Iterator.{YieldsList-from_slice}
use Rattle.std.proofs.lemmas.Iterator.Search.{any_from_yields_List}
use Rattle.network.specs.Load.{narrow}
use Rattle.network.specs.Bounds.{most_gates}
use Rattle.network.specs.Flat.{loaded_net}
use Rattle.text.specs.Numbers.{word_digits}
use Rattle.tabletext.specs.Digits.{digits}
use Rattle.tabletext.proofs.DigitLaws.{digits-by}
use Rattle.tabletext.proofs.digits_of.Goals as goal
use Rattle.tabletext.proofs.digits_of.Goals.{After-any}

digits-are : (c : After-any) → digits (loaded_net c.args.s) ≡ cond c.any.result word_digits 4
digits-are c =
    let x = c.args.s in
    let m = c.from-m in
    let w : length x.arity ≡ most_gates = search rules in
    digits-by x c.any.result m.result m.ensures (omega arith)
    (any_from_yields_List (ltb narrow.most) _ _ c.any.result c.any.ensures.ran (YieldsList-from_slice (take m.result x.arity) cc) (λ x b q k. search (rules, tests)))

pub returns-then-any : goal.returns-then-any
returns-then-any c = sym (rw c.if-any.true at (digits-are (goal.at.returns-then-any c).After-any))

pub returns : goal.returns
returns c = sym (rw c.if-any.false at (digits-are (goal.at.returns c).After-any))
