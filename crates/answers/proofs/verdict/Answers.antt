-- `answers::verdict` meets its contract. Assumes nothing.
use mathlib.Core.Path.{◌≡◌, ◌∙◌}
use mathlib.Core.List.{[]}
use borrow.Author.Rules.{rules}
use Rattle.std.specs.Prelude.{Ok}
use Rattle.std.specs.Result.{MatchResult, IsErrAnd}
use Rattle.network.specs.Calls.{pairs}
use Rattle.network.proofs.TestLaws.{handed-on}
use Rattle.replacements.specs.Pair.{pairs_by}
use Rattle.answers.proofs.Named.{bounded}
use Rattle.answers.proofs.Judged.{answer-alone, verdict-unequal, verdict-refused, gates-placed, verdict-judged}
use Rattle.answers.proofs.verdict.Goals as goal
use Rattle.answers.proofs.verdict.Goals.{After-map_err}

pub returns-then-gates-tables : goal.returns-then-gates-tables
returns-then-gates-tables c =
    verdict-unequal c.args.s c.requires c.args.gates.now c.args.tables.now c.if-gates-tables.true

pub pairs_test-requires : goal.pairs_test-requires
pairs_test-requires c =
    record { bounded = bounded c.args.s _ _ c.from-n.ensures c.from-m.ensures c.requires; gates_len = c.if-gates-tables.false }

-- what the pairs are answered
answer : (c : After-map_err) → c.map_err.result ≡ pairs_by c.from-n.result c.from-m.result c.args.s.arity [] (pairs c.args.gates.now c.args.tables.now)
answer c =
    let h : MatchResult c.pairs_test.result (λ x. c.map_err.result ≡ Ok x) (λ e. IsErrAnd c.map_err.result (λ f. f ≡ e.refusal)) = search rules in
    answer-alone c.pairs_test.result _ _ h c.pairs_test.ensures

pub returns-in_err-map_err : goal.returns-in_err-map_err
returns-in_err-map_err c =
    handed-on c.from_residual.ensures.1
    (verdict-refused c.args.s c.requires c.args.gates.now c.args.tables.now c.if-gates-tables.false _ _ c.from-n.ensures c.from-m.ensures (answer (goal.at.returns-in_err-map_err c).After-map_err) c.in_err-map_err.was)

pub replace_tables-all-requires : goal.replace_tables-all-requires
replace_tables-all-requires c =
    record { gates_len = c.if-gates-tables.false; gates_in = gates-placed c.args.s c.requires c.args.gates.now c.args.tables.now c.if-gates-tables.false _ _ c.from-n.ensures c.from-m.ensures (answer (goal.at.replace_tables-all-requires c).After-map_err) c.in_ok-map_err.was }

pub returns : goal.returns
returns c =
    let s = c.args.s in
    c.harm.ensures
    ∙ verdict-judged s c.requires c.args.gates.now c.args.tables.now c.if-gates-tables.false _ _ c.from-n.ensures c.from-m.ensures (answer (goal.at.returns c).After-map_err) c.in_ok-map_err.was
    _ c.replace_tables-all.ensures.0 c.replace_tables-all.ensures.1
