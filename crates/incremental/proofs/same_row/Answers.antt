-- `incremental::same_row` meets its contract. Assumes nothing.
use mathlib.Core.Path.{sym, ◌∙◌}
use native.Mathlib.Omega.{arith}
use borrow.Author.Count.{below_more}
use Rattle.simulate.proofs.RowLaws.{words-at}
use Rattle.incremental.proofs.same_row.Goals as goal

pub loop-w-preserved : goal.loop-w-preserved
loop-w-preserved c =
    let a = c.args in
    below_more _ _ c.loop-w.invariant (c.if-row-w.false ∙ sym (words-at a.rows.now c.loop-w.w a.s (omega arith)))
