-- `simulate::input_rows` meets its contract. Assumes nothing.
use borrow.Author.Rules.{rules}
use native.Mathlib.Omega.{arith}
use Rattle.simulate.specs.Simulated.{words_at}
use Rattle.simulate.proofs.SimulationSteps.{input-step}
use Rattle.simulate.proofs.RowLaws.{words_long}
use Rattle.simulate.proofs.input_rows.Goals as goal

pub loop-i-preserved : goal.loop-i-preserved
loop-i-preserved c =
    let l = c.loop-i in (
      c.fill_row.ensures.0,
      c.store_row.ensures.0,
      λ w h. rw (c.store_row.ensures.1 w (omega arith)) (input-step (words_at l.rows w) l.i w _ (omega (arith, words_long l.rows w)) (l.invariant.2 w h) (λ b k. search (rules, c.fill_row.ensures.1 w h))),
    )
