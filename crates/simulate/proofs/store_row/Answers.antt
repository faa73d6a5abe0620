-- `simulate::store_row` meets its contract. Assumes nothing.
use mathlib.Core.Path.{refl}
use native.Mathlib.Omega.{arith}
use lib.ListN.{get_or}
use Rattle.simulate.proofs.RowLaws.{store_step}
use Rattle.simulate.proofs.store_row.Goals as goal

pub loop-w-preserved : goal.loop-w-preserved
loop-w-preserved c =
    let l = c.loop-w in
    let s = c.args in
    store_step s.rows.now l.rows (λ w. get_or s.row.now w 0) s.s l.w (get_or s.row.now l.w 0) (omega arith) (omega arith) l.invariant refl
