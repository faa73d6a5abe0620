-- `simulate::rows` meets its contract. Assumes nothing.
use Rattle.simulate.proofs.SimulationSteps.{no-gate}
use Rattle.simulate.proofs.RowLaws.{words_long}
use Rattle.simulate.proofs.rows.Goals as goal

pub loop-g-init : goal.loop-g-init
loop-g-init c =
    let r = c.input_rows.ensures in
    (r.0, λ w h. no-gate _ _ _ _ _ _ (words_long _ w) (r.1 w h))
