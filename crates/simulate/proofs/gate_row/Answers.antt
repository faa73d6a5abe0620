-- `simulate::gate_row` meets its contract. Assumes nothing.
use native.Mathlib.Omega.{arith}
use Rattle.simulate.proofs.SimulationSteps.{gate-step}
use Rattle.simulate.proofs.gate_row.Goals as goal

pub returns : goal.returns
returns c =
    (c.store_row.ensures.0, λ so_far w h. rw (c.store_row.ensures.1 w (omega arith)) (gate-step _ _ _ _ _ _ _ _ (omega arith) c.requires.gate_ok (so_far w h) (λ b k. c.lut_row.ensures.1 c.args.tables.now w b h k)))
