-- `entries::delivered6` meets its contract. Assumes nothing.
use native.Mathlib.Omega.{arith}
use Rattle.entries.proofs.Delivery.{Halves, halves}
use Rattle.entries.proofs.delivered6.Goals as goal
use Rattle.entries.proofs.delivered6.Goals.{After-delivered5-high}

joined : (c : After-delivered5-high) → let a = c.args in Halves a.ins a.frees a.keep 5 c.delivered5-low.result c.delivered5-high.result
joined c =
    let a = c.args in
    halves a.ins a.frees a.keep 5 c.complement.result c.delivered5-low.result c.delivered5-high.result (omega arith) c.complement.ensures c.delivered5-low.ensures c.delivered5-high.ensures

pub overflow_add-result : goal.overflow_add-result
overflow_add-result c = omega (arith, (joined (goal.at.overflow_add-result c).After-delivered5-high).fits)

pub returns : goal.returns
returns c = (joined (goal.at.returns c).After-delivered5-high).whole
