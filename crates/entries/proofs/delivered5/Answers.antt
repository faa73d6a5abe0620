-- `entries::delivered5` meets its contract. Assumes nothing.
use native.Mathlib.Omega.{arith}
use Rattle.entries.proofs.Delivery.{Halves, halves}
use Rattle.entries.proofs.delivered5.Goals as goal
use Rattle.entries.proofs.delivered5.Goals.{After-delivered-high}

joined : (c : After-delivered-high) → let a = c.args in Halves a.ins a.frees a.keep 4 c.delivered-low.result c.delivered-high.result
joined c =
    let a = c.args in
    halves a.ins a.frees a.keep 4 c.complement.result c.delivered-low.result c.delivered-high.result (omega arith) c.complement.ensures c.delivered-low.ensures c.delivered-high.ensures

pub overflow_add-result : goal.overflow_add-result
overflow_add-result c = omega (arith, (joined (goal.at.overflow_add-result c).After-delivered-high).fits)

pub returns : goal.returns
returns c = (joined (goal.at.returns c).After-delivered-high).whole
