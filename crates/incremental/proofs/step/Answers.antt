-- `incremental::step` meets its contract. Assumes nothing.
use native.Mathlib.Omega.{arith}
use lib.ListN.{get_or}
use Rattle.incremental.proofs.Updates.{update-skip, update_same, update-stored}
use Rattle.incremental.proofs.step.Goals as goal

pub returns-then-masks-h-eq0 : goal.returns-then-masks-h-eq0
returns-then-masks-h-eq0 c old m hm sim masked so_far =
    let a = c.args in
    update-skip a.arity.now a.fanins.now a.before.now a.tables.now old a.n m a.count sim a.rows.now a.h a.changed hm (omega arith) c.requires.gate_ok so_far
    (get_or a.masks.now a.h 0) (masked a.h hm) c.if-masks-h-eq0.true c.if-t-before.true

pub returns-then-same_row : goal.returns-then-same_row
returns-then-same_row c old m hm sim masked so_far =
    let a = c.args in
    update_same a.arity.now a.fanins.now a.before.now a.tables.now old a.n m a.count sim a.rows.now a.h a.changed hm (omega arith) c.requires.gate_ok so_far
    _ (c.lut_row.ensures.1 a.tables.now) (c.same_row.ensures c.if-same_row.true)

pub returns : goal.returns
returns c old m hm sim masked so_far =
    let a = c.args in
    rw c.power.ensures (update-stored a.arity.now a.fanins.now a.before.now a.tables.now old a.n m a.count sim a.rows.now a.h a.changed hm (omega arith) c.requires.gate_ok so_far
    _ (c.lut_row.ensures.1 a.tables.now) _ c.store_row.ensures.0 (λ w h. c.store_row.ensures.1 w (omega arith)))
