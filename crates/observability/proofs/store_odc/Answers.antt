-- `observability::store_odc` meets its contract. Assumes nothing.
use mathlib.Core.Bool.{not, ◌&&◌}
use native.Mathlib.Omega.{arith}
use lib.ListN.{get_or}
use Rattle.bits.specs.Bit.{bit, table_of}
use Rattle.observability.proofs.Words.{row-filled-step}
use Rattle.observability.proofs.store_odc.Goals as goal

pub loop-w-preserved : goal.loop-w-preserved
loop-w-preserved c =
    let a = c.args in
    row-filled-step (λ w. table_of 64 (λ b. bit a.live b && not (bit (get_or a.seen.now w 0) b))) a.odc.now c.loop-w.odc a.g c.loop-w.w c.odc_word-v.result (omega arith) c.loop-w.invariant c.odc_word-v.ensures
