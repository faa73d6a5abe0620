-- `incremental::fanin_masks` meets its contract. Assumes nothing.
use native.Mathlib.Omega.{arith}
use lib.ListN.{length-set}
use Rattle.incremental.proofs.Updates.{masked-step}
use Rattle.incremental.proofs.fanin_masks.Goals as goal

pub loop-g-preserved : goal.loop-g-preserved
loop-g-preserved c =
    let a = c.args in
    (simp length-set c.loop-g.invariant.0, masked-step a.arity.now a.fanins.now c.loop-g.l c.loop-g.g c.fanin_mask.result (omega (arith, c.requires.most)) c.loop-g.invariant.1 c.fanin_mask.ensures)
