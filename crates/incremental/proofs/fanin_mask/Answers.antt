-- `incremental::fanin_mask` meets its contract. Assumes nothing.
use mathlib.Core.Path.{ap, ◌∙◌}
use Prim.Native.Nat.{ℕ, ◌+◌, ◌*◌, ◌^◌}
use lib.ListN.{get_or}
use Rattle.bits.specs.Bounds.{gate_places}
use Rattle.incremental.proofs.Updates.{mask_step}
use Rattle.incremental.proofs.fanin_mask.Goals as goal

pub loop-r-preserved : goal.loop-r-preserved
loop-r-preserved c =
    let a = c.args in
    mask_step (λ q. get_or a.fanins.now (gate_places * a.g + q) 0) c.loop-r.mask c.power-mask.result c.loop-r.r c.loop-r.invariant (c.power-mask.ensures ∙ ap (λ (k : ℕ). 2 ^ k) c.fanin-f.ensures)
