-- `edges::constants` meets its contract. Assumes nothing.
use mathlib.Core.Path.{refl}
use Prim.Native.Nat.{◌-◌}
use Rattle.bits.specs.Range.{places}
use Rattle.network.specs.Bounds.{most_entries}
use Rattle.edges.proofs.EdgeWords.{constants-none, constants-more}
use Rattle.edges.proofs.constants.Goals as goal

pub loop-r-init : goal.loop-r-init
loop-r-init c = (refl, constants-none c.args.table (places (most_entries - 1) (λ i. 0)))

pub loop-r-preserved : goal.loop-r-preserved
loop-r-preserved c =
    let a = c.args in
    let l = c.loop-r in
    (c.double.ensures.0, constants-more a.table l.words c.double.new.words l.r c.turned.result c.complement-like.result c.turned.ensures c.complement-like.ensures c.double.ensures.1 l.invariant.1)
