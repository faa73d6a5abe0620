use mathlib.Core.Path.{◌≡◌}
use Prim.Native.Nat.{◌^◌, ◌<◌}
use lib.ListN.{drop}
use Rattle.ordertext.specs.Order.{onward}
use Rattle.ordertext.proofs.numeral.Given as goal

abbrev pub invariant-loop-b : goal.invariant-loop-b
invariant-loop-b l = (l.v < l.base ^ l.b-index) × (onward l.base l.v (drop l.b-index l.w) ≡ onward l.base 0 l.w)
