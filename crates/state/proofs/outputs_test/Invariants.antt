use mathlib.Core.Path.{◌≡◌}
use mathlib.Core.List.{map}
use Prim.Native.Nat.{◌-◌}
use lib.ListN.{get_or}
use Rattle.bits.specs.Range.{up_from}
use Rattle.network.specs.Tests.{first, output_test}
use Rattle.state.proofs.outputs_test.Given as goal

abbrev pub invariant-loop-i : goal.invariant-loop-i
invariant-loop-i l =
    first (map (λ i. output_test l.signals (get_or l.outputs i 0)) (up_from l.i (l.p - l.i)))
    ≡ first (map (λ i. output_test l.signals (get_or l.outputs i 0)) (up_from 0 l.p))
