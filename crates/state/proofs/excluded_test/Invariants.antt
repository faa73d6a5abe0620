use mathlib.Core.Path.{◌≡◌}
use mathlib.Core.List.{map}
use Prim.Native.Nat.{◌-◌, ◌*◌, ◌^◌}
use lib.ListN.{get_or}
use Rattle.bits.specs.Range.{up_from}
use Rattle.network.specs.Bounds.{excluded_words}
use Rattle.network.specs.Tests.{first, width_test, excluded_test}
use Rattle.state.proofs.excluded_test.Given as goal

abbrev pub invariant-loop-w : goal.invariant-loop-w
invariant-loop-w l = first (map (λ w. width_test (2 ^ l.n - 64 * w) (get_or l.ws w 0)) (up_from l.w (excluded_words - l.w))) ≡ excluded_test l.n l.ws
