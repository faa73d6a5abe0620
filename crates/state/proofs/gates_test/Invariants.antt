use mathlib.Core.Path.{◌≡◌}
use mathlib.Core.List.{map}
use Prim.Native.Nat.{◌-◌}
use Rattle.bits.specs.Range.{up_from}
use Rattle.network.specs.Tests.{first}
use Rattle.network.specs.State.{gate_fault}
use Rattle.state.proofs.gates_test.Given as goal

abbrev pub invariant-loop-g : goal.invariant-loop-g
invariant-loop-g l = first (map (gate_fault l.s) (up_from l.g (l.m - l.g))) ≡ first (map (gate_fault l.s) (up_from 0 l.m))
