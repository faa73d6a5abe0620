use mathlib.Core.Path.{◌≡◌}
use Prim.Native.Nat.{◌+◌, ◌*◌, ◌-◌, ◌≤◌}
use lib.ListN.{length}
use Rattle.network.specs.Bounds.{most_gate_bytes}
use Rattle.network.specs.Write.{gates_bytes}
use Rattle.netwrite.proofs.gates_size.Given as goal

abbrev pub invariant-loop-g : goal.invariant-loop-g
invariant-loop-g l = (l.size ≤ most_gate_bytes * l.g) × (l.size + length (gates_bytes l.s (l.s.m - l.g) l.g) ≡ length (gates_bytes l.s l.s.m 0))
