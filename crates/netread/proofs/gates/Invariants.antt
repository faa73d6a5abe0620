use mathlib.Core.Path.{◌≡◌}
use Prim.Native.Nat.{◌-◌, ◌≤◌}
use lib.ListN.{length, drop}
use Rattle.network.specs.Load.{read_gates}
use Rattle.netread.proofs.gates.Given as goal

abbrev pub invariant-loop-g : goal.invariant-loop-g
invariant-loop-g l = (l.at ≤ length l.rest) × (l.u.n ≡ l.n) × (l.u.m ≡ l.m) × (l.u.p ≡ l.initial.u.p) × (read_gates (l.m - l.g) l.g l.u (drop l.at l.rest) ≡ read_gates l.initial.u.m 0 l.initial.u l.rest)
