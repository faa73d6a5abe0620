use mathlib.Core.Path.{◌≡◌}
use Prim.Native.Nat.{◌+◌, ◌-◌, ◌≤◌}
use lib.ListN.{length, drop}
use Rattle.network.specs.Load.{read_outputs}
use Rattle.netread.proofs.outputs.Given as goal

abbrev pub invariant-loop-i : goal.invariant-loop-i
invariant-loop-i l = (l.at ≤ length l.rest) × (l.u.n + l.u.m ≡ l.signals) × (read_outputs (l.p - l.i) l.i l.u (drop l.at l.rest) ≡ read_outputs l.initial.u.p 0 l.initial.u l.rest)
