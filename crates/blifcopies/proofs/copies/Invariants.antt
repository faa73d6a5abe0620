use mathlib.Core.Path.{◌≡◌}
use Prim.Native.Nat.{◌≤◌}
use Rattle.bits.specs.Range.{count}
use Rattle.blifcopies.specs.Copies.{copy_due}
use Rattle.blifcopies.proofs.copies.Given as goal

abbrev pub invariant-loop-i : goal.invariant-loop-i
invariant-loop-i l = (l.c ≤ l.i) × (l.c ≡ count l.i (copy_due l.n l.outs))
