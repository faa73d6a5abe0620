use Prim.Native.Nat.{◌^◌, ◌+◌, ◌≤◌}
use native.Mathlib.Omega.{arith}
use lib.Pow.{pow_mono, pow-add}
use Rattle.bits.proofs.with_entry.Goals as goal

pub overflow_add-result : goal.overflow_add-result
overflow_add-result c =
    let s = c in
    let l : 2 ^ (s.args.e + 1) ≤ 2 ^ 64 = pow_mono {j = 64} (omega arith) in
    omega (arith, c.power.ensures, pow-add 2 s.args.e 1)

pub returns-then-b : goal.returns-then-b
returns-then-b c = rw c.if-b.true (omega (arith, c.power.ensures))

pub returns : goal.returns
returns c = rw c.if-b.false (omega arith)
