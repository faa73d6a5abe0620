use Prim.Native.Nat.{◌-◌}
use native.Mathlib.Omega.{arith}
use Rattle.bits.proofs.Cuts.{one_shl, small, large}
use Rattle.bits.proofs.size.Goals as goal

pub returns-then-n-lt6 : goal.returns-then-n-lt6
returns-then-n-lt6 c = rw (one_shl c.args.n 32 (omega arith)) (small c.args.n c.if-n-lt6.true)

pub returns-else-n-lt6 : goal.returns-else-n-lt6
returns-else-n-lt6 c =
    let n = c.args.n in
    rw (one_shl (n - 6) 64 (omega arith)) (large n c.if-n-lt6.false c.requires)
