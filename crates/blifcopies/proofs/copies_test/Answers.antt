-- `copies_test`: the gates and the copies. Assumes nothing.
use Prim.Native.Nat.{◌≤◌}
use native.Mathlib.Omega.{arith}
use lib.ListN.{length}
use Rattle.network.proofs.Valid.{net-ok, outputs-ok}
use Rattle.blifcopies.proofs.Growth.{copies-count}
use Rattle.blifcopies.proofs.copies_test.Goals as goal

pub copies-c-requires : goal.copies-c-requires
copies-c-requires c =
    let e = (outputs-ok c.args.s c.requires).most in
    omega arith

pub overflow_add-s : goal.overflow_add-s
overflow_add-s c =
    let e = (net-ok c.args.s c.requires).most in
    let n = c.copies-c.ensures.1 in
    omega arith

pub returns : goal.returns
returns c =
    let s = c.args.s in
    let h = c.copies-c.ensures.2 in
    let e = (outputs-ok s c.requires).most in
    let l : s.p ≤ length s.outputs = omega arith in
    rw (copies-count s l, ← c.copies-c.ensures.0) c.count_test.ensures
