use mathlib.Core.Path.{◌≡◌}
use Prim.Native.Nat.{◌-◌, ◌*◌, ◌^◌}
use native.Mathlib.Omega.{arith}
use Rattle.state.proofs.word_test.Goals as goal

pub returns-then-total-from : goal.returns-then-total-from
returns-then-total-from c =
    let a = c.args in
    let l = rw c.power-total.ensures at c.if-total-from.true in
    let q : 2 ^ a.n - 64 * a.w ≡ 0 = omega arith in
    rw q c.width_test.ensures

pub returns : goal.returns
returns c = rw (← c.power-total.ensures) c.width_test-2.ensures
