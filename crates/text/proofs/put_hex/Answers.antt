-- `put_hex`: what is left to lay are the digits that are left. Assumes nothing.
use Prim.Native.Nat.{◌-◌}
use native.Mathlib.Omega.{arith}
use Rattle.buffer.proofs.Laying.{pending-step, pending_done, stored}
use Rattle.text.specs.Numbers.{hex}
use Rattle.text.proofs.Digits.{length-hex, hex-next, hex-none}
use Rattle.text.proofs.put_hex.Goals as goal

pub bounds-buf-a : goal.bounds-buf-a
bounds-buf-a c = omega (arith, length-hex)

pub loop-left-preserved : goal.loop-left-preserved
loop-left-preserved c =
    let x = c.args.x in
    let h = c.loop-left in
    pending-step (hex (h.left - 1) x) h.invariant (hex-next h.left x c.loop-left-test.true) (stored h.buf h.a _ c.digit.result c.digit.ensures)

pub returns : goal.returns
returns c = pending_done c.loop-left.invariant (hex-none c.loop-left.left c.args.x (omega arith))
