-- `put_bytes`: what is left to lay are the lowest bytes of what is left of the number. Assumes nothing.
use mathlib.Core.Path.{◌≡◌, refl}
use Prim.Native.Nat.{◌+◌, ◌-◌, ◌/◌, ◌%◌}
use native.Mathlib.Omega.{arith}
use Rattle.bits.specs.Lists.{bytes_in}
use Rattle.bits.proofs.Bytes.{bytes_next}
use Rattle.buffer.proofs.Laying.{pending-step, stored}
use Rattle.buffer.proofs.put_bytes.Goals as goal

pub loop-i-preserved : goal.loop-i-preserved
loop-i-preserved c =
    let h = c.loop-i in
    let left = c.args.c - h.i in
    let e = bytes_next left h.y (omega arith) in
    let p : c.args.at + (h.i + 1) ≡ c.args.at + h.i + 1 = omega arith in
    let q : c.args.c - (h.i + 1) ≡ left - 1 = omega arith in
    rw (p, q) (pending-step (bytes_in (left - 1) (h.y / 256)) h.invariant e (stored h.buf (c.args.at + h.i) (h.y % 256) (h.y % 256) refl))
