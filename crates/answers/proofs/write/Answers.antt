-- `answers::write` meets its contract. Assumes nothing.
use Prim.Native.Nat.{◌≤◌, ◌<◌}
use native.Mathlib.Omega.{arith}
use lib.ListN.{length}
use Rattle.network.specs.Write.{bytes_of}
use Rattle.network.specs.Calls.{write_of, written_of}
use Rattle.answers.proofs.Given.{filling-short, filling-done}
use Rattle.answers.proofs.write.Goals as goal

pub returns-then-buf-bytes_needed : goal.returns-then-buf-bytes_needed
unfolding written_of write_of
returns-then-buf-bytes_needed c =
    let a = c.args in
    let h : length a.buf.now < length (bytes_of a.s) = omega (arith, c.bytes_needed.ensures) in
    rw (filling-short a.s (bytes_of a.s) a.buf.now c.requires h)

pub returns : goal.returns
unfolding written_of write_of
returns c =
    let a = c.args in
    let h : length (bytes_of a.s) ≤ length a.buf.now = omega (arith, c.bytes_needed.ensures) in
    rw (filling-done a.s (bytes_of a.s) a.buf.now c.requires h, c.write_bytes.ensures.0, c.write_bytes.ensures.1)
