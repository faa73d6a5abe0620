-- `listing`: nothing where the buffer is too short, else the text. Assumes nothing.
use Prim.Native.Nat.{◌≤◌, ◌<◌}
use native.Mathlib.Omega.{arith}
use lib.ListN.{length}
use borrow.Author.Rules.{rules}
use Rattle.buffer.proofs.Laying.{laid-start, laid-part}
use Rattle.render.specs.Listing.{listing_of}
use Rattle.render.proofs.Shown.{into-short, into-done}
use Rattle.render.proofs.Lengths.{listing-length, listing-ends}
use Rattle.render.proofs.listing.Goals as goal

pub returns-then-buf-n : goal.returns-then-buf-n
returns-then-buf-n c =
    let x = c.args in
    let n = c.put_listing-n.ensures.behind in
    let h : length x.buf.now < length (listing_of x.bytes.now) = omega arith in
    rw (into-short x.bytes.now x.buf.now h)

pub slice_bounds-copy-end : goal.slice_bounds-copy-end
slice_bounds-copy-end c =
    listing-ends c.args.bytes.now c.put_listing-n.ensures (search rules)

pub returns : goal.returns
returns c =
    let x = c.args in
    let text = listing_of x.bytes.now in
    let l = c.put_listing-n.ensures in
    let n = l.behind in
    let h : length text ≤ length x.buf.now = omega arith in
    let few = listing-length x.bytes.now in
    let q = laid-part text l (omega arith) in
    let w = laid-start x.buf.now text c.copy-k.new.buf c.copy-k.result h (rw q at c.copy-k.ensures) in
    rw (w.0, w.1, into-done x.bytes.now x.buf.now h)
