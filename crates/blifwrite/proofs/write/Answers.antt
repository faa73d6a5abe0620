-- `write`: 3, then 9, else the text: into the buffer at once where it is long enough for every text. Assumes nothing.
use mathlib.Core.Path.{◌≡◌, refl, sym, ◌∙◌}
use Prim.Native.Nat.{◌≤◌, ◌<◌}
use native.Mathlib.Omega.{arith}
use lib.ListN.{length}
use borrow.Author.Rules.{rules}
use Rattle.buffer.proofs.Laying.{laid-start, laid-part}
use Rattle.std.specs.Prelude.{Err}
use Rattle.network.proofs.TestLaws.{handed-on}
use Rattle.blif.specs.Write.{blif_text}
use Rattle.blifwrite.proofs.Shown.{written-copies, written-short, written-done}
use Rattle.blifwrite.proofs.write.Goals as goal

pub returns-in_err-copies_test : goal.returns-in_err-copies_test
returns-in_err-copies_test c =
    let x = c.args in
    let h : c.from_residual.result ≡ Err c.in_err-copies_test.field-0.0 = handed-on c.from_residual.ensures.1 refl in
    rw h (sym (written-copies x.s x.buf.now c.requires _ (sym c.copies_test.ensures ∙ c.in_err-copies_test.was)))

pub put_blif-size-requires : goal.put_blif-size-requires
put_blif-size-requires c =
    (c.requires, sym c.copies_test.ensures ∙ c.in_ok-copies_test.was, c.if-buf-ge-MOST_BLIF_BYTES.true)

pub returns-then-buf-ge-MOST_BLIF_BYTES : goal.returns-then-buf-ge-MOST_BLIF_BYTES
returns-then-buf-ge-MOST_BLIF_BYTES c =
    let x = c.args in
    let l = c.put_blif-size.ensures in
    let h : length (blif_text x.s) ≤ length x.buf.now = omega (arith, l.1, c.if-buf-ge-MOST_BLIF_BYTES.true) in
    let w = laid-start x.buf.now (blif_text x.s) c.put_blif-size.new.buf c.put_blif-size.result h l.0 in
    rw (w.0, w.1, written-done x.s x.buf.now c.requires (sym c.copies_test.ensures ∙ c.in_ok-copies_test.was) h)

pub put_blif-n-requires : goal.put_blif-n-requires
put_blif-n-requires c =
    (c.requires, sym c.copies_test.ensures ∙ c.in_ok-copies_test.was, search rules)

pub returns-then-buf-n : goal.returns-then-buf-n
returns-then-buf-n c =
    let x = c.args in
    let n = c.put_blif-n.ensures.0.behind in
    let h : length x.buf.now < length (blif_text x.s) = omega arith in
    sym (written-short x.s x.buf.now c.requires (sym c.copies_test.ensures ∙ c.in_ok-copies_test.was) h)

pub returns : goal.returns
returns c =
    let x = c.args in
    let text = blif_text x.s in
    let l = c.put_blif-n.ensures in
    let n = l.0.behind in
    let h : length text ≤ length x.buf.now = omega (arith, c.if-buf-n.false) in
    let q = laid-part text l.0 (search rules) in
    let w = laid-start x.buf.now text c.copy-k.new.buf c.copy-k.result h (rw q at c.copy-k.ensures) in
    rw (w.0, w.1, written-done x.s x.buf.now c.requires (sym c.copies_test.ensures ∙ c.in_ok-copies_test.was) h)
