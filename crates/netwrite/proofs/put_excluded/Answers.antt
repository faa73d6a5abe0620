-- `put_excluded`: nothing, or the mark and the set. Assumes nothing.
use mathlib.Core.Path.{◌≡◌, sym, ap, ◌∙◌}
use native.Mathlib.Omega.{arith}
use lib.ListN.{length}
use borrow.Author.Rules.{rules}
use Rattle.buffer.proofs.Laying.{laid-length, pending-start, pending_done}
use Rattle.network.specs.Bounds.{excluded_words}
use Rattle.netwrite.proofs.RecordBytes.{excluded-none, excluded-some, length-excluded, excluded-laid}
use Rattle.netwrite.proofs.put_excluded.Goals as goal

pub returns-then-none : goal.returns-then-none
returns-then-none c = pending_done (pending-start _ _ _) (excluded-none c.args.s (sym c.none.ensures ∙ c.if-none.true))

pub copy-a-requires : goal.copy-a-requires
copy-a-requires c =
    let some = sym c.none.ensures ∙ c.if-none.false in
    let n = ap length (excluded-some c.args.s some) in
    omega arith

pub put_words-requires : goal.put_words-requires
put_words-requires c =
    let s = c.args.s in
    let w : length s.excluded ≡ excluded_words = search rules in
    let some = sym c.none.ensures ∙ c.if-none.false in
    let z = c.set_bytes.ensures.0 in
    let few = c.set_bytes.ensures.1 in
    let n = length-excluded s w (omega arith) some in
    let mark = c.copy-a.ensures in
    let a = mark.behind in
    let k = laid-length mark in
    (omega arith, omega arith)

pub returns : goal.returns
returns c =
    let s = c.args.s in
    let some = sym c.none.ensures ∙ c.if-none.false in
    let mark = c.copy-a.ensures in
    let z = c.set_bytes in
    excluded-laid s z.result some z.ensures.0 mark c.put_words.ensures
