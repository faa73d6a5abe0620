-- `excluded_size`. Assumes nothing.
use mathlib.Core.Path.{◌≡◌, sym, ap, ◌∙◌}
use native.Mathlib.Omega.{arith}
use lib.ListN.{length}
use borrow.Author.Rules.{rules}
use Rattle.network.specs.Bounds.{excluded_words}
use Rattle.netwrite.proofs.RecordBytes.{excluded-none, length-excluded}
use Rattle.netwrite.proofs.excluded_size.Goals as goal

pub returns-then-none : goal.returns-then-none
returns-then-none c =
    let e = ap length (excluded-none c.args.s (sym c.none.ensures ∙ c.if-none.true)) in
    (sym e, omega arith)

pub returns : goal.returns
returns c =
    let s = c.args.s in
    let w : length s.excluded ≡ excluded_words = search rules in
    let z = c.set_bytes.ensures in
    let p = z.0 in
    let q = z.1 in
    let e = length-excluded s w (omega arith) (sym c.none.ensures ∙ c.if-none.false) in
    (omega arith, omega arith)
