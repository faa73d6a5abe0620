-- `blifline::row_table` meets its contract. Assumes nothing.
use mathlib.Core.Path.{ap, ◌∙◌}
use native.Mathlib.Omega.{arith}
use lib.Bits.{bit_and, and_lt, or_lt}
use lib.Dec.{ltb}
use borrow.Author.Rules.{rules}
use Rattle.bits.proofs.Ranges.{entries-most}
use Rattle.blifline.proofs.Covers.{zero-first, zero-next, one-next}
use Rattle.blifline.proofs.rows.row_table.Goals as goal

pub mask-live-requires : goal.mask-live-requires
mask-live-requires c = let e = entries-most c.args.k (search rules) in omega arith

pub returns-then-digit-eq0 : goal.returns-then-digit-eq0
returns-then-digit-eq0 c rows h e n =
    let a = c.args in
    let w = c.row_word-w in
    let live = c.mask-live in
    zero-first a.k rows a.row.now a.digit a.d a.old w.result live.result (search rules) h w.ensures (λ t. c.mask-live.ensures.1 t ∙ ap (ltb t) c.power.ensures) e n c.complement.result c.if-d-eq48.true c.if-digit-eq0.true (and_lt 64 live.result c.complement.result (search rules) (search rules)) c.complement.ensures

pub returns-then-d-eq48 : goal.returns-then-d-eq48
returns-then-d-eq48 c rows h e n =
    let a = c.args in
    let w = c.row_word-w in
    let live = c.mask-live in
    zero-next a.k rows a.row.now a.digit a.d a.old w.result live.result (search rules) h w.ensures (λ t. c.mask-live.ensures.1 t ∙ ap (ltb t) c.power.ensures) e n c.complement-then-d-eq48.result c.if-d-eq48.true c.if-digit-eq0.false (and_lt 64 a.old c.complement-then-d-eq48.result (search rules) (search rules)) c.complement-then-d-eq48.ensures

pub returns : goal.returns
returns c rows h e n =
    let a = c.args in
    let w = c.row_word-w in
    let live = c.mask-live in
    one-next a.k rows a.row.now a.digit a.d a.old w.result live.result (search rules) h w.ensures (λ t. c.mask-live.ensures.1 t ∙ ap (ltb t) c.power.ensures) e n c.if-d-eq48.false (or_lt 64 a.old (bit_and live.result w.result) (search rules) (and_lt 64 live.result w.result (search rules) (search rules)))
