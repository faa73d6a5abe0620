-- `is_pair`. Assumes nothing.
use mathlib.Core.Path.{sym, ap, ◌∙◌}
use Prim.Native.Nat.{ℕ, ◌+◌}
use native.Mathlib.Omega.{arith}
use lib.ListN.{drop}
use borrow.Author.Rules.{part_to_end}
use Rattle.ordertext.specs.Order.{is_numeral}
use Rattle.ordertext.proofs.Numerals.{name-inside, pair-foreign, pair-unnamed, pair-named}
use Rattle.ordertext.proofs.is_pair.Goals as goal

pub returns-then-not-all_printing : goal.returns-then-not-all_printing
returns-then-not-all_printing c = pair-foreign c.args.w.now (sym c.all_printing.ensures ∙ c.if-not-all_printing.true)

pub returns-then-e-lt1 : goal.returns-then-e-lt1
returns-then-e-lt1 c =
    let w = c.args.w.now in
    let e = c.name_length-e.ensures in
    pair-unnamed w (sym c.all_printing.ensures ∙ c.if-not-all_printing.false) (omega arith)

pub overflow_add-t : goal.overflow_add-t
overflow_add-t c =
    let w = c.args.w.now in
    let e = c.name_length-e.ensures in
    let i = name-inside w (omega arith) in
    omega arith

pub slice_bounds-is_numeral-count : goal.slice_bounds-is_numeral-count
slice_bounds-is_numeral-count c =
    let w = c.args.w.now in
    let e = c.name_length-e.ensures in
    let i = name-inside w (omega arith) in
    omega arith

pub slice_bounds-is_numeral-start : goal.slice_bounds-is_numeral-start
slice_bounds-is_numeral-start c =
    let w = c.args.w.now in
    let e = c.name_length-e.ensures in
    let i = name-inside w (omega arith) in
    omega arith

pub returns : goal.returns
returns c =
    let w = c.args.w.now in
    let e = c.name_length-e in
    let f = e.ensures in
    c.is_numeral.ensures
    ∙ ap (is_numeral 16 16) (part_to_end w (e.result + 1) ∙ ap (λ (k : ℕ). drop (k + 1) w) f)
    ∙ pair-named w (sym c.all_printing.ensures ∙ c.if-not-all_printing.false) (omega arith)
