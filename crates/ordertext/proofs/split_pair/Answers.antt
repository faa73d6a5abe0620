-- `split_pair`. Assumes nothing.
use mathlib.Core.Path.{ap, ◌∙◌}
use Prim.Native.Nat.{ℕ, ◌+◌}
use native.Mathlib.Omega.{arith}
use lib.ListN.{drop}
use borrow.Author.Rules.{part_to_end}
use Rattle.ordertext.specs.Order.{is_numeral, pair_of}
use Rattle.ordertext.specs.Reads.{split_of}
use Rattle.ordertext.proofs.Numerals.{numeral-fits, pair-e}
use Rattle.ordertext.proofs.Turns.{pair-long, split-is}
use Rattle.ordertext.proofs.split_pair.Goals as goal

pub overflow_add-t : goal.overflow_add-t
overflow_add-t c =
    let w = c.args.w.now in
    let e = c.name_length-e.ensures in
    let l = pair-long w c.requires in
    omega arith

pub slice_bounds-signal_named-end : goal.slice_bounds-signal_named-end
slice_bounds-signal_named-end c =
    let e = c.name_length-e.ensures in
    let l = pair-long c.args.w.now c.requires in
    omega arith

pub slice_bounds-numeral-count : goal.slice_bounds-numeral-count
slice_bounds-numeral-count c =
    let e = c.name_length-e.ensures in
    let l = pair-long c.args.w.now c.requires in
    omega arith

pub slice_bounds-numeral-start : goal.slice_bounds-numeral-start
slice_bounds-numeral-start c =
    let e = c.name_length-e.ensures in
    let l = pair-long c.args.w.now c.requires in
    omega arith

pub numeral-table-requires : goal.numeral-table-requires
numeral-table-requires c =
    let w = c.args.w.now in
    let e = c.name_length-e in
    let q = part_to_end w (e.result + 1) ∙ ap (λ (k : ℕ). drop (k + 1) w) e.ensures in
    numeral-fits 16 16 _ (ap (is_numeral 16 16) q ∙ (pair-e w c.requires).1) (omega arith) (omega arith)

pub returns : goal.returns
unfolding split_of pair_of
returns c =
    let w = c.args.w.now in
    let e = c.name_length-e in
    split-is w e.result c.signal_named-signal.result c.numeral-table.result e.ensures c.signal_named-signal.ensures c.numeral-table.ensures
