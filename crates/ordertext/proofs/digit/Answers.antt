-- `digit`. Assumes nothing.
use mathlib.Core.Path.{sym, ◌∙◌}
use native.Mathlib.Omega.{arith}
use Rattle.ordertext.specs.Order.{digit_of}
use Rattle.ordertext.proofs.Numerals.{between-e}
use Rattle.ordertext.proofs.digit.Goals as goal

pub returns-then-between : goal.returns-then-between
unfolding digit_of
returns-then-between c =
    let t = sym c.between.ensures ∙ c.if-between.true in
    let b = between-e 0x30 0x39 c.args.b t in
    (rw t, omega arith)

pub returns-then-between-2 : goal.returns-then-between-2
unfolding digit_of
returns-then-between-2 c =
    let f = sym c.between.ensures ∙ c.if-between.false in
    let t = sym c.between-2.ensures ∙ c.if-between-2.true in
    let b = between-e 0x41 0x46 c.args.b t in
    (rw (f, t), omega arith)

pub returns-then-between-3 : goal.returns-then-between-3
unfolding digit_of
returns-then-between-3 c =
    let f = sym c.between.ensures ∙ c.if-between.false in
    let g = sym c.between-2.ensures ∙ c.if-between-2.false in
    let t = sym c.between-3.ensures ∙ c.if-between-3.true in
    let b = between-e 0x61 0x66 c.args.b t in
    (rw (f, g, t), omega arith)

pub returns : goal.returns
unfolding digit_of
returns c =
    let f = sym c.between.ensures ∙ c.if-between.false in
    let g = sym c.between-2.ensures ∙ c.if-between-2.false in
    let h = sym c.between-3.ensures ∙ c.if-between-3.false in
    (rw (f, g, h), omega arith)
