-- `blifread::block` meets its contract. Assumes nothing.
use mathlib.Core.Path.{◌≡◌, refl}
use lib.ListN.{length}
use borrow.Author.Rules.{rules}
use Rattle.network.specs.Bounds.{most_gates, most_signals}
use Rattle.network.proofs.TestLaws.{handed-on}
use Rattle.blifread.proofs.Blockwise.{arity-few, block_refused, block-done}
use Rattle.blifread.proofs.block.Goals as goal

pub returns-in_err-x : goal.returns-in_err-x
returns-in_err-x c =
    let a = c.args in
    block_refused a.text.now a.l a.t a.ns c.requires.1 c.requires.0 c.gate.result c.gate.ensures _ c.in_err-x.was (handed-on c.from_residual.ensures.1 refl)

pub rows-y-requires : goal.rows-y-requires
rows-y-requires c =
    let a = c.args in
    let h : length a.t.arity ≡ most_gates = search rules in
    (c.requires.0.inside, arity-few a.text.now a.l a.t a.ns c.requires.1 c.requires.0 c.gate.result c.gate.ensures c.in_ok-x.was h)

pub returns : goal.returns
returns c =
    let a = c.args in
    let o = c.own in
    let h : length a.ns ≡ most_signals = search rules in
    block-done a.text.now a.l a.t a.ns c.requires.1 c.requires.0 c.gate.result c.gate.ensures c.in_ok-x.was h o.result _ c.rows-y.result o.ensures refl c.rows-y.ensures
