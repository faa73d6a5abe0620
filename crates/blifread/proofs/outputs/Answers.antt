-- `blifread::outputs` meets its contract. Assumes nothing.
use mathlib.Core.Path.{◌≡◌}
use native.Mathlib.Omega.{arith}
use lib.ListN.{length}
use borrow.Author.Rules.{rules}
use Rattle.network.specs.Bounds.{most_signals}
use Rattle.network.proofs.TestLaws.{handed-on}
use Rattle.blifread.proofs.Phases.{outputs-refused, outputs-inside, outputs-done, started-fits}
use Rattle.blifread.proofs.outputs.Goals as goal

pub returns-in_err-x : goal.returns-in_err-x
returns-in_err-x c ins h =
    handed-on c.from_residual.ensures.1 (outputs-refused c.args.text.now c.args.at c.names_line.result c.names_line.ensures ins _ c.in_err-x.was)

pub returns : goal.returns
returns c ins h =
    let a = c.args in
    let t = c.started-t in
    outputs-done a.text.now a.at c.names_line.result c.names_line.ensures ins a.ins a.n t.result c.blocks-2.result _ c.in_ok-x.was h t.ensures c.blocks-2.ensures

pub overflow_cast-p : goal.overflow_cast-p
overflow_cast-p c = omega (arith, (c.names_line.ensures.given _ c.in_ok-x.was).few)

pub slice_bounds-blocks-end : goal.slice_bounds-blocks-end
slice_bounds-blocks-end c =
    let s : length c.in_ok-x.x.names ≡ most_signals = search rules in
    omega (arith, (c.names_line.ensures.given _ c.in_ok-x.was).few)

pub blocks-requires : goal.blocks-requires
blocks-requires c =
    let a = c.args in
    let g = c.names_line.ensures.given _ c.in_ok-x.was in
    let few = g.few in
    let s : length c.in_ok-x.x.names ≡ most_signals = search rules in
    let o = outputs-inside a.text.now a.at c.names_line.result c.names_line.ensures _ c.in_ok-x.was (omega arith) in
    let f = started-fits a.text.now c.started-t.result a.ins a.n c.in_ok-x.x.count c.started-t.ensures c.requires.1 c.requires.2 in
    (g.place, f.0, f.1, o.0, o.1)
