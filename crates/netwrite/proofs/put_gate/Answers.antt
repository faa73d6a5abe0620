-- `put_gate`: the opening, the fan-ins, the table. Assumes nothing.
use mathlib.Core.Path.{◌≡◌, ◌∙◌}
use native.Mathlib.Omega.{arith}
use lib.ListN.{length}
use borrow.Author.Rules.{rules}
use Rattle.buffer.proofs.Laying.{laid-length}
use Rattle.network.specs.Bounds.{fanin_places}
use Rattle.netwrite.proofs.RecordBytes.{gate-laid, length-gate, length-fanins}
use Rattle.netwrite.proofs.put_gate.Goals as goal

pub copy-a-requires : goal.copy-a-requires
copy-a-requires c =
    let x = c.args in
    let n = length-gate x.s x.g in
    omega arith

pub slice_bounds-copy-end : goal.slice_bounds-copy-end
slice_bounds-copy-end c =
    let x = c.args in
    let h : length c.args.s.fanins ≡ fanin_places = search rules in
    omega arith

pub copy-d-requires : goal.copy-d-requires
copy-d-requires c =
    let x = c.args in
    let h : length c.args.s.fanins ≡ fanin_places = search rules in
    let n = length-gate x.s x.g in
    let f = length-fanins x.s x.g (omega arith) in
    let opening = c.copy-a.ensures in
    let a = opening.behind in
    let k = laid-length opening in
    omega arith

pub put_bytes-requires : goal.put_bytes-requires
put_bytes-requires c =
    let x = c.args in
    let h : length c.args.s.fanins ≡ fanin_places = search rules in
    let n = length-gate x.s x.g in
    let f = length-fanins x.s x.g (omega arith) in
    let opening = c.copy-a.ensures in
    let fanins = c.copy-d.ensures in
    let a = opening.behind in
    let d = fanins.behind in
    let k = laid-length fanins ∙ laid-length opening in
    let z = c.form_for-form.ensures.1 in
    omega arith

pub returns : goal.returns
returns c =
    let x = c.args in
    let h : length c.args.s.fanins ≡ fanin_places = search rules in
    let opening = c.copy-a.ensures in
    let fanins = c.copy-d.ensures in
    let form = c.form_for-form.ensures in
    gate-laid x.s x.g _ _ (omega arith) form.0 form.1 opening fanins c.put_bytes.ensures
