-- `put_head`: piece after piece. Assumes nothing.
use native.Mathlib.Omega.{arith}
use lib.ListN.{get_or}
use Rattle.buffer.proofs.Laying.{laid-length}
use Rattle.blifwrite.proofs.Pieces.{inputs-within, names-within, head-laid}
use Rattle.blifwrite.proofs.put_head.Goals as goal

pub copy-c-requires : goal.copy-c-requires
copy-c-requires c =
    let s = c.args.s in
    let a = c.copy-a.ensures.behind in
    let b = laid-length c.copy-a.ensures in
    let d = inputs-within s.n c.requires.0.inputs c.put_inputs-b.ensures in
    omega arith

pub put_outputs-d-requires : goal.put_outputs-d-requires
put_outputs-d-requires c =
    let s = c.args.s in
    let a = c.copy-a.ensures.behind in
    let b = laid-length c.copy-a.ensures in
    let d = inputs-within s.n c.requires.0.inputs c.put_inputs-b.ensures in
    let e = c.copy-c.ensures.behind in
    let f = laid-length c.copy-c.ensures in
    let v = c.requires.0 in
    let n = v.inputs in
    let p = v.outs in
    let room = c.requires.1 in
    (p, v.driven, omega arith)

pub copy-requires : goal.copy-requires
copy-requires c =
    let s = c.args.s in
    let a = c.copy-a.ensures.behind in
    let b = laid-length c.copy-a.ensures in
    let d = inputs-within s.n c.requires.0.inputs c.put_inputs-b.ensures in
    let e = c.copy-c.ensures.behind in
    let f = laid-length c.copy-c.ensures in
    let g = names-within (λ j. get_or s.outputs j 0) s.p c.requires.0.driven c.put_outputs-d.ensures in
    let n = c.requires.0.inputs in
    let p = c.requires.0.outs in
    let room = c.requires.1 in
    omega arith

pub returns : goal.returns
returns c =
    head-laid c.args.s c.copy-a.ensures c.put_inputs-b.ensures c.copy-c.ensures c.put_outputs-d.ensures c.copy.ensures
