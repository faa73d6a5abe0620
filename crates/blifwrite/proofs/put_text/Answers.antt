-- `put_text`: the head, the blocks, the end. Assumes nothing.
use native.Mathlib.Omega.{arith}
use Rattle.blifwrite.proofs.Pieces.{head-within, blocks-within, text-laid}
use Rattle.blifwrite.proofs.put_text.Goals as goal

pub put_blocks-b-requires : goal.put_blocks-b-requires
put_blocks-b-requires c =
    let v = c.requires.0 in
    let w = head-within c.args.s v c.put_head-a.ensures in
    let m = v.gates in
    (v, omega arith)

pub copy-requires : goal.copy-requires
copy-requires c =
    let s = c.args.s in
    let v = c.requires.0 in
    let w = head-within s v c.put_head-a.ensures in
    let k = blocks-within s s.m v (omega arith) c.put_blocks-b.ensures in
    let m = v.gates in
    let room = c.requires.1 in
    omega arith

pub returns : goal.returns
returns c =
    text-laid c.args.s c.put_head-a.ensures c.put_blocks-b.ensures c.copy.ensures
