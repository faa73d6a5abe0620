-- `put_block`: the opening line, then the cover. Assumes nothing.
use native.Mathlib.Omega.{arith}
use lib.ListN.{length, get_or}
use Rattle.buffer.proofs.Laying.{laid-append}
use Rattle.blifwrite.specs.Pieces.{block_bytes}
use Rattle.blifwrite.proofs.Pieces.{opening-within}
use Rattle.blifwrite.proofs.put_block.Goals as goal

pub put_cover-requires : goal.put_cover-requires
put_cover-requires c =
    let x = c.args in
    let v = c.requires in
    let w = opening-within (length x.fs.now) (λ i. get_or x.fs.now i 0) x.x v.0 v.2 c.put_opening-a.ensures in
    (v.1, omega arith)

pub returns : goal.returns
unfolding block_bytes
returns c =
    laid-append c.put_opening-a.ensures c.put_cover.ensures
