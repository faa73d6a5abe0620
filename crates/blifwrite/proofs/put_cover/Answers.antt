-- `put_cover`: the rows of the entries passed are laid. Assumes nothing.
use mathlib.Core.Path.{refl}
use native.Mathlib.Omega.{arith}
use Rattle.blifwrite.specs.Pieces.{entry_bytes, cover_bytes}
use Rattle.blifwrite.proofs.Pieces.{laid_next, entries-few, cover-within}
use Rattle.blifwrite.proofs.put_cover.Goals as goal

pub put_entry-a-requires : goal.put_entry-a-requires
put_entry-a-requires c =
    let x = c.args in
    let few = entries-few x.k c.requires.0 in
    let e = c.power-c.ensures in
    let w = cover-within x.k x.table c.loop-t.t c.requires.0 c.loop-t.invariant in
    (c.requires.0, omega arith, omega arith)

pub loop-t-preserved : goal.loop-t-preserved
loop-t-preserved c =
    let x = c.args in
    laid_next (cover_bytes x.k x.table) (entry_bytes x.k x.table) c.loop-t.t refl c.loop-t.invariant c.put_entry-a.ensures
