-- `put_names`: the names passed are laid. Assumes nothing.
use mathlib.Core.Path.{refl}
use native.Mathlib.Omega.{arith}
use lib.ListN.{get_or}
use Rattle.blifwrite.specs.Pieces.{name_bytes, names_bytes}
use Rattle.blifwrite.proofs.Pieces.{laid_next, names-within}
use Rattle.blifwrite.proofs.put_names.Goals as goal

pub put_name-a-requires : goal.put_name-a-requires
put_name-a-requires c =
    let small = c.requires.0 in
    let w = names-within (λ j. get_or c.args.xs.now j 0) c.loop-x.x-index (λ i l. small i (omega arith)) c.loop-x.invariant in
    (small c.loop-x.x-index (omega arith), omega arith)

pub loop-x-preserved : goal.loop-x-preserved
loop-x-preserved c =
    let xs = c.args.xs.now in
    laid_next (λ j. names_bytes j (λ q. get_or xs q 0)) (λ j. name_bytes (get_or xs j 0)) c.loop-x.x-index refl c.loop-x.invariant c.put_name-a.ensures
