-- `put_inputs`: the names of the inputs passed are laid. Assumes nothing.
use mathlib.Core.Path.{refl}
use native.Mathlib.Omega.{arith}
use Rattle.blifwrite.specs.Pieces.{name_bytes, names_bytes}
use Rattle.blifwrite.proofs.Pieces.{laid_next, inputs-within}
use Rattle.blifwrite.proofs.put_inputs.Goals as goal

pub put_name-a-requires : goal.put_name-a-requires
put_name-a-requires c =
    let w = inputs-within c.loop-i.i (omega arith) c.loop-i.invariant in
    (omega arith, omega arith)

pub loop-i-preserved : goal.loop-i-preserved
loop-i-preserved c =
    laid_next (λ j. names_bytes j (λ q. q)) name_bytes c.loop-i.i refl c.loop-i.invariant c.put_name-a.ensures
