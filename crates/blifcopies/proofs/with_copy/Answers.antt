-- `with_copy`: each store in its place. Assumes nothing.
use mathlib.Core.Path.{refl}
use Rattle.blifcopies.specs.Copies.{with_copy}
use Rattle.blifcopies.proofs.with_copy.Goals as goal

pub returns : goal.returns
unfolding with_copy
returns c = refl
