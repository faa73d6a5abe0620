-- `dontcares::odc_sets` meets its contract. Assumes nothing.
use native.Mathlib.Omega.{arith}
use Rattle.observability.specs.Odc.{OdcAt}
use Rattle.dontcares.proofs.odc_sets.Goals as goal

pub returns : goal.returns
unfolding OdcAt
returns c g w h l =
    c.sets_between.ensures.0 g (omega arith) (omega arith) w l
