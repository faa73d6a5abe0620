-- `patternsets::fill` meets its contract: the stretches hold the words of the sets. Assumes nothing.
use mathlib.Core.Path.{◌∙◌}
use native.Mathlib.Omega.{arith}
use Rattle.network.proofs.Valid.{net-ok}
use Rattle.patternsets.proofs.Words.{needed, overwrites}
use Rattle.patternsets.proofs.fill.Goals as goal

pub fill_gates-requires : goal.fill_gates-requires
fill_gates-requires c =
    let m = c.from.ensures in
    let w = c.words_per_set.ensures in
    (omega (arith, (net-ok c.args.s c.requires.s_value).most), w.1, rw (needed c.args.s _ _ m w.0) c.requires.m_in_bounds)

pub returns : goal.returns
returns c =
    c.fill_gates.ensures
    ∙ overwrites c.args.s _ _ _ _ _
    c.from.ensures
    c.words_per_set.ensures.0
    c.odc_sets-odcs.ensures
    c.compatible_sets-sets.ensures
