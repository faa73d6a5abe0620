-- `set_in`: the sum is the count of the tables passed. Assumes nothing.
use mathlib.Core.Path.{◌≡◌, sym}
use native.Mathlib.Omega.{arith}
use Rattle.render.proofs.Pieces.{set_next}
use Rattle.render.proofs.set_in.Goals as goal

pub loop-g-preserved : goal.loop-g-preserved
loop-g-preserved c =
    let e = set_next c.args.tables c.loop-g.g in
    (rw (c.loop-g.invariant.0, c.entries_in-sum.ensures.0) (sym e), omega arith)

pub returns : goal.returns
returns c =
    let e : c.args.m ≡ c.loop-g.g = omega arith in
    (rw e c.loop-g.invariant.0, omega arith)
