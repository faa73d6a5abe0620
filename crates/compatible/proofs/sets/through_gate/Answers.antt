-- `compatible::sets::through_gate` meets its contract. Assumes nothing.
use mathlib.Core.Path.{refl}
use Prim.Native.Nat.{◌<◌}
use native.Mathlib.Omega.{arith}
use lib.ListN.{get_or}
use Rattle.bits.specs.Bit.{column}
use Rattle.network.specs.Bounds.{most_signals}
use Rattle.network.specs.Net.{entry}
use Rattle.network.specs.Flat.{gate_at}
use Rattle.simulate.specs.Simulated.{words_at}
use Rattle.simulate.proofs.RowLaws.{words_long}
use Rattle.compatible.proofs.BackwardSteps.{edge-step}
use Rattle.compatible.proofs.sets.through_gate.Goals as goal

pub loop-r-preserved : goal.loop-r-preserved
loop-r-preserved c =
    let l = c.loop-r in
    let a = c.args in
    let early : c.fanin-f.result < most_signals = omega (arith, c.fanin-f.ensures, c.requires.gate_ok.early l.r (omega arith)) in (
      c.lut_row.ensures.0,
      c.intersect.ensures.0,
      λ ts w b s hw hb. rw (c.intersect.ensures.1 w hw) (edge-step a.fanins.now a.edges.now (words_at l.hs w) (words_at a.hs.now w) a.g (get_or a.own.now w 0) l.r c.fanin-f.result
          _ _ _ b (entry (column (words_at a.rows.now w) b) (gate_at a.arity.now a.fanins.now ts a.g)) s
          (omega (arith, words_long l.hs w)) c.fanin-f.ensures refl refl (c.lut_row.ensures.1 ts w b hw hb) (l.invariant.2 ts w b s hw hb)),
    )
