-- `compatible::sets::intersected` meets its contract. Assumes nothing.
use mathlib.Core.Path.{◌≡◌, ap, ◌∙◌}
use Prim.Native.Nat.{ℕ, ◌+◌, ◌-◌}
use native.Mathlib.Omega.{arith}
use lib.ListN.{get_or}
use Rattle.bits.specs.Bit.{bit}
use Rattle.simulate.specs.Simulated.{words_at}
use Rattle.compatible.specs.Words.{outputs_leave}
use Rattle.compatible.proofs.BackwardSteps.{left, last, gate-step}
use Rattle.compatible.proofs.sets.intersected.Goals as goal

pub loop-g-init : goal.loop-g-init
loop-g-init c =
    let a = c.args in
    (c.at_outputs.ensures.0, λ w b x hw hb hx. last a.arity.now a.fanins.now a.tables.now (words_at a.rows.now w) (outputs_leave a.outs.now a.p (bit (get_or a.excluded.now w 0) b)) a.n a.m b _ x (c.at_outputs.ensures.1 w b x hw hb hx))

pub loop-g-preserved : goal.loop-g-preserved
loop-g-preserved c =
    let l = c.loop-g in
    let a = c.args in
    let g = l.g - 1 in
    let e : l.g ≡ g + 1 = omega arith in (
      c.through_gate.ensures.0,
      λ w b x hw hb hx.
          gate-step a.arity.now a.fanins.now a.tables.now (words_at a.rows.now w) (outputs_leave a.outs.now a.p (bit (get_or a.excluded.now w 0) b)) a.n a.m b
          c.edge_tables-edges.result (words_at l.hs w) (words_at c.through_gate.new.hs w) g (get_or c.row_of-own.result w 0)
          (omega arith) (c.row_of-own.ensures w (omega arith)) (omega (arith, c.requires.net_ok.ins, c.requires.net_ok.most)) c.edge_tables-edges.ensures
          (λ y hy. l.invariant.1 w b y hw hb hy ∙ ap (λ (i : ℕ). left a.arity.now a.fanins.now a.tables.now (words_at a.rows.now w) (outputs_leave a.outs.now a.p (bit (get_or a.excluded.now w 0) b)) a.n a.m b i y) e)
          (λ y. c.through_gate.ensures.1 a.tables.now w b y hw hb) x hx,
    )
