-- `compatible::sets::at_outputs` meets its contract. Assumes nothing.
use mathlib.Core.Path.{◌≡◌, refl, ap, ◌∙◌}
use Prim.Native.Nat.{ℕ, ◌<◌}
use native.Mathlib.Omega.{arith}
use lib.Bits.{bit_and, bit_or, or_zero_r}
use lib.ListN.{get_or, set, replicate, get_or-replicate}
use Rattle.bits.specs.Bounds.{row_words}
use Rattle.bits.specs.Bit.{bit}
use Rattle.network.specs.Bounds.{most_signals}
use Rattle.simulate.specs.Simulated.{words_at}
use Rattle.simulate.proofs.RowLaws.{words_long}
use Rattle.compatible.proofs.BackwardSteps.{start_first, start-step}
use Rattle.compatible.proofs.sets.at_outputs.Goals as goal

pub loop-i-init : goal.loop-i-init
loop-i-init c = (refl, λ w b s hw hb hs. start_first c.args.outs.now w b s (bit (get_or c.args.excluded.now w 0) b) (omega arith) hb hs)

pub loop-i-preserved : goal.loop-i-preserved
loop-i-preserved c =
    let l = c.loop-i in
    let a = c.args in
    let f = c.from-s.result in
    let fits : f < most_signals = omega (arith, c.requires.outputs_ok.each l.i (omega arith)) in
    let alone : (w : ℕ) → w < row_words → bit_or (get_or a.excluded.now w 0) (get_or (replicate row_words 0) w 0) ≡ get_or a.excluded.now w 0
    = λ w h. ap (bit_or (get_or a.excluded.now w 0)) (get_or-replicate {A = ℕ} row_words w 0 0 h) ∙ or_zero_r (get_or a.excluded.now w 0) in (
      c.intersect.ensures.0,
      λ w b x hw hb hx. rw (c.intersect.ensures.1 w hw ∙ ap (λ (v : ℕ). set (words_at l.hs w) f (bit_and (get_or (words_at l.hs w) f 0) v)) (alone w (omega arith))) (start-step (words_at l.hs w) a.outs.now l.i f (bit_and (get_or (words_at l.hs w) f 0) (get_or a.excluded.now w 0)) (get_or a.excluded.now w 0) b x
          (omega (arith, words_long l.hs w)) c.from-s.ensures refl (l.invariant.1 w b x hw hb hx)),
    )
