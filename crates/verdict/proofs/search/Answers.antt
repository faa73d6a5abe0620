-- Outer loop: what is left from pattern x on has the answer of the word. Inner loop: so has output i on at x, and then the later patterns.
-- Until the loops are left nothing is found. Assumes nothing.
use mathlib.Core.Path.{refl, sym, ◌∙◌}
use Prim.Native.Nat.{◌+◌, ◌*◌}
use native.Mathlib.Nat.{sub-zero}
use Rattle.simulate.specs.Simulated.{words_at}
use Rattle.verdict.specs.Changed.{changed_at}
use Rattle.verdict.proofs.Turns.{outer_start, outer-step, inner-next}
use Rattle.verdict.proofs.search.Goals as goal

pub search-init : goal.search-init
search-init c = (refl, outer_start _ _ _)

pub loop-i-init : goal.loop-i-init
loop-i-init c =
    let a = c.args in
    let h = changed_at a.outs.now (words_at a.xs.now a.w) (words_at a.ys.now a.w) a.keep a.w in
    (c.search.invariant.0, rw sub-zero (outer-step h a.p c.search.x (a.w * 64 + 64) c.search-test.true ∙ c.search.invariant.1))

pub loop-i-preserved : goal.loop-i-preserved
loop-i-preserved c = (
  c.loop-i.invariant.0,
  inner-next _ _ _ _ _ c.loop-i-test.true (sym c.changed_at.ensures ∙ c.if-changed_at.false) ∙ c.loop-i.invariant.1,
)
