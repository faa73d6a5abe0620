-- `compatible::sets::compatible_rows` meets its contract. Assumes nothing.
use mathlib.Core.Path.{◌≡◌, ap, ◌∙◌}
use Prim.Native.Nat.{ℕ}
use native.Mathlib.Omega.{arith}
use lib.ListN.{set, get_or-replicate}
use Rattle.bits.specs.Bounds.{row_words}
use Rattle.simulate.specs.Simulated.{words_at}
use Rattle.simulate.proofs.RowLaws.{words_long}
use Rattle.compatible.proofs.SetLaws.{zero-step, compatible-is}
use Rattle.compatible.proofs.sets.compatible_rows.Goals as goal

pub loop-i-preserved : goal.loop-i-preserved
loop-i-preserved c =
    let l = c.loop-i in (
      c.store_row.ensures.0,
      λ w hw b hb x hx.
          rw (c.store_row.ensures.1 w (omega arith) ∙ ap (set (words_at l.hs w) l.i) (get_or-replicate {A = ℕ} row_words w 0 0 (omega arith)))
          (zero-step (words_at l.hs w) l.i b x _ (omega (arith, c.requires.net_ok.ins, words_long l.hs w)) (l.invariant.1 w hw b hb x hx)),
    )

pub returns : goal.returns
returns c =
    let l = c.loop-i in
    let a = c.args in
    let e : l.i ≡ a.n = omega arith in (
      c.rows.ensures.1,
      λ w hw b hb x hx.
          (rw e at (l.invariant.1 w hw b hb x (omega (arith, c.requires.net_ok.ins, c.requires.net_ok.most))))
          ∙ compatible-is a.arity.now a.fanins.now a.tables.now a.excluded.now a.outs.now a.n a.m a.p c.requires.net_ok _ w (c.rows.ensures.1 w hw) b hb x,
    )
