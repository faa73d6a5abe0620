-- `simulate::gather_at` meets its contract. Assumes nothing.
use mathlib.Core.Path.{sym, ap, ◌∙◌}
use Prim.Native.Nat.{ℕ, ◌+◌, ◌*◌, ◌<◌}
use native.Mathlib.Omega.{arith}
use lib.ListN.{get_or, length-set}
use Rattle.bits.specs.Bounds.{gate_places}
use Rattle.bits.proofs.Ranges.{filled}
use Rattle.network.specs.Bounds.{most_signals}
use Rattle.simulate.specs.Simulated.{words_at}
use Rattle.simulate.proofs.RowLaws.{words-at}
use Rattle.simulate.proofs.gather_at.Goals as goal

pub loop-r-preserved : goal.loop-r-preserved
loop-r-preserved c =
    let a = c.args in
    let early : c.fanin-f.result < most_signals = omega (arith, c.fanin-f.ensures, c.requires.gate_ok.early c.loop-r.r (omega arith)) in (
      simp length-set c.loop-r.invariant.0,
      filled c.loop-r.ins (λ q. get_or (words_at a.rows.now a.w) (get_or a.fanins.now (gate_places * a.g + q) 0) 0) c.loop-r.r c.word_of.result
          (omega (arith, c.requires.gate_ok.few)) c.loop-r.invariant.1
          (c.word_of.ensures ∙ sym (words-at a.rows.now a.w c.fanin-f.result early) ∙ ap (λ (s : ℕ). get_or (words_at a.rows.now a.w) s 0) c.fanin-f.ensures),
    )
