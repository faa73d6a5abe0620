-- `edges::double` meets its contract. Assumes nothing.
use mathlib.Core.Path.{refl}
use Prim.Native.Nat.{◌-◌}
use native.Mathlib.Omega.{arith}
use lib.ListN.{length-set}
use lib.Pow.{pow_mono}
use Rattle.bits.proofs.Cuts.{one_shl}
use Rattle.network.specs.Bounds.{most_fanins}
use Rattle.edges.proofs.EdgeWords.{doubled-step}
use Rattle.edges.proofs.double.Goals as goal

pub loop-f-init : goal.loop-f-init
loop-f-init c = (one_shl c.args.r 64 (omega arith), pow_mono {j = most_fanins - 1} (omega arith), c.requires.words_len, (λ f h. refl, λ f h. absurd (omega arith)))

pub loop-f-preserved : goal.loop-f-preserved
loop-f-preserved c =
    let a = c.args in
    let l = c.loop-f in (
      l.invariant.0,
      l.invariant.1,
      simp length-set l.invariant.2,
      doubled-step a.words.now l.words a.r _ a.like l.f c.turned.result l.invariant.0 (omega arith) (omega arith) c.turned.ensures l.invariant.3,
    )
