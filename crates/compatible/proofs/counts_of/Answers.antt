-- `compatible::counts_of` meets its contract. Assumes nothing.
use mathlib.Core.Path.{◌≡◌, subst, ◌∙◌}
use Prim.Native.Nat.{ℕ, ◌*◌, ◌≤◌}
use native.Mathlib.Omega.{arith}
use lib.ListN.{length-set, replicate}
use Rattle.bits.specs.Bounds.{row_words}
use Rattle.bits.proofs.Ranges.{Changed, changed-step}
use Rattle.network.specs.Bounds.{most_gates}
use Rattle.network.proofs.Valid.{net-ok}
use Rattle.compatible.specs.Words.{ones_in}
use Rattle.compatible.proofs.Stores.{per-gate}
use Rattle.compatible.proofs.Loaded.{counts-are}
use Rattle.compatible.proofs.counts_of.Goals as goal
use Rattle.compatible.proofs.counts_of.Goals.{After-frame_of-f}

-- there are not too many gates
few : (c : After-frame_of-f) → c.from-m.result ≤ most_gates
few c =
    omega (arith, (net-ok c.args.s c.requires.s_value).most)

pub frame_of-f-requires : goal.frame_of-f-requires
frame_of-f-requires c = omega (arith, (net-ok c.args.s c.requires.s_value).ins)

pub ones_in-c-requires : goal.ones_in-c-requires
ones_in-c-requires c = (omega (arith, few (goal.at.ones_in-c-requires c).After-frame_of-f), c.frame_of-f.ensures.cut.words)

pub bounds-counts-g : goal.bounds-counts-g
bounds-counts-g c = omega (arith, few (goal.at.bounds-counts-g c).After-frame_of-f)

pub loop-g-preserved : goal.loop-g-preserved
loop-g-preserved c =
    let l = c.loop-g in
    let a = c.args in (
      simp length-set l.invariant.0,
      changed-step (λ q v. ones_in a.sets.now (row_words * q) c.frame_of-f.result.count) (replicate most_gates 0) l.counts l.g c.ones_in-c.result (omega (arith, few (goal.at.loop-g-preserved c).After-frame_of-f)) l.invariant.1 c.ones_in-c.ensures,
    )

pub returns : goal.returns
returns c =
    let l = c.loop-g in
    let q : ℕ → ℕ = λ q. ones_in c.args.sets.now (row_words * q) c.frame_of-f.result.count in
    let e : l.g ≡ c.from-m.result = omega arith in
    per-gate l.counts q c.from-m.result l.invariant.0 (subst (λ (k : ℕ). Changed (λ i v. q i) (replicate most_gates 0) l.counts k) e l.invariant.1)
    ∙ counts-are c.args.s _ _ c.from.ensures c.from-m.ensures c.args.sets.now c.frame_of-f.ensures c.requires.set_words
