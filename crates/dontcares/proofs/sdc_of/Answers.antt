use mathlib.Core.Path.{◌≡◌, sym, subst}
use Prim.Native.Nat.{ℕ, ◌^◌, ◌<◌, ◌≤◌}
use native.Mathlib.Omega.{arith}
use native.Mathlib.Decide.{dec_lt}
use Rattle.network.specs.Bounds.{most_fanins}
use Rattle.dontcares.proofs.SdcLaws.{sum_fits, sdc-one, sdc-two}
use Rattle.dontcares.proofs.sdc_of.Goals as goal

five : (k c : ℕ) → k ≤ most_fanins → c ≡ 2 ^ k → (c ≡ 64 → ⊥) → k ≤ 5
five k c h e n = go (dec_lt k 6)
  where
    go : Dec (k < 6) → k ≤ 5
    go (yes l) = omega arith
    go (no l) = let q : k ≡ 6 = omega arith in absurd (n (subst (λ (i : ℕ). c ≡ 2 ^ i) q e))

pub complement_within-other-requires : goal.complement_within-other-requires
complement_within-other-requires c =
    (omega (arith, c.entry_count-c.ensures.1), subst (λ (i : ℕ). c.args.table < 2 ^ i) (sym c.entry_count-c.ensures.0) c.requires.1)

pub returns-then-c-eq64 : goal.returns-then-c-eq64
returns-then-c-eq64 c =
    sdc-two c.args.k c.args.table c.requires.1 c.entry_count-c.result c.complement_within-other.result c.entry_count-c.ensures.0 c.if-c-eq64.true c.complement_within-other.ensures

pub overflow_add-result : goal.overflow_add-result
overflow_add-result c =
    omega (arith, sum_fits c.args.k c.args.table c.requires.1 (five c.args.k c.entry_count-c.result c.requires.0 c.entry_count-c.ensures.0 c.if-c-eq64.false) c.entry_count-c.result c.complement_within-other.result c.entry_count-c.ensures.0 c.complement_within-other.ensures)

pub returns : goal.returns
returns c =
    sdc-one c.args.k c.args.table c.requires.1 (five c.args.k c.entry_count-c.result c.requires.0 c.entry_count-c.ensures.0 c.if-c-eq64.false) c.entry_count-c.result c.complement_within-other.result c.entry_count-c.ensures.0 c.complement_within-other.ensures
