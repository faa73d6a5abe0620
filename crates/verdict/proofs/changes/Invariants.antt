use mathlib.Core.Path.{◌≡◌}
use Prim.Native.Nat.{ℕ}
use Rattle.bits.specs.Range.{any}
use Rattle.bits.specs.Bit.{bit}
use Rattle.simulate.specs.Simulated.{words_at}
use Rattle.verdict.specs.Changed.{changed_word}
use Rattle.verdict.proofs.changes.Given as goal

abbrev pub invariant-loop-i : goal.invariant-loop-i
invariant-loop-i l = (b : ℕ) → bit l.acc b ≡ any l.i (λ i. bit (changed_word l.outs (words_at l.xs l.w) (words_at l.ys l.w) i) b)
