use mathlib.Core.Path.{◌≡◌}
use mathlib.Core.Bool.{Bool}
use Prim.Native.Nat.{ℕ, ◌+◌}
use lib.ListN.{length, drop}
use Rattle.text.specs.Words.{before}
use Rattle.bliftext.specs.Lines.{Computes}
use Rattle.bliftext.proofs.find.Given as goal

abbrev pub invariant-loop-p : goal.invariant-loop-p
invariant-loop-p g l = (cut : ℕ → Bool) → Computes (goal.F-post g l.is) cut → l.p + length (before cut (drop l.p l.s)) ≡ l.at + length (before cut (drop l.at l.s))
