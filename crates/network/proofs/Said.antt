-- An answer in 01's numbers: what the number and the values tell of it. Assumes nothing.
use mathlib.Core.Path.{◌≡◌, refl, ap}
use mathlib.Core.Logic.{◌↔◌}
use mathlib.Core.List.{List, [], ◌∷◌}
use Prim.Native.Nat.{ℕ, ◌≤◌}
use native.Mathlib.Omega.{arith}
use lib.ListN.{length}
use Rattle.network.specs.declared.Refusal.{Refusal}
use Rattle.network.specs.declared.Refusal.TheVariants.{Truncated, UnexpectedMark, OutOfBounds, FaninNotEarlier, FaninRepeated, BitPastEnd, NotASignal, TrailingBytes, BufferTooShort, InvalidState, NotAGate, TableTooWide, ClosedEntry, Harm, ListsUnequal, GateRepeated, OutsideSubset, BadName}
use Rattle.network.specs.Answer.{Answer}
use Rattle.network.specs.Answer.{Done}
use Rattle.std.specs.Prelude.{Ok, Err}
use Rattle.network.specs.Refusals.{told, said}

-- nothing is said exactly where nothing is refused
pub said-done : (a : Answer) → (said a ≡ []) ↔ (a ≡ Done)
said-done (Ok _) = (λ e. refl, λ e. refl)
said-done (Err r) = (λ e. absurd (omega (arith, ap length e)), λ e. ap said e)

-- what a refusal tells: a number that is not 0 and no values, 13 and an entry, or 14, a pattern and an output
module _ (P : ℕ × List ℕ → Type 0) (plain : (n : ℕ) → 1 ≤ n → P (n, [])) (entry : (t : ℕ) → P (13, t ∷ [])) (harm : (x i : ℕ) → P (14, x ∷ i ∷ [])) where
  pub told-by : (r : Refusal) → P (told r)
  told-by Truncated = plain _ (omega arith)
  told-by UnexpectedMark = plain _ (omega arith)
  told-by OutOfBounds = plain _ (omega arith)
  told-by FaninNotEarlier = plain _ (omega arith)
  told-by FaninRepeated = plain _ (omega arith)
  told-by BitPastEnd = plain _ (omega arith)
  told-by NotASignal = plain _ (omega arith)
  told-by TrailingBytes = plain _ (omega arith)
  told-by BufferTooShort = plain _ (omega arith)
  told-by InvalidState = plain _ (omega arith)
  told-by NotAGate = plain _ (omega arith)
  told-by TableTooWide = plain _ (omega arith)
  told-by (ClosedEntry t) = entry t
  told-by (Harm x i) = harm x i
  told-by ListsUnequal = plain _ (omega arith)
  told-by GateRepeated = plain _ (omega arith)
  told-by OutsideSubset = plain _ (omega arith)
  told-by BadName = plain _ (omega arith)
