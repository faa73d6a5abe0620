-- `network::told` meets its contract. Assumes nothing.
use mathlib.Core.Path.{◌≡◌, refl, sym, ap}
use mathlib.Core.List.{List, [], ◌∷◌}
use Prim.Native.Nat.{ℕ, ◌≤◌}
use native.Mathlib.Omega.{arith}
use Rattle.network.specs.declared.Refusal.{Refusal}
use Rattle.network.specs.Refusals.{told, Tells}
use Rattle.network.proofs.told.Goals as goal

-- a refusal that names no values

plain : {r q : Refusal} {n : ℕ} → r ≡ q → told q ≡ (n, []) → n ≤ 18 → Tells r (n, 0, 0 ∷ 0 ∷ [])
plain e t h = rw e (record { number = sym (ap (λ (p : ℕ × List ℕ). p.0) t); values = sym (ap (λ (p : ℕ × List ℕ). p.1) t); small = h; few = omega arith })

pub returns-in-Truncated : goal.returns-in-Truncated
returns-in-Truncated c = plain c.in-Truncated.is refl (omega arith)

pub returns-in-UnexpectedMark : goal.returns-in-UnexpectedMark
returns-in-UnexpectedMark c = plain c.in-UnexpectedMark.is refl (omega arith)

pub returns-in-OutOfBounds : goal.returns-in-OutOfBounds
returns-in-OutOfBounds c = plain c.in-OutOfBounds.is refl (omega arith)

pub returns-in-FaninNotEarlier : goal.returns-in-FaninNotEarlier
returns-in-FaninNotEarlier c = plain c.in-FaninNotEarlier.is refl (omega arith)

pub returns-in-FaninRepeated : goal.returns-in-FaninRepeated
returns-in-FaninRepeated c = plain c.in-FaninRepeated.is refl (omega arith)

pub returns-in-BitPastEnd : goal.returns-in-BitPastEnd
returns-in-BitPastEnd c = plain c.in-BitPastEnd.is refl (omega arith)

pub returns-in-NotASignal : goal.returns-in-NotASignal
returns-in-NotASignal c = plain c.in-NotASignal.is refl (omega arith)

pub returns-in-TrailingBytes : goal.returns-in-TrailingBytes
returns-in-TrailingBytes c = plain c.in-TrailingBytes.is refl (omega arith)

pub returns-in-BufferTooShort : goal.returns-in-BufferTooShort
returns-in-BufferTooShort c = plain c.in-BufferTooShort.is refl (omega arith)

pub returns-in-InvalidState : goal.returns-in-InvalidState
returns-in-InvalidState c = plain c.in-InvalidState.is refl (omega arith)

pub returns-in-NotAGate : goal.returns-in-NotAGate
returns-in-NotAGate c = plain c.in-NotAGate.is refl (omega arith)

pub returns-in-TableTooWide : goal.returns-in-TableTooWide
returns-in-TableTooWide c = plain c.in-TableTooWide.is refl (omega arith)

pub returns-in-ClosedEntry : goal.returns-in-ClosedEntry
returns-in-ClosedEntry c = rw c.in-ClosedEntry.is (record { number = refl; values = refl; small = omega arith; few = omega arith })

pub returns-in-Harm : goal.returns-in-Harm
returns-in-Harm c = rw c.in-Harm.is (record { number = refl; values = refl; small = omega arith; few = omega arith })

pub returns-in-ListsUnequal : goal.returns-in-ListsUnequal
returns-in-ListsUnequal c = plain c.in-ListsUnequal.is refl (omega arith)

pub returns-in-GateRepeated : goal.returns-in-GateRepeated
returns-in-GateRepeated c = plain c.in-GateRepeated.is refl (omega arith)

pub returns-in-OutsideSubset : goal.returns-in-OutsideSubset
returns-in-OutsideSubset c = plain c.in-OutsideSubset.is refl (omega arith)

pub returns-in-BadName : goal.returns-in-BadName
returns-in-BadName c = plain c.in-BadName.is refl (omega arith)
