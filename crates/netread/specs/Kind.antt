-- The kind of record that a two-byte mark opens: 01, 'The file', and request Five of 02. Assumes nothing.
use Rattle.std.specs.Prelude.{cond, List, [], ◌∷◌, ℕ, ltb, eqb, length, drop, Result, Ok, Err}
use Rattle.network.specs.Answer.{Answer}
use Rattle.network.specs.declared.Refusal.{Refusal}
use Rattle.network.specs.declared.Refusal.TheVariants.{Truncated, UnexpectedMark}
use Rattle.network.specs.Tests.{mark}
use Rattle.network.specs.Load.{gate_tests}
use Rattle.netread.specs.declared.Kind.{Kind}
use Rattle.netread.specs.declared.Kind.TheVariants.{Header, Excluded, Gate, WideGate, Output}

-- each mark, with the kind of record that it opens
abbrev pub marks : List (ℕ × Kind)
marks = (0x4E49, Header) ∷ (0x4E58, Excluded) ∷ (0x4E47, Gate) ∷ (0x4E48, WideGate) ∷ (0x4E4F, Output) ∷ []

abbrev pub kind_in : List (ℕ × Kind) → ℕ → Result Kind Refusal
kind_in [] x = Err UnexpectedMark
kind_in (m ∷ ms) x = cond (eqb x m.0) (Ok m.1) (kind_in ms x)

-- the number of the mark decides; the other values are refusal 2
unfoldable pub kind_of : ℕ → Result Kind Refusal
kind_of x = kind_in marks x

-- the kind of the record that opens what is left; 1 where under two bytes are left
unfoldable pub kind_at : List ℕ → Result Kind Refusal
kind_at rest = cond (ltb (length rest) 2) (Err Truncated) (kind_of (mark rest))

-- why a record is refused where another kind is due
abbrev pub not_due : Result Kind Refusal → Refusal
not_due (Ok k) = UnexpectedMark
not_due (Err r) = r

-- the tests of a gate's record behind its mark: k between two bounds, and a table of so many bytes
abbrev pub field_tests : (least most bytes limit : ℕ) → List ℕ → List Answer
field_tests least most bytes limit rest = drop 1 (gate_tests (record { opening = 0; least = least; most = most; bytes = bytes }) limit rest)
