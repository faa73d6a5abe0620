-- The table of a cover. Assumes nothing.
use Rattle.std.specs.Prelude.{Bool, false, not, ◌||◌, List, [], ◌∷◌, ℕ, ◌+◌, ◌^◌, eqb, length, get_or}
use Rattle.std.specs.Bool.{beq}
use Rattle.bits.specs.Range.{num, every}
use Rattle.bits.specs.Bit.{bit, table_of}
use Rattle.text.specs.Words.{Text}

-- what may stand in the input part of a row, and in its output part
abbrev pub is_mark : ℕ → Bool
is_mark b = eqb b 0x30 || (eqb b 0x31 || eqb b 0x2D)

abbrev pub is_digit : ℕ → Bool
is_digit b = eqb b 0x30 || eqb b 0x31

-- the row covers entry t: its first byte is for fan-in 0
abbrev pub covers : Text → ℕ → Bool
covers row t = every (length row) (λ r. eqb (get_or row r 0) 0x2D || eqb (get_or row r 0) (0x30 + num (bit t r)))

abbrev pub covered : List Text → ℕ → Bool
covered [] t = false
covered (row ∷ rows) t = covers row t || covered rows t

-- the table of a cover: entries that some row covers have its digit, the others the other one; an empty cover is the constant 0
unfoldable pub cover_table : (k : ℕ) (rows : List Text) (digit : ℕ) → ℕ
cover_table k rows digit = table_of (2 ^ k) (λ t. beq (covered rows t) (not (eqb digit 0x30)))
