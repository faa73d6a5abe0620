-- A row and its cover, as a reader meets them. Assumes nothing.
use Rattle.std.specs.Prelude.{◌≡◌, Bool, cond, ◌&&◌, ◌||◌, List, [], ◌∷◌, ◌++◌, ℕ, ◌+◌, eqb, length, get_or}
use Rattle.bits.specs.Range.{num}
use Rattle.bits.specs.Bit.{bit}
use Rattle.text.specs.Words.{Text, all}
use Rattle.blif.specs.Cover.{is_mark, is_digit, cover_table}
use Rattle.blifline.specs.declared.Cover.{Cover}

-- the byte of fan-in r covers entry t
abbrev pub marked : ℕ → ℕ → ℕ → Bool
marked b r t = eqb b 0x2D || eqb b (0x30 + num (bit t r))

-- an input part of k bytes
abbrev pub is_marks : ℕ → Text → Bool
is_marks k marks = eqb (length marks) k && all is_mark marks

-- an output part that goes with the digit of the rows before
abbrev pub is_out : ℕ → Text → Bool
is_out digit out = eqb (length out) 1 && (all is_digit out && (eqb digit 0 || eqb digit (get_or out 0 0)))

-- a row of a block of k fan-ins
abbrev pub is_row_of : ℕ → ℕ → List Text → Bool
is_row_of k digit line = eqb (length line) 2 && (eqb (length (get_or line 0 [])) k && (all is_mark (get_or line 0 []) && is_out digit (get_or line 1 [])))

-- the line's digit, 0 where it is no row
abbrev pub digit_of : ℕ → ℕ → List Text → ℕ
digit_of k digit line = cond (is_row_of k digit line) (get_or (get_or line 1 []) 0 0) 0

-- the table so far is that of the rows so far; without a digit there is none
pub record Running (k : ℕ) (rows : List Text) (digit table : ℕ) : Type 0 where
  pub table_is : table ≡ cover_table k rows digit
  pub fresh : digit ≡ 0 → rows ≡ []

-- what a line of a block is read as, behind rows that gave the table `old`
pub record RowRead (k digit old : ℕ) (line : List Text) (r : Cover) : Type 0 where
  pub digit-is : r.digit ≡ digit_of k digit line
  pub goes_on : (rows : List Text) → Running k rows digit old → (r.digit ≡ 0 → ⊥) → Running k (rows ++ get_or line 0 [] ∷ []) r.digit r.table
