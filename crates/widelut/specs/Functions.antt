-- Rows of the functions of two inputs: word w of the function whose table is t stands at place row_words t + w. Assumes nothing.
use Rattle.std.specs.Prelude.{◌≡◌, List, [], ◌∷◌, ℕ, ◌+◌, ◌*◌, ◌^◌, ◌<◌, get_or}
use Rattle.bits.specs.Bounds.{row_words}
use Rattle.bits.specs.Bit.{bit, number}

-- the functions of two inputs, and the words for them, one more than their rows have
abbrev pub function_count : ℕ
function_count = 2 ^ 2 ^ 2

abbrev pub function_words : ℕ
function_words = function_count * row_words + 1

-- word w of each row is its table at the words a and b
abbrev pub FunctionsAt : (rows : List ℕ) (w a b : ℕ) → Type 0
FunctionsAt rows w a b = (t : ℕ) → t < function_count → (i : ℕ) → i < 64 → bit (get_or rows (row_words * t + w) 0) i ≡ bit t (number (bit a i ∷ bit b i ∷ []))
