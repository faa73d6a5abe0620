-- What the words of all signals say, 64 patterns a word: of one word number, and of all of them in rows. Assumes nothing.
use Rattle.std.specs.Prelude.{◌≡◌, Bool, List, map, ℕ, ◌+◌, ◌*◌, ◌<◌, length, get_or, take}
use Rattle.bits.specs.Bounds.{row_words, gate_places}
use Rattle.bits.specs.Range.{places}
use Rattle.bits.specs.Bit.{bit, column, number}
use Rattle.network.specs.Bounds.{most_signals}
use Rattle.network.specs.Net.{run}
use Rattle.network.specs.Flat.{gates_of}
use Rattle.widelut.specs.Functions.{FunctionsAt}

-- word s of the first i has at bit b the value of input s at the pattern 64 w + b
abbrev pub Inputs : (words : List ℕ) (i w : ℕ) → Type 0
Inputs words i w = (b : ℕ) → b < 64 → take i (column words b) ≡ places i (bit (w * 64 + b))

-- word s has at bit b the value of signal s at the pattern 64 w + b
pub record Simulated (ks fs ts words : List ℕ) (n m w : ℕ) : Type 0 where
  pub long : length words ≡ most_signals
  pub each : (b : ℕ) → b < 64 → take (n + m) (column words b) ≡ run (places n (bit (w * 64 + b))) (gates_of ks fs ts m)

-- ## Rows: word w of signal s stands at place row_words s + w

-- word w of each signal
unfoldable pub words_at : List ℕ → ℕ → List ℕ
words_at rows w = places most_signals (λ s. get_or rows (row_words * s + w) 0)

-- the value of signal s at bit b of word w
abbrev pub value_at : List ℕ → ℕ → ℕ → ℕ → Bool
value_at rows s w b = bit (get_or rows (row_words * s + w) 0) b

-- the first `count` words of each signal
abbrev pub Rows : (ks fs ts rows : List ℕ) (n m count : ℕ) → Type 0
Rows ks fs ts rows n m count = (w : ℕ) → w < count → Simulated ks fs ts (words_at rows w) n m w

-- ## The row of a gate

-- the first k fan-ins of gate g, and that they are signals
unfoldable pub first_fanins : (fanins : List ℕ) (k g : ℕ) → List ℕ
first_fanins fanins k g = places k (λ r. get_or fanins (gate_places * g + r) 0)

abbrev pub Signals : (fanins : List ℕ) (k g : ℕ) → Type 0
Signals fanins k g = (r : ℕ) → r < k → get_or fanins (gate_places * g + r) 0 < most_signals

-- a row whose first `count` words have the values of table t at those of the signals
pub record LutRow (t : ℕ) (rows signals : List ℕ) (count : ℕ) (row : List ℕ) : Type 0 where
  pub long : length row ≡ row_words
  pub each : (w b : ℕ) → w < count → b < 64 → bit (get_or row w 0) b ≡ bit t (number (map (λ s. value_at rows s w b) signals))

-- in the first `count` words, the rows of all functions of the signals a and b
abbrev pub FunctionRows : (rows functions : List ℕ) (a b count : ℕ) → Type 0
FunctionRows rows functions a b count = (w : ℕ) → w < count → FunctionsAt functions w (get_or rows (row_words * a + w) 0) (get_or rows (row_words * b + w) 0)
