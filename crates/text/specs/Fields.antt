-- The pieces that the functions put: a number with what stands behind it. Assumes nothing.
use Rattle.std.specs.Prelude.{List, [], ◌∷◌, ◌++◌, ℕ}
use Rattle.text.specs.Ascii.{ascii}
use Rattle.text.specs.Numbers.{hex, decimal}

-- a number in decimal and the byte behind it
unfoldable pub number : (x after : ℕ) → List ℕ
number x after = decimal x ++ after ∷ []

-- the c lowest hexadecimal digits of x and the space behind them
unfoldable pub field : (c x : ℕ) → List ℕ
field c x = hex c x ++ ascii " "
