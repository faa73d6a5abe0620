-- The listing from plain arrays, cut into the pieces that the functions lay. Assumes nothing.
use Rattle.std.specs.Prelude.{List, [], ◌++◌, ℕ, zero, suc, ◌+◌, ◌≤◌, ◌<◌, get_or}
use Rattle.bits.specs.Bounds.{most_inputs}
use Rattle.bits.specs.Range.{count}
use Rattle.bits.specs.Bit.{bit}
use Rattle.text.specs.Numbers.{word_digits}
use Rattle.network.specs.Bounds.{most_gates, most_entries}
use Rattle.render.specs.declared.Columns.{Columns}
use Rattle.render.specs.Listing.{header, row, totals, set_entries}

-- the set entries of one table
unfoldable pub entries_in : ℕ → ℕ
entries_in x = count most_entries (bit x)

-- the row of gate g
abbrev pub row_at : Columns → ℕ → List ℕ
row_at t g = row t.digits (t.n + g) (get_or t.cdc g 0) (get_or t.full g 0) (get_or t.opens g 0) (get_or t.hidden g 0)

-- the rows of the first g gates
abbrev pub rows_at : Columns → ℕ → List ℕ
rows_at t zero = []
rows_at t (suc g) = rows_at t g ++ row_at t g

abbrev pub set_in : List ℕ → ℕ → ℕ
set_in tables m = set_entries (λ g. get_or tables g 0) m

unfoldable pub text_of : Columns → List ℕ
text_of t = header ++ rows_at t t.m ++ totals (set_in t.full t.m) (set_in t.opens t.m)

-- the bounds of 01, which keep each number below 10000, and that of the digits
pub record Ready (t : Columns) : Type 0 where
  pub digits : t.digits ≤ word_digits
  pub inputs : t.n ≤ most_inputs
  pub gates : t.m ≤ most_gates
  pub few : (g : ℕ) → g < t.m → get_or t.hidden g 0 < 10000
