-- The words of the ODC, and rows that are taken back. Assumes nothing.
use Rattle.std.specs.Prelude.{◌≡◌, List, ℕ, ◌+◌, ◌*◌, ◌≤◌, ◌<◌, length, get_or}
use Rattle.bits.specs.Bounds.{row_words}
use Rattle.network.specs.Bounds.{signal_words}
use Rattle.network.specs.Net.{Net}
use Rattle.network.specs.DontCares.{odc}
use Rattle.network.specs.Flat.{word_of}

-- the words of gate g's ODC stand at place row_words g and on
unfoldable pub OdcAt : (N : Net) (l : List ℕ) (n g count : ℕ) → Type 0
OdcAt N l n g count = (w : ℕ) → w < count → get_or l (row_words * g + w) 0 ≡ word_of n (odc N (n + g)) w

-- the places from a on, up to i, are taken from rows, and those before a are as they were
abbrev pub Taken : (rows other₀ other : List ℕ) (a i : ℕ) → Type 0
Taken rows other₀ other a i =
    (length other ≡ signal_words)
    × ((q : ℕ) → a ≤ q → q < i → get_or other q 0 ≡ get_or rows q 0)
    × ((q : ℕ) → q < a → get_or other q 0 ≡ get_or other₀ q 0)
