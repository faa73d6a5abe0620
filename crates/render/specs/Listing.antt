-- The listing of a file, byte by byte: 01, 'The twin network', and the digits of request Five of 02. Assumes nothing.
use Rattle.std.specs.Prelude.{◌≡◌, List, [], ◌++◌, ℕ, zero, suc, ◌+◌, ◌*◌, ◌≤◌, length}
use Rattle.bits.specs.Range.{count}
use Rattle.bits.specs.Bit.{bit}
use Rattle.text.specs.Ascii.{ascii}
use Rattle.text.specs.Numbers.{word_digits, hex, decimal}
use Rattle.std.specs.Prelude.{Result, Ok, Err}
use Rattle.network.specs.Answer.{Done}
use Rattle.network.specs.declared.Refusal.{Refusal}
use Rattle.network.specs.declared.Session.{Session}
use Rattle.network.specs.Bounds.{most_gates, most_entries}
use Rattle.network.specs.Net.{Net}
use Rattle.network.specs.DontCares.{cdc, full}
use Rattle.network.specs.Compatible.{compatible_count, open_table}
use Rattle.network.specs.Flat.{loaded_net}
use Rattle.network.specs.Refusals.{number_of}
use Rattle.network.specs.Load.{load_of}
use Rattle.network.specs.Calls.{Filled, room_test, filled}
use Rattle.tabletext.specs.Digits.{digits}

-- ## Lines

unfoldable pub header : List ℕ
header = ascii "gate cdc full open hidden\n"

-- signal; three tables of so many digits; the number of patterns in H
unfoldable pub row : (digits signal cdc full opens hidden : ℕ) → List ℕ
row d s c f o h = decimal s ++ ascii " " ++ hex d c ++ ascii " " ++ hex d f ++ ascii " " ++ hex d o ++ ascii " " ++ decimal h ++ ascii "\n"

-- the set entries of all full tables, then of all open ones
unfoldable pub totals : ℕ → ℕ → List ℕ
totals f o = ascii "total " ++ decimal f ++ ascii " " ++ decimal o ++ ascii "\n"

-- 01's number of the refusal
unfoldable pub refused_line : ℕ → List ℕ
refused_line r = ascii "refused " ++ decimal r ++ ascii "\n"

-- ## The listing

abbrev pub gate_row : Net → ℕ → List ℕ
gate_row N s = row (digits N) s (cdc N s) (full N s) (open_table N s) (compatible_count N s)

-- the rows of the first g gates
abbrev pub rows : Net → ℕ → List ℕ
rows N zero = []
rows N (suc g) = rows N g ++ gate_row N (N.inputs + g)

-- the set entries of the first g gates' tables
abbrev pub set_entries : (ℕ → ℕ) → ℕ → ℕ
set_entries table zero = 0
set_entries table (suc g) = set_entries table g + count most_entries (bit (table g))

unfoldable pub listing_of_net : Net → List ℕ
listing_of_net N =
    let m = length N.gates in
    header ++ rows N m ++ totals (set_entries (λ g. full N (N.inputs + g)) m) (set_entries (λ g. open_table N (N.inputs + g)) m)

abbrev pub listing_for : Result Session Refusal → List ℕ
listing_for (Ok s) = listing_of_net (loaded_net s)
listing_for (Err r) = refused_line (number_of r)

-- a refused file prints one line only
unfoldable pub listing_of : List ℕ → List ℕ
listing_of bytes = listing_for (load_of bytes)

-- the text from the start of a lent buffer, the rest stays; 9 where it is shorter than the text
unfoldable pub listing_into : List ℕ → List ℕ → Filled
listing_into bytes buffer = filled (room_test (length (listing_of bytes)) buffer) (listing_of bytes) buffer

-- ## Its length

-- the bytes of a row, decimal numbers taken with four digits and tables with sixteen
abbrev pub most_row_bytes : ℕ
most_row_bytes = 5 + 3 * (word_digits + 1) + 5

-- of the header, of a row for each gate and of the totals
abbrev pub most_listing_bytes : ℕ
most_listing_bytes = 26 + most_row_bytes * most_gates + 16

-- no listing is longer
abbrev pub ListingLength : Type 0
ListingLength = (bytes : List ℕ) → length (listing_of bytes) ≤ most_listing_bytes

-- a buffer of that length is never too short
abbrev pub ListingRoom : Type 0
ListingRoom = (bytes buffer : List ℕ) → most_listing_bytes ≤ length buffer → (listing_into bytes buffer).answer ≡ Done
