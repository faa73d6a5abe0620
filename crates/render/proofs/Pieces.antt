-- The pieces of the listing: the bytes of each, how long it is, and how they are laid one after the other. Assumes nothing.
use mathlib.Core.Path.{◌≡◌}
use mathlib.Core.List.{List, ◌++◌, append_assoc}
use Prim.Native.Nat.{ℕ, zero, suc, ◌+◌, ◌*◌, ◌≤◌}
use native.Mathlib.Numerals.{add-one}
use native.Mathlib.Omega.{arith}
use lib.ListN.{length, get_or, length-append}
use Rattle.bits.specs.Range.{count}
use Rattle.bits.specs.Bit.{bit}
use Rattle.bits.proofs.Cuts.{count-le}
use Rattle.buffer.specs.Laid.{Laid}
use Rattle.buffer.proofs.Laying.{laid-append, Within, laid-within}
use Rattle.text.specs.Ascii.{ascii}
use Rattle.text.specs.Numbers.{word_digits, hex, decimal}
use Rattle.text.specs.Fields.{number, field}
use Rattle.text.proofs.Digits.{length-number, length-field}
use Rattle.network.specs.Bounds.{most_entries}
use Rattle.render.specs.declared.Columns.{Columns}
use Rattle.render.specs.Listing.{header, row, totals, refused_line, most_row_bytes}
use Rattle.render.specs.Text.{entries_in, row_at, rows_at, set_in, text_of}

-- ## Rows

-- e joined to the list before it
regroup : (s c f o h e z : List ℕ) → s ++ e ++ c ++ e ++ f ++ e ++ o ++ e ++ h ++ z ≡ (s ++ e) ++ (c ++ e) ++ (f ++ e) ++ (o ++ e) ++ (h ++ z)
regroup s c f o h e z = simp append_assoc

row-pieces : (d s c f o h : ℕ) → row d s c f o h ≡ number s 0x20 ++ field d c ++ field d f ++ field d o ++ number h 0x0A
unfolding row number field
row-pieces d s c f o h = regroup (decimal s) (hex d c) (hex d f) (hex d o) (decimal h) (ascii " ") (ascii "\n")

pub length-row : (d s c f o h : ℕ) → d ≤ word_digits → length (row d s c f o h) ≤ most_row_bytes
length-row d s c f o h few =
    rw (row-pieces d s c f o h)
    (simp length-append (omega (arith, length-number s 0x20, length-field d c, length-field d f, length-field d o, length-number h 0x0A)))

pub row_laid : {b b₁ b₂ b₃ b₄ b₅ : List ℕ} {at r₁ r₂ r₃ r₄ r₅ : ℕ} (d s c f o h : ℕ)
    → Laid b at (number s 0x20) b₁ r₁ → Laid b₁ r₁ (field d c) b₂ r₂ → Laid b₂ r₂ (field d f) b₃ r₃ → Laid b₃ r₃ (field d o) b₄ r₄
    → Laid b₄ r₄ (number h 0x0A) b₅ r₅ → Laid b at (row d s c f o h) b₅ r₅
row_laid d s c f o h p q u v w = rw (row-pieces d s c f o h) (laid-append (laid-append (laid-append (laid-append p q) u) v) w)

length-rows : (t : Columns) → t.digits ≤ word_digits → (g : ℕ) → length (rows_at t g) ≤ most_row_bytes * g
length-rows t few zero = omega arith
length-rows t few (suc g) =
    let n = length-append (rows_at t g) (row_at t g) in
    let k = length-rows t few g in
    let r = length-row t.digits (t.n + g) (get_or t.cdc g 0) (get_or t.full g 0) (get_or t.opens g 0) (get_or t.hidden g 0) few in
    omega arith

pub rows-within : {b b₁ : List ℕ} {at r : ℕ} (t : Columns) → t.digits ≤ word_digits → (g : ℕ) → Laid b at (rows_at t g) b₁ r → Within b b₁ at r (most_row_bytes * g)
rows-within t few g l = laid-within (most_row_bytes * g) (length-rows t few g) l

pub rows_next : {b b₁ b₂ : List ℕ} {at r₁ r₂ : ℕ} (t : Columns) (g : ℕ) → Laid b at (rows_at t g) b₁ r₁ → Laid b₁ r₁ (row_at t g) b₂ r₂
    → Laid b at (rows_at t (g + 1)) b₂ r₂
rows_next t g p q = rw add-one (laid-append p q)

pub rows-done : {b b₁ : List ℕ} {at r : ℕ} (t : Columns) (g : ℕ) → g ≡ t.m → Laid b at (rows_at t g) b₁ r → Laid b at (rows_at t t.m) b₁ r
rows-done t g e l = rw e at l

-- ## Set entries

-- the ones of a word are the set entries of a table of most entries
pub entries-are : {r : ℕ} (x : ℕ) → r ≡ count 64 (bit x) → (r ≡ entries_in x) × (r ≤ most_entries)
unfolding entries_in
entries-are x e = (e, rw e (count-le most_entries (bit x)))

pub set_next : (tables : List ℕ) (g : ℕ) → set_in tables (g + 1) ≡ set_in tables g + entries_in (get_or tables g 0)
unfolding entries_in
set_next tables g = rw add-one

-- ## The text

totals-pieces : (f o : ℕ) → totals f o ≡ ascii "total " ++ number f 0x20 ++ number o 0x0A
unfolding totals number
totals-pieces f o = simp append_assoc

pub totals-laid : {b b₁ b₂ b₃ : List ℕ} {at r₁ r₂ r₃ : ℕ} (f o : ℕ)
    → Laid b at (ascii "total ") b₁ r₁ → Laid b₁ r₁ (number f 0x20) b₂ r₂ → Laid b₂ r₂ (number o 0x0A) b₃ r₃
    → Laid b at (totals f o) b₃ r₃
totals-laid f o p q u = rw (totals-pieces f o) (laid-append (laid-append p q) u)

pub header-within : {b b₁ : List ℕ} {at r : ℕ} → Laid b at header b₁ r → Within b b₁ at r 26
unfolding header
header-within l = laid-within 26 (omega arith) l

pub text-laid : {b b₁ b₂ b₃ : List ℕ} {r₁ r₂ r₃ : ℕ} (t : Columns) {f o : ℕ} → f ≡ set_in t.full t.m → o ≡ set_in t.opens t.m
    → Laid b 0 header b₁ r₁ → Laid b₁ r₁ (rows_at t t.m) b₂ r₂ → Laid b₂ r₂ (totals f o) b₃ r₃ → Laid b 0 (text_of t) b₃ r₃
unfolding text_of
text-laid t e k p q u = rw (← e, ← k) (laid-append (laid-append p q) u)

pub length-totals : (f o : ℕ) → length (totals f o) ≤ 16
length-totals f o =
    rw (totals-pieces f o)
    (simp length-append (omega (arith, length-number f 0x20, length-number o 0x0A)))

pub refusal-laid : {b b₁ b₂ : List ℕ} {r₁ r₂ : ℕ} (k : ℕ) → Laid b 0 (ascii "refused ") b₁ r₁
    → Laid b₁ r₁ (number k 0x0A) b₂ r₂ → Laid b 0 (refused_line k) b₂ r₂
unfolding refused_line number
refusal-laid k p q = laid-append p q
