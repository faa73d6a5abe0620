-- The bits of a number, and numbers made of bits. A pattern, a table, a set of entries is a number read by its bits. Assumes nothing.
use Rattle.std.specs.Prelude.{◌≡◌, Bool, true, false, not, ◌||◌, List, [], ◌∷◌, map, ℕ, ◌+◌, ◌*◌, ◌/◌, ◌%◌, ◌^◌, ◌<◌, eqb, get_or}
use Rattle.std.specs.Bool.{beq}
use Rattle.std.specs.Int.Bits.{bit_and}
use Rattle.bits.specs.Range.{num, places, every}

-- bit i of x
unfoldable pub bit : ℕ → ℕ → Bool
bit x i = eqb (x / 2 ^ i % 2) 1

-- a where s holds, else b
abbrev pub choose : Bool → Bool → Bool → Bool
choose true a b = a
choose false a b = b

-- one of the two holds, and not both
abbrev pub differs : Bool → Bool → Bool
differs true b = not b
differs false b = b

-- the number whose bit i is the list's place i: the sum of place i times 2^i
abbrev pub number : List Bool → ℕ
number [] = 0
number (b ∷ bs) = num b + 2 * number bs

-- the table of n entries whose entry t is p t
abbrev pub table_of : ℕ → (ℕ → Bool) → ℕ
table_of n p = number (places n p)

-- bit b of each word
unfoldable pub column : List ℕ → ℕ → List Bool
column ws b = map (λ w. bit w b) ws

-- the entry that the first k words pick at bit b
abbrev pub entry_at : ℕ → List ℕ → ℕ → ℕ
entry_at k ws b = table_of k (λ r. bit (get_or ws r 0) b)

-- at bit b the first k words give the entry t, words that are free there aside
abbrev pub gives : (k : ℕ) (words frees : List ℕ) (t b : ℕ) → Bool
gives k ws fs t b = every k (λ r. bit (get_or fs r 0) b || beq (bit (get_or ws r 0) b) (bit t r))

-- the words l, from the words l₀: each of the first n in two, its part in lo at its place, its part in hi size places on
abbrev pub Split : (l₀ l : List ℕ) (size lo hi n : ℕ) → Type 0
Split l₀ l size lo hi n = (t : ℕ) → t < n → (get_or l t 0 ≡ bit_and (get_or l₀ t 0) lo) × (get_or l (size + t) 0 ≡ bit_and (get_or l₀ t 0) hi)
