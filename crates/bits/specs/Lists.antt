-- Lists of bytes and words, which is what files and lent buffers hold. Assumes nothing.
use Rattle.std.specs.Prelude.{◌≡◌, List, [], ◌∷◌, ◌++◌, map, ℕ, zero, suc, ◌/◌, ◌%◌, ◌<◌, length, get_or, drop}

-- each element is a byte
abbrev pub Bytes : List ℕ → Type 0
Bytes l = (i : ℕ) → get_or l i 0 < 256

-- the c lowest bytes of a number, the lowest first
abbrev pub bytes_in : ℕ → ℕ → List ℕ
bytes_in zero x = []
bytes_in (suc c) x = x % 256 ∷ bytes_in c (x / 256)

-- a buffer with the new words or bytes from its start, the rest stays
abbrev pub overwritten : List ℕ → List ℕ → List ℕ
overwritten new buffer = new ++ drop (length new) buffer

-- each case of a table holds: a case is a pair, what the definitions give and what is stated
abbrev pub Hold : {A : Type 0} → List (A × A) → Type 0
Hold cases = map (λ c. c.0) cases ≡ map (λ c. c.1) cases
