-- The stretches of a buffer of words, gate after gate, laid from two arrays with a row for each gate. Assumes nothing.
use Rattle.std.specs.Prelude.{List, [], ◌++◌, ℕ, zero, suc, ◌+◌, ◌*◌, get_or}
use Rattle.bits.specs.Bounds.{row_words}
use Rattle.bits.specs.Range.{places}

-- the first w of gate g's places
abbrev pub row : List ℕ → ℕ → ℕ → List ℕ
row l w g = places w (λ i. get_or l (row_words * g + i) 0)

-- the stretches of the first g gates
abbrev pub stretches : (odcs sets : List ℕ) → ℕ → ℕ → List ℕ
stretches odcs sets w zero = []
stretches odcs sets w (suc g) = stretches odcs sets w g ++ (row odcs w g ++ row sets w g)
