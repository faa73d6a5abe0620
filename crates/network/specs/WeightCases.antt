-- Cases of the order in which a verdict tries patterns, each computed and held against what is stated. A case is a pair: what the
-- definitions give, and what is stated. Assumes nothing.
use Rattle.std.specs.Prelude.{List, [], ◌∷◌, map, ℕ}
use Rattle.bits.specs.Range.{up_from}
use Rattle.network.specs.Net.{Net, weight, by_weight, pattern_order}
use Rattle.network.specs.Examples.{g, net}
use Rattle.network.specs.ListCases.{harm_said}

-- one gate with table 0 over three of n inputs
abbrev pub one_gate : (n ex : ℕ) (fanins : List ℕ) → Net
one_gate n ex fs = net n ex (g fs 0 ∷ []) (n ∷ [])

-- two like gates, each an output
abbrev pub two_gates : Net
two_gates = net 3 0 (g (0 ∷ 1 ∷ 2 ∷ []) 0 ∷ g (0 ∷ 1 ∷ 2 ∷ []) 0 ∷ []) (3 ∷ 4 ∷ [])

-- two gates with table 0 and their OR
abbrev pub or_of_two : Net
or_of_two = net 6 0 (g (0 ∷ 1 ∷ 2 ∷ []) 0 ∷ g (2 ∷ 3 ∷ 4 ∷ 5 ∷ []) 0 ∷ g (6 ∷ 7 ∷ []) 0xE ∷ []) (8 ∷ [])

abbrev pub weights : List (List ℕ × List ℕ)
weights =
    (map (weight 3) (up_from 0 8), 0 ∷ 1 ∷ 1 ∷ 2 ∷ 1 ∷ 2 ∷ 2 ∷ 3 ∷ [])
    ∷ (pattern_order (one_gate 3 0 []), 0 ∷ 1 ∷ 2 ∷ 4 ∷ 3 ∷ 5 ∷ 6 ∷ 7 ∷ [])
    ∷ (by_weight 3 2, 0 ∷ 1 ∷ 2 ∷ 4 ∷ [])
    -- 4, with one line on, before 3, with two
    ∷ (harm_said (one_gate 3 0 (0 ∷ 1 ∷ 2 ∷ [])) (3 ∷ []) (0x18 ∷ []), 14 ∷ 4 ∷ 0 ∷ [])
    -- the smaller number among equals: 3 and 5, 5 and 6
    ∷ (harm_said (one_gate 3 0 (0 ∷ 1 ∷ 2 ∷ [])) (3 ∷ []) (0x28 ∷ []), 14 ∷ 3 ∷ 0 ∷ [])
    ∷ (harm_said (one_gate 3 0 (0 ∷ 1 ∷ 2 ∷ [])) (3 ∷ []) (0x60 ∷ []), 14 ∷ 5 ∷ 0 ∷ [])
    -- no line on, before all lines
    ∷ (harm_said (one_gate 3 0 (0 ∷ 1 ∷ 2 ∷ [])) (3 ∷ []) (0x81 ∷ []), 14 ∷ 0 ∷ 0 ∷ [])
    -- all lines on is found too
    ∷ (harm_said (one_gate 3 0 (0 ∷ 1 ∷ 2 ∷ [])) (3 ∷ []) (0x80 ∷ []), 14 ∷ 7 ∷ 0 ∷ [])
    -- an excluded pattern is not named, however few its lines
    ∷ (harm_said (one_gate 3 0x10 (0 ∷ 1 ∷ 2 ∷ [])) (3 ∷ []) (0x38 ∷ []), 14 ∷ 3 ∷ 0 ∷ [])
    -- the lowest output at that pattern, not of all
    ∷ (harm_said two_gates (3 ∷ 4 ∷ []) (0x08 ∷ 0x10 ∷ []), 14 ∷ 4 ∷ 1 ∷ [])
    -- 64, in the second word, before 3, in the first
    ∷ (harm_said (one_gate 7 0 (0 ∷ 1 ∷ 6 ∷ [])) (7 ∷ []) (0x18 ∷ []), 14 ∷ 64 ∷ 0 ∷ [])
    -- 12 before 7
    ∷ (harm_said or_of_two (6 ∷ 7 ∷ []) (0x80 ∷ 0x1008 ∷ []), 14 ∷ 12 ∷ 0 ∷ [])
    ∷ []
