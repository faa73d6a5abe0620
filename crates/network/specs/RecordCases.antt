-- Cases of both gate records and of the width of tables, request Five of 02, each computed and held against what is stated. A case is a
-- pair: what the definitions give, and what is stated. Assumes nothing.
use Rattle.std.specs.Prelude.{List, [], ◌∷◌, ◌++◌, ℕ, replicate}
use Rattle.network.specs.Examples.{five_inputs}
use Rattle.network.specs.Cases.{to, exchange_said, verdict_said}

-- 12: a table of five fan-ins has 32 bits; 10: k, and the width of a table
abbrev pub wide_refused : List (List ℕ × List ℕ)
wide_refused =
    (exchange_said (five_inputs 5 0xFFFFFFFF) [] (to 5 0x100000000), 12 ∷ [])
    ∷ (verdict_said (five_inputs 5 0xFFFFFFFF) [] (to 5 0x100000000), 12 ∷ [])
    ∷ (exchange_said (five_inputs 7 0) [] (to 5 0), 10 ∷ [])
    ∷ (exchange_said (five_inputs 5 0x100000000) [] (to 5 0), 10 ∷ [])
    ∷ []

-- six inputs, one gate, one output; then what the case has
abbrev pub behind : List ℕ → List ℕ
behind rest = 0x4E ∷ 0x49 ∷ 0x06 ∷ 0x01 ∷ 0x01 ∷ rest

-- a gate of six fan-ins, with these table bytes
abbrev pub gate_six : (fanins bytes : List ℕ) → List ℕ
gate_six fs bs = behind (0x4E ∷ 0x48 ∷ 0x06 ∷ fs ++ bs)

abbrev pub ones : ℕ → List ℕ
ones c = replicate c 0xFF

abbrev pub output6 : List ℕ
output6 = 0x4E ∷ 0x4F ∷ 0x06 ∷ []

abbrev pub inputs : List ℕ
inputs = 0 ∷ 1 ∷ 2 ∷ 3 ∷ 4 ∷ 5 ∷ []

-- files, with 01's number
abbrev pub wide_records : List (List ℕ × List ℕ)
wide_records =
    -- 3 by the bounds of the record's own form, before its length
    (behind (0x4E ∷ 0x48 ∷ 4 ∷ []), 3 ∷ [])
    ∷ (behind (0x4E ∷ 0x48 ∷ 7 ∷ []), 3 ∷ [])
    ∷ (behind (0x4E ∷ 0x48 ∷ 0 ∷ []), 3 ∷ [])
    ∷ (behind (0x4E ∷ 0x47 ∷ 5 ∷ []), 3 ∷ [])
    ∷ (behind (0x4E ∷ 0x47 ∷ 6 ∷ []), 3 ∷ [])
    ∷ (behind (0x4E ∷ 0x48 ∷ []), 1 ∷ [])
    ∷ (behind (0x4E ∷ 0x48 ∷ 5 ∷ []), 1 ∷ [])
    ∷ (behind (0x4E ∷ 0x47 ∷ 4 ∷ []), 1 ∷ [])
    ∷ (behind (0x4E ∷ 0x4A ∷ 6 ∷ []), 2 ∷ [])
    -- five fan-ins have 32 bits
    ∷ (behind (0x4E ∷ 0x48 ∷ 5 ∷ 0 ∷ 1 ∷ 2 ∷ 3 ∷ 4 ∷ 0 ∷ 0 ∷ 0 ∷ 0 ∷ 1 ∷ 0 ∷ 0 ∷ 0 ∷ output6), 6 ∷ [])
    ∷ (gate_six (0 ∷ 1 ∷ 2 ∷ 3 ∷ 4 ∷ 6 ∷ []) (ones 8 ++ output6), 4 ∷ [])
    ∷ (gate_six (0 ∷ 1 ∷ 2 ∷ 3 ∷ 4 ∷ 0 ∷ []) (ones 8 ++ output6), 5 ∷ [])
    -- eight table bytes, not nine, nor seven
    ∷ (gate_six inputs (ones 8 ++ output6), [])
    ∷ (gate_six inputs (ones 9 ++ output6), 2 ∷ [])
    ∷ (gate_six inputs (ones 7), 1 ∷ [])
    -- where no gate is due, before the first and behind the last
    ∷ (0x4E ∷ 0x48 ∷ 0x06 ∷ 0x01 ∷ 0x01 ∷ [], 2 ∷ [])
    ∷ (gate_six inputs (ones 8 ++ 0x4E ∷ 0x48 ∷ 0x06 ∷ []), 2 ∷ [])
    ∷ []
