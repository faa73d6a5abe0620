-- Cases of gates with more than four fan-ins, request Five of 02, each computed and held against what is stated. A case is a pair: what
-- the definitions give, and what is stated. Assumes nothing.
use Rattle.std.specs.Prelude.{◌≡◌, List, [], ◌∷◌, ◌++◌, ℕ}
use Rattle.network.specs.Net.{Net, gate}
use Rattle.network.specs.DontCares.{sdc, cdc, full}
use Rattle.network.specs.Compatible.{free_fanins, compatible, open_table}
use Rattle.network.specs.Flat.{loaded_net}
use Rattle.network.specs.Load.{session_of, load_of}
use Rattle.network.specs.Write.{bytes_of}
use Rattle.network.specs.Calls.{sdc_words}
use Rattle.network.specs.Examples.{control_five, six_inputs, selector, or_six_bytes, or_six_session, or_six, five_inputs}
use Rattle.network.specs.Cases.{numbers, to, set_of, exchange_said, verdict_said}

-- the two words of the SDC, the lower entries first
abbrev pub sdc_of : Net → ℕ → List ℕ
sdc_of N s = let x = sdc_words (sdc N s) in x.low ∷ x.high ∷ []

-- SDC in two words, CDC, full and open table, and H of the gate s
abbrev pub of_gate : Net → ℕ → List ℕ
of_gate N s = sdc_of N s ++ cdc N s ∷ full N s ∷ open_table N s ∷ set_of N (compatible N s) ∷ []

-- ## Six copies of an input, and their OR

-- loaded and written
abbrev pub OrSixFile : Type 0
OrSixFile = (numbers (session_of (load_of or_six_bytes)) ≡ numbers or_six_session) × (bytes_of or_six_session ≡ or_six_bytes)

-- five of the copies may use that they are hidden, the last may not
abbrev pub copies : List (List ℕ × List ℕ)
copies =
    (of_gate or_six 1, 0x6 ∷ 0 ∷ 0x0 ∷ 0x2 ∷ 0x2 ∷ 0b10 ∷ [])
    ∷ (of_gate or_six 2, 0x6 ∷ 0 ∷ 0x0 ∷ 0x2 ∷ 0x2 ∷ 0b10 ∷ [])
    ∷ (of_gate or_six 3, 0x6 ∷ 0 ∷ 0x0 ∷ 0x2 ∷ 0x2 ∷ 0b10 ∷ [])
    ∷ (of_gate or_six 4, 0x6 ∷ 0 ∷ 0x0 ∷ 0x2 ∷ 0x2 ∷ 0b10 ∷ [])
    ∷ (of_gate or_six 5, 0x6 ∷ 0 ∷ 0x0 ∷ 0x2 ∷ 0x2 ∷ 0b10 ∷ [])
    ∷ (of_gate or_six 6, 0x6 ∷ 0 ∷ 0x0 ∷ 0x2 ∷ 0x0 ∷ 0 ∷ [])
    ∷ []

-- of the OR; rule 6 frees its first five fan-ins at entry 63, and none at 0
abbrev pub the_or : List (List ℕ × List ℕ)
the_or =
    (sdc_of or_six 7 ++ cdc or_six 7 ∷ full or_six 7 ∷ set_of or_six (compatible or_six 7) ∷ [], 0xFFFFFFFFFFFFFFFE ∷ 0x1 ∷ 0x7FFFFFFFFFFFFFFE ∷ 0x7FFFFFFFFFFFFFFE ∷ 0 ∷ [])
    ∷ (free_fanins (gate or_six 7) 63 ∷ free_fanins (gate or_six 7) 0 ∷ [], 0b11111 ∷ 0 ∷ [])
    ∷ []

abbrev pub OpenOr : Type 0
OpenOr = open_table or_six 7 ≡ 0x00000000FFFFFFFE

abbrev pub or_six_calls : List (List ℕ × List ℕ)
or_six_calls =
    (exchange_said or_six_session [] (to 7 0), 13 ∷ 32 ∷ [])
    ∷ (exchange_said or_six_session [] (to 7 0x7FFFFFFFFFFFFFFE), 13 ∷ 63 ∷ [])
    ∷ (exchange_said or_six_session [] (to 7 0xFFFFFFFF00000000), [])
    ∷ (verdict_said or_six_session [] (to 7 0), 14 ∷ 1 ∷ 0 ∷ [])
    ∷ (verdict_said or_six_session [] (to 7 0x8000000000000000), [])
    -- a table of six fan-ins is never too wide
    ∷ (exchange_said or_six_session [] (to 7 0xFFFFFFFFFFFFFFFF), 13 ∷ 0 ∷ [])
    ∷ []

-- ## Other networks

-- document 004's external don't cares: the CDC is X'a + Ya' + a'cdX + cdY; and one gate over five inputs
abbrev pub five_fanins : List (List ℕ × List ℕ)
five_fanins =
    (of_gate control_five 6, 0x6996966996696996 ∷ 0 ∷ 0xD5FF40AA ∷ 0xD5FF40AA ∷ 0xD5FF40AA ∷ 0xC000 ∷ [])
    ∷ (of_gate (loaded_net (five_inputs 5 0xFFFFFFFF)) 5, 0x00000000FFFFFFFF ∷ 0 ∷ 0 ∷ 0 ∷ 0 ∷ 0 ∷ [])
    ∷ []

-- one gate with table t over six inputs: the words of its SDC; the other tables and H are all entries, and all patterns, where no
-- pattern comes, and else empty
abbrev pub over_six : (t high : ℕ) → List (List ℕ × List ℕ)
over_six t high = (of_gate (six_inputs 0 t) 6, t ∷ high ∷ 0 ∷ 0 ∷ 0 ∷ 0 ∷ []) ∷ []

abbrev pub none_comes : List (List ℕ × List ℕ)
none_comes =
    (of_gate (six_inputs 0xFFFFFFFFFFFFFFFF 0xFFFFFFFFFFFFFFFF) 6, 0xFFFFFFFFFFFFFFFF ∷ 0 ∷ 0xFFFFFFFFFFFFFFFF ∷ 0xFFFFFFFFFFFFFFFF ∷ 0xFFFFFFFFFFFFFFFF ∷ 0xFFFFFFFFFFFFFFFF ∷ []) ∷ []

-- an input of a selector is hidden where it is not chosen
abbrev pub chosen : (s hidden : ℕ) → List (List ℕ × List ℕ)
chosen s hidden = (of_gate selector s, 0x6 ∷ 0 ∷ 0 ∷ 0 ∷ 0 ∷ hidden ∷ []) ∷ []
