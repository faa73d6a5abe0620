-- Cases of the definitions, each computed and held against what is stated: 01's (m) cases, bounds and sizes, refused calls, damaged
-- files. A case is a pair: what the definitions give, and what is stated. Assumes nothing.
use Rattle.std.specs.Prelude.{Bool, List, [], ◌∷◌, ◌++◌, ℕ, take, drop, set, replicate}
use Rattle.bits.specs.Bounds.{most_inputs, row_words}
use Rattle.bits.specs.Bit.{table_of}
use Rattle.network.specs.declared.Session.{Session}
use Rattle.network.specs.Answer.{giving}
use Rattle.network.specs.Bounds.{most_gates, most_outputs, most_fanins, most_entries, most_signals, fanin_places, signal_words, gate_words, excluded_words, most_set_bytes, most_gate_bytes, most_file_bytes}
use Rattle.network.specs.Net.{Net, gate, patterns, Replacement}
use Rattle.network.specs.DontCares.{sdc, cdc, odc, full}
use Rattle.network.specs.Compatible.{free_fanins, compatible, compatible_count, open_table}
use Rattle.network.specs.Refusals.{said}
use Rattle.network.specs.Load.{session_of, read_of, load_of}
use Rattle.network.specs.Write.{bytes_of}
use Rattle.network.specs.Calls.{exchange_of, verdict_on, tables_of, write_of}
use Rattle.network.specs.Sessions.{after}
use Rattle.network.specs.Examples.{twin_bytes, twin_session, twin_net, chain_bytes, chain_session, freeing, tour}

-- ## Words for the cases

-- all numbers of a session, one after the other
abbrev pub numbers : Session → List ℕ
numbers s = s.n ∷ s.m ∷ s.p ∷ s.excluded ++ s.arity ++ s.fanins ++ s.loaded ++ s.current ++ s.open_tables ++ s.outputs

abbrev pub to : ℕ → ℕ → Replacement
to s t = record { signal = s; table = t }

-- a set of patterns as a number
abbrev pub set_of : Net → (ℕ → Bool) → ℕ
set_of N p = table_of (patterns N) p

-- an exchange and a verdict after some exchanges, in 01's numbers
abbrev pub exchange_said : Session → List Replacement → Replacement → List ℕ
exchange_said s rs r = said (exchange_of (after s rs) r)

abbrev pub verdict_said : Session → List Replacement → Replacement → List ℕ
verdict_said s rs r = said (verdict_on (after s rs) (r ∷ []))

-- ## 01, 'The twin network': the cases marked (m)

abbrev pub marked : List (List ℕ × List ℕ)
marked =
    -- the twin network's bytes, loaded and written
    (said (load_of twin_bytes) ++ numbers (session_of (load_of twin_bytes)), numbers twin_session)
    ∷ (bytes_of twin_session, twin_bytes)
    -- ODC of gates 1 and 2 is {1}; of gate 3 empty
    ∷ (set_of twin_net (odc twin_net 1) ∷ set_of twin_net (odc twin_net 2) ∷ set_of twin_net (odc twin_net 3) ∷ [], 0b10 ∷ 0b10 ∷ 0 ∷ [])
    -- H of gate 1 is {1}; of gates 2 and 3 empty
    ∷ (set_of twin_net (compatible twin_net 1) ∷ set_of twin_net (compatible twin_net 2) ∷ set_of twin_net (compatible twin_net 3) ∷ [], 0b10 ∷ 0 ∷ 0 ∷ [])
    ∷ (compatible_count twin_net 1 ∷ compatible_count twin_net 2 ∷ compatible_count twin_net 3 ∷ [], 1 ∷ 0 ∷ 0 ∷ [])
    -- SDC of gate 1 is 06, of gate 3 1E
    ∷ (sdc twin_net 1 ∷ sdc twin_net 3 ∷ [], 0x06 ∷ 0x1E ∷ [])
    -- the three tables of gate 3: cdc, full, open
    ∷ (cdc twin_net 3 ∷ full twin_net 3 ∷ open_table twin_net 3 ∷ [], 0x6 ∷ 0x6 ∷ 0x2 ∷ [])
    -- exchange gate 1 to 0: accepted; gate 2 to 0: 13, entry 1
    ∷ (exchange_said twin_session [] (to 1 0), [])
    ∷ (take 3 (after twin_session (to 1 0 ∷ [])).current, 0x0 ∷ 0x2 ∷ 0xE ∷ [])
    ∷ (exchange_said twin_session [] (to 2 0), 13 ∷ 1 ∷ [])
    -- verdict, gate 2 to 0: harmless after load, 14 with pattern 1, output 0, once gate 1 is 0
    ∷ (verdict_said twin_session [] (to 2 0), [])
    ∷ (verdict_said twin_session (to 1 0 ∷ []) (to 2 0), 14 ∷ 1 ∷ 0 ∷ [])
    -- gate 3 to C: accepted, before or after gate 1
    ∷ (exchange_said twin_session [] (to 3 0xC), [])
    ∷ (exchange_said twin_session (to 1 0 ∷ []) (to 3 0xC), [])
    ∷ (exchange_said twin_session (to 3 0xC ∷ []) (to 1 0), [])
    -- rule 6 frees y1 and y3 of y2·(y1 + y3) at 000
    ∷ (free_fanins (gate freeing 6) 0 ∷ [], 0b101 ∷ [])
    -- document 004's tour: CDC of f 2E, full table 7F
    ∷ (cdc tour 6 ∷ full tour 6 ∷ [], 0x2E ∷ 0x7F ∷ [])
    ∷ []

-- ## The bounds, and the sizes that follow from them

abbrev pub sizes : List (List ℕ × List ℕ)
sizes =
    (most_inputs ∷ most_gates ∷ most_outputs ∷ most_fanins ∷ [], 10 ∷ 40 ∷ 8 ∷ 6 ∷ [])
    ∷ (most_signals ∷ most_entries ∷ fanin_places ∷ [], 50 ∷ 64 ∷ 240 ∷ [])
    ∷ (row_words ∷ excluded_words ∷ signal_words ∷ gate_words ∷ [], 16 ∷ 16 ∷ 800 ∷ 640 ∷ [])
    ∷ (most_set_bytes ∷ most_gate_bytes ∷ most_file_bytes ∷ [], 128 ∷ 17 ∷ 839 ∷ [])
    ∷ []

-- ## Refusals

abbrev pub refused : List (List ℕ × List ℕ)
refused =
    -- 11, 12, and 10 for the session of a refused load
    (exchange_said twin_session [] (to 0 0) ++ exchange_said twin_session [] (to 4 0) ++ exchange_said twin_session [] (to 1 4) ++ verdict_said twin_session [] (to 3 16), 11 ∷ 11 ∷ 12 ∷ 12 ∷ [])
    ∷ (exchange_said (session_of (load_of [])) [] (to 0 0), 10 ∷ [])
    -- 11, 10 and nothing for the tables of a gate; 9 and nothing for a file's bytes
    ∷ (said (tables_of twin_session 0) ++ said (tables_of (session_of (load_of [])) 1) ++ said (tables_of twin_session 1), 11 ∷ 10 ∷ [])
    ∷ (said {T = ℕ} (giving (write_of twin_session (replicate 26 0)).answer 27) ++ said {T = ℕ} (giving (write_of twin_session (replicate 27 0)).answer 27), 9 ∷ [])
    -- the compatible sets stay those of the loaded network: gate 1 to 2 alters a closed entry, also after an exchange at gate 2
    ∷ (numbers (session_of (load_of chain_bytes)), numbers chain_session)
    ∷ (exchange_said chain_session [] (to 1 2), 13 ∷ 1 ∷ [])
    ∷ (exchange_said chain_session (to 2 3 ∷ []) (to 1 2), 13 ∷ 1 ∷ [])
    ∷ []

abbrev pub but : ℕ → ℕ → List ℕ
but i x = set twin_bytes i x

-- the case of a file: what reading it answers, in 01's numbers
abbrev pub read_said : List ℕ × List ℕ → List ℕ × List ℕ
read_said c = (said (read_of c.0), c.1)

-- damaged files, with 01's number
abbrev pub damaged : List (List ℕ × List ℕ)
damaged =
    ([], 1 ∷ [])
    ∷ (take 1 twin_bytes, 1 ∷ [])
    -- the length is tested before a field
    ∷ (take 2 twin_bytes, 1 ∷ [])
    ∷ (take 26 twin_bytes, 1 ∷ [])
    ∷ (twin_bytes ++ 0 ∷ [], 8 ∷ [])
    ∷ (but 1 0x47, 2 ∷ [])
    ∷ (but 2 0, 3 ∷ [])
    ∷ (but 2 11, 3 ∷ [])
    ∷ (but 3 41, 3 ∷ [])
    ∷ (but 4 9, 3 ∷ [])
    ∷ (but 7 5, 3 ∷ [])
    ∷ (but 8 1, 4 ∷ [])
    ∷ (but 21 1, 5 ∷ [])
    ∷ (but 9 4, 6 ∷ [])
    ∷ (but 26 4, 7 ∷ [])
    ∷ (but 24 0, 2 ∷ [])
    -- k is tested before the rest of the length
    ∷ (0x4E ∷ 0x49 ∷ 1 ∷ 1 ∷ 1 ∷ 0x4E ∷ 0x47 ∷ 5 ∷ [], 3 ∷ [])
    -- a bit past 2^n in the excluded set, and none
    ∷ (take 5 twin_bytes ++ 0x4E ∷ 0x58 ∷ 4 ∷ drop 5 twin_bytes, 6 ∷ [])
    ∷ (take 5 twin_bytes ++ 0x4E ∷ 0x58 ∷ 3 ∷ drop 5 twin_bytes, [])
    ∷ []
