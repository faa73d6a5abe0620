-- Cases of the sets and calls, each computed and held against what is stated: document 004's examples, excluded patterns in the CDC, more
-- than 64 patterns, more than one output. A case is a pair: what the definitions give, and what is stated. Assumes nothing.
use Rattle.std.specs.Prelude.{List, [], ◌∷◌, ◌++◌, map, ℕ}
use Rattle.network.specs.declared.Session.{Session}
use Rattle.network.specs.Net.{Net, Replacement, replaced}
use Rattle.network.specs.DontCares.{sdc, cdc, odc, full}
use Rattle.network.specs.Compatible.{compatible, compatible_total, open_table}
use Rattle.network.specs.Flat.{loaded_net, current_net}
use Rattle.network.specs.Refusals.{said}
use Rattle.network.specs.Load.{session_of, load_of}
use Rattle.network.specs.Write.{bytes_of}
use Rattle.network.specs.Calls.{harm_test}
use Rattle.network.specs.Sessions.{after}
use Rattle.network.specs.Examples.{twin_session, twin_net, chain_session, two_words_bytes, two_words_session, two_words_net, multi_output_bytes, multi_output_session, multi_output_net, freeing, tour_first, tour_second, tour, sum_of_products, control_three, control_four, observe, segment, three_lines, none_comes, last_comes, zero_never}
use Rattle.network.specs.Cases.{numbers, to, set_of, exchange_said, verdict_said}

-- a lone verdict on a loaded network, in 01's numbers
abbrev pub lone_said : Net → Replacement → List ℕ
lone_said N r = said (harm_test N (replaced N (r ∷ [])))

-- ## Document 004's examples, and what 01's rules give for them

-- SDC, CDC, full and open table, ODC and H of the gate s
abbrev pub of_gate : Net → ℕ → List ℕ
of_gate N s = sdc N s ∷ cdc N s ∷ full N s ∷ open_table N s ∷ set_of N (odc N s) ∷ set_of N (compatible N s) ∷ []

abbrev pub worked : List (List ℕ × List ℕ)
worked =
    (of_gate twin_net 1, 0x6 ∷ 0x0 ∷ 0x2 ∷ 0x2 ∷ 0x2 ∷ 0x2 ∷ [])
    ∷ (of_gate twin_net 2, 0x6 ∷ 0x0 ∷ 0x2 ∷ 0x0 ∷ 0x2 ∷ 0x0 ∷ [])
    ∷ (of_gate twin_net 3, 0x1E ∷ 0x6 ∷ 0x6 ∷ 0x2 ∷ 0x0 ∷ 0x0 ∷ [])
    ∷ (of_gate freeing 3, 0x6 ∷ 0x0 ∷ 0x0 ∷ 0x0 ∷ 0xF3 ∷ 0xF3 ∷ [])
    ∷ (of_gate freeing 4, 0x6 ∷ 0x0 ∷ 0x0 ∷ 0x0 ∷ 0x5 ∷ 0x4 ∷ [])
    ∷ (of_gate freeing 5, 0x6 ∷ 0x0 ∷ 0x0 ∷ 0x0 ∷ 0xBB ∷ 0x3B ∷ [])
    ∷ (of_gate freeing 6, 0x37C8 ∷ 0x0 ∷ 0x0 ∷ 0x0 ∷ 0x0 ∷ 0x0 ∷ [])
    ∷ (of_gate tour_first 4, 0x78 ∷ 0x0 ∷ 0x0 ∷ 0x0 ∷ 0xC3C3 ∷ 0xC3C3 ∷ [])
    ∷ (of_gate tour_first 5, 0x17E8 ∷ 0x22 ∷ 0x22 ∷ 0x20 ∷ 0x0 ∷ 0x0 ∷ [])
    ∷ (of_gate tour_second 3, 0x78 ∷ 0x0 ∷ 0xC ∷ 0xC ∷ 0xCF ∷ 0xCF ∷ [])
    ∷ (of_gate tour_second 4, 0x1E ∷ 0x0 ∷ 0x5 ∷ 0x4 ∷ 0xBB ∷ 0x30 ∷ [])
    ∷ (of_gate tour_second 5, 0x17E8 ∷ 0x2E ∷ 0x2E ∷ 0x2C ∷ 0x0 ∷ 0x0 ∷ [])
    ∷ (of_gate tour 4, 0x78 ∷ 0x0 ∷ 0x0 ∷ 0x0 ∷ 0x3FF ∷ 0xFF ∷ [])
    ∷ (of_gate tour 5, 0x1E ∷ 0x0 ∷ 0xF ∷ 0x5 ∷ 0xFFFF ∷ 0x77FF ∷ [])
    ∷ (of_gate tour 6, 0x17E8 ∷ 0x2E ∷ 0x7F ∷ 0x7F ∷ 0x77FF ∷ 0x77FF ∷ [])
    ∷ (of_gate tour 7, 0x7F80 ∷ 0x44 ∷ 0x44 ∷ 0x40 ∷ 0x0 ∷ 0x0 ∷ [])
    ∷ (of_gate sum_of_products 3, 0x7F8 ∷ 0x0 ∷ 0x0 ∷ 0x0 ∷ 0x0 ∷ 0x0 ∷ [])
    ∷ (of_gate control_three 2, 0x1E ∷ 0x0 ∷ 0x0 ∷ 0x0 ∷ 0x0 ∷ 0x0 ∷ [])
    ∷ (of_gate control_three 3, 0x78 ∷ 0x0 ∷ 0x0 ∷ 0x0 ∷ 0x0 ∷ 0x0 ∷ [])
    ∷ (of_gate control_three 4, 0x6996 ∷ 0x72 ∷ 0x72 ∷ 0x72 ∷ 0x0 ∷ 0x0 ∷ [])
    ∷ (of_gate control_four 3, 0x1E ∷ 0x0 ∷ 0x0 ∷ 0x0 ∷ 0x0 ∷ 0xC0 ∷ [])
    ∷ (of_gate control_four 4, 0x78 ∷ 0x0 ∷ 0x0 ∷ 0x0 ∷ 0x0 ∷ 0xC0 ∷ [])
    -- document 004's external don't cares: the CDC is X'a + Ya' + a'cX + cY
    ∷ (of_gate control_four 5, 0x96696996 ∷ 0xDF4A ∷ 0xDF4A ∷ 0xDF4A ∷ 0x0 ∷ 0xC0 ∷ [])
    ∷ (of_gate observe 3, 0x96 ∷ 0x0 ∷ 0x8 ∷ 0x8 ∷ 0xC8 ∷ 0xC8 ∷ [])
    ∷ (of_gate observe 4, 0x4707B8F8 ∷ 0x9696 ∷ 0x9696 ∷ 0x1216 ∷ 0x0 ∷ 0x0 ∷ [])
    ∷ (of_gate segment 4, 0xFC1203ED ∷ 0xFC00 ∷ 0xFC00 ∷ 0xFC00 ∷ 0x0 ∷ 0xFC00 ∷ [])
    -- f may become b, or 1 once Z uses it, and not 0; X may not become a + b
    ∷ (lone_said tour_second (to 5 0xCC), [])
    ∷ (lone_said tour (to 6 0xFF), [])
    ∷ (lone_said tour (to 6 0x00), 14 ∷ 11 ∷ 0 ∷ [])
    ∷ (lone_said tour (to 4 0xE), 14 ∷ 10 ∷ 0 ∷ [])
    ∷ []

-- ## Request Two of 02: an entry that excluded patterns alone give is in the CDC

-- the request's own: the CDC of a gate with any table, over lines that never are 111
abbrev pub head_lines : ℕ → List (List ℕ × List ℕ)
head_lines t = (cdc (three_lines t) 3 ∷ [], 0x80 ∷ []) ∷ []

-- CDC, full and open table of the gate g after some exchanges
abbrev pub tables_after : Session → List Replacement → ℕ → List ℕ
tables_after s rs g = let N = current_net (after s rs) in cdc N g ∷ full N g ∷ open_table (loaded_net s) g ∷ []

abbrev pub never_given : List (List ℕ × List ℕ)
never_given =
    (of_gate (three_lines 0x96) 3, 0x6996 ∷ 0x80 ∷ 0x80 ∷ 0x80 ∷ 0x0 ∷ 0x80 ∷ [])
    -- no pattern comes: every entry of every gate
    ∷ (of_gate none_comes 2, 0x78 ∷ 0xF ∷ 0xF ∷ 0xF ∷ 0x0 ∷ 0xF ∷ [])
    ∷ (of_gate none_comes 3, 0x9 ∷ 0x3 ∷ 0x3 ∷ 0x3 ∷ 0x0 ∷ 0xF ∷ [])
    -- one pattern comes: all entries but the one that it gives; the ODC does not look at E
    ∷ (of_gate last_comes 2, 0x96 ∷ 0x7 ∷ 0x7 ∷ 0x7 ∷ 0x5 ∷ 0x7 ∷ [])
    ∷ (of_gate last_comes 3, 0x78 ∷ 0xB ∷ 0xB ∷ 0xB ∷ 0x0 ∷ 0x7 ∷ [])
    -- CDC, full and open table are three sets
    ∷ (of_gate zero_never 2, 0x78 ∷ 0x1 ∷ 0x5 ∷ 0x5 ∷ 0x5 ∷ 0x5 ∷ [])
    ∷ (of_gate zero_never 3, 0x78 ∷ 0x2 ∷ 0x2 ∷ 0x0 ∷ 0x0 ∷ 0x1 ∷ [])
    -- of the current network: what an exchange brings only at an excluded pattern stays in the CDC, and what it takes away comes in
    ∷ (exchange_said chain_session [] (to 1 1) ++ exchange_said twin_session [] (to 1 0), [])
    ∷ (tables_after chain_session [] 1 ++ tables_after chain_session [] 2, 0x1 ∷ 0x1 ∷ 0x1 ∷ 0x2 ∷ 0x2 ∷ 0x2 ∷ [])
    ∷ (tables_after chain_session (to 1 1 ∷ []) 2, 0x2 ∷ 0x2 ∷ 0x2 ∷ [])
    ∷ (tables_after twin_session (to 1 0 ∷ []) 3, 0xA ∷ 0xA ∷ 0x2 ∷ [])
    ∷ []

-- ## More than 64 patterns

abbrev pub two_words : List (List ℕ × List ℕ)
two_words =
    -- loaded and written
    (numbers (session_of (load_of two_words_bytes)), numbers two_words_session)
    ∷ (bytes_of two_words_session, two_words_bytes)
    -- entry 3 comes at excluded patterns only; entry 2 comes at 64, which is excluded, and at 65
    ∷ (cdc two_words_net 7 ∷ full two_words_net 7 ∷ open_table two_words_net 7 ∷ [], 0x8 ∷ 0x8 ∷ 0x8 ∷ [])
    ∷ (set_of two_words_net (compatible two_words_net 7) ∷ [], 0xFFFFFFFF080402018040201008040201 ∷ [])
    ∷ (verdict_said two_words_session [] (to 7 0x0), [])
    ∷ (verdict_said two_words_session [] (to 7 0xC), 14 ∷ 65 ∷ 0 ∷ [])
    ∷ []

-- ## More than one output

abbrev pub multi_output : List (List ℕ × List ℕ)
multi_output =
    -- loaded and written
    (numbers (session_of (load_of multi_output_bytes)), numbers multi_output_session)
    ∷ (bytes_of multi_output_session, multi_output_bytes)
    -- with neither output nor gate behind it, the ODC and H of gate 5 are all patterns
    ∷ (of_gate multi_output_net 2, 0x06 ∷ 0x0 ∷ 0x2 ∷ 0x2 ∷ 0b1010 ∷ 0b1110 ∷ [])
    ∷ (of_gate multi_output_net 3, 0x06 ∷ 0x0 ∷ 0x0 ∷ 0x0 ∷ 0 ∷ 0b0100 ∷ [])
    ∷ (of_gate multi_output_net 4, 0x1E ∷ 0x6 ∷ 0x6 ∷ 0x2 ∷ 0 ∷ 0b0100 ∷ [])
    ∷ (of_gate multi_output_net 5, 0x09 ∷ 0x0 ∷ 0x3 ∷ 0x3 ∷ 0b1111 ∷ 0b1111 ∷ [])
    -- the counts of no gate, of the first, and so on to all four, added
    ∷ (map (compatible_total multi_output_net) (0 ∷ 1 ∷ 2 ∷ 3 ∷ 4 ∷ []), 0 ∷ 3 ∷ 4 ∷ 5 ∷ 9 ∷ [])
    -- of the outputs that are harmed, the lowest is named
    ∷ (verdict_said multi_output_session [] (to 3 0), 14 ∷ 1 ∷ 3 ∷ [])
    ∷ (verdict_said multi_output_session [] (to 4 0), 14 ∷ 1 ∷ 1 ∷ [])
    ∷ (verdict_said multi_output_session [] (to 2 0), [])
    ∷ (verdict_said multi_output_session [] (to 5 2), [])
    ∷ (exchange_said multi_output_session [] (to 3 0), 13 ∷ 1 ∷ [])
    ∷ (exchange_said multi_output_session [] (to 2 0), [])
    ∷ (exchange_said multi_output_session [] (to 5 2), [])
    ∷ []
