-- Cases of the calls, each computed and held against what 01 says of the twin network, or of a refusal.
-- A case is a pair: what the definitions give, and what is stated. Assumes nothing.
use Rattle.std.specs.Prelude.{List, [], ◌∷◌, ◌++◌, map, ℕ, ◌+◌, ◌-◌, set, take, replicate}
use Rattle.text.specs.Ascii.{ascii}
use Rattle.network.specs.declared.Session.{Session}
use Rattle.network.specs.Bounds.{most_gates, most_outputs, fanin_places, excluded_words}
use Rattle.network.specs.Net.{Replacement, signals}
use Rattle.network.specs.Examples.{twin_bytes, twin_session, twin_net, zero_never_session}
use Rattle.render.specs.Listing.{most_listing_bytes}
use Rattle.packed.specs.Packed.{packed_of, arity_start, fanins_start, outputs_start, excluded_start, loaded_start, current_start, open_start, session_words, byte_words}
use Rattle.promises.specs.Boundary.{Left, load_call, read_blif_call, listing_call, tables_call, all_tables_call, pattern_sets_call, hidden_call, verdict_call, exchange_call, write_call, write_blif_call}
use Rattle.promises.specs.Promises.{Asked, words_after, heard, asked_left, roomy}

-- the twin network's session, with one word behind it
abbrev pub words : List ℕ
words = packed_of twin_session ++ 9 ∷ []

-- gate g set to table 0
abbrev pub cleared : ℕ → Replacement
cleared g = record { signal = g; table = 0 }

-- the same once gate 1 has table 0: its current table is the first
abbrev pub changed : List ℕ
changed = set words current_start 0

-- the number and every word of out; the number and every place of the buffer
abbrev pub given : Left → List ℕ
given l = l.number ∷ l.out

abbrev pub laid : Left → List ℕ
laid l = l.number ∷ l.buffer

-- an exchange call that clears gate g
abbrev pub asked : ℕ → List ℕ → Asked
asked g out = record { exchange = cleared g; out = out }

-- of three gates, the last with no word for `out`
abbrev pub list : List Asked
list = asked 1 (7 ∷ []) ∷ asked 2 (7 ∷ 7 ∷ []) ∷ asked 3 [] ∷ []

-- the number and every word of out of each call, one after the other
abbrev pub all_given : List (ℕ × List ℕ) → List ℕ
all_given [] = []
all_given (x ∷ xs) = x.0 ∷ x.1 ++ all_given xs

abbrev pub cases : List (List ℕ × List ℕ)
cases =
    -- the layout of a session's words, and the most bytes of a listing
    (arity_start ∷ fanins_start ∷ outputs_start ∷ excluded_start ∷ [], 3 ∷ 43 ∷ 283 ∷ 291 ∷ [])
    ∷ (loaded_start ∷ current_start ∷ open_start ∷ session_words ∷ [], 307 ∷ 347 ∷ 387 ∷ 427 ∷ [])
    ∷ (byte_words ∷ most_listing_bytes ∷ [], 291 ∷ 2482 ∷ [])
    -- the twin network's questions
    ∷ (given (tables_call words 1 (replicate 6 7)), 0 ∷ 6 ∷ 0 ∷ 0 ∷ 2 ∷ 2 ∷ 7 ∷ [])
    ∷ (given (all_tables_call words (replicate 16 7)), 0 ∷ 6 ∷ 0 ∷ 0 ∷ 2 ∷ 2 ∷ 6 ∷ 0 ∷ 0 ∷ 2 ∷ 0 ∷ 0x1E ∷ 0 ∷ 6 ∷ 6 ∷ 2 ∷ 7 ∷ [])
    ∷ (laid (pattern_sets_call words (replicate 7 7)), 0 ∷ 2 ∷ 2 ∷ 2 ∷ 0 ∷ 0 ∷ 0 ∷ 7 ∷ [])
    ∷ (given (hidden_call words (replicate 4 7)), 0 ∷ 1 ∷ 0 ∷ 0 ∷ 7 ∷ [])
    ∷ (laid (exchange_call words (cleared 1) (7 ∷ [])), 0 ∷ changed)
    ∷ (given (exchange_call words (cleared 2) (7 ∷ 7 ∷ [])), 13 ∷ 1 ∷ 7 ∷ [])
    ∷ (laid (exchange_call words (cleared 2) (7 ∷ 7 ∷ [])), 13 ∷ words)
    ∷ (given (verdict_call words (2 ∷ []) (0 ∷ []) (7 ∷ 7 ∷ [])), 0 ∷ 7 ∷ 7 ∷ [])
    ∷ (given (verdict_call changed (2 ∷ []) (0 ∷ []) (7 ∷ 7 ∷ [])), 14 ∷ 1 ∷ 0 ∷ [])
    ∷ (given (verdict_call words (1 ∷ 2 ∷ []) (0 ∷ 0 ∷ []) (7 ∷ 7 ∷ 7 ∷ [])), 14 ∷ 1 ∷ 0 ∷ 7 ∷ [])
    ∷ (given (verdict_call words [] [] (7 ∷ 7 ∷ [])), 0 ∷ 7 ∷ 7 ∷ [])
    ∷ (given (write_call words (replicate 28 7) (7 ∷ [])), 0 ∷ 27 ∷ [])
    ∷ (laid (write_call words (replicate 28 7) (7 ∷ [])), 0 ∷ twin_bytes ++ 7 ∷ [])
    -- request Two: CDC, full and open table are three sets where pattern 0 never comes
    ∷ (given (all_tables_call (packed_of zero_never_session) (replicate 11 7)), 0 ∷ 0x78 ∷ 0 ∷ 1 ∷ 5 ∷ 5 ∷ 0x78 ∷ 0 ∷ 2 ∷ 2 ∷ 0 ∷ 7 ∷ [])
    -- a loaded file, and the line of a refused one
    ∷ (laid (load_call twin_bytes (replicate (session_words + 1) 9)), 0 ∷ words)
    ∷ (given (listing_call (take 26 twin_bytes) (replicate 11 7) (7 ∷ 7 ∷ [])), 0 ∷ 10 ∷ 7 ∷ [])
    ∷ (laid (listing_call (take 26 twin_bytes) (replicate 11 7) (7 ∷ 7 ∷ [])), 0 ∷ ascii "refused 1\n" ++ 7 ∷ [])
    -- a refusal leaves what is lent: too short, no session, no room, no gate
    ∷ (given (exchange_call (take (session_words - 1) words) (cleared 1) []), 9 ∷ [])
    ∷ (given (exchange_call (replicate session_words 0) (cleared 1) []), 10 ∷ [])
    ∷ (given (exchange_call (set words (outputs_start - 1) 256) (cleared 1) (7 ∷ [])), 10 ∷ 7 ∷ [])
    ∷ (given (verdict_call words (1 ∷ []) [] (7 ∷ [])), 9 ∷ 7 ∷ [])
    -- lists of unequal length, behind the room; a gate named a second time
    ∷ (given (verdict_call words (0 ∷ []) [] (7 ∷ 7 ∷ [])), 15 ∷ 7 ∷ 7 ∷ [])
    ∷ (given (verdict_call words (1 ∷ 1 ∷ []) (0 ∷ 4 ∷ []) (7 ∷ 7 ∷ [])), 16 ∷ 7 ∷ 7 ∷ [])
    ∷ (given (tables_call words 4 (replicate 5 7)), 11 ∷ 7 ∷ 7 ∷ 7 ∷ 7 ∷ 7 ∷ [])
    -- four words are too few, whatever the gate has
    ∷ (given (tables_call words 1 (replicate 4 7)), 9 ∷ 7 ∷ 7 ∷ 7 ∷ 7 ∷ [])
    -- the file's refusals come before the session's room
    ∷ (laid (load_call (take 26 twin_bytes) (7 ∷ [])), 1 ∷ 7 ∷ [])
    ∷ (laid (load_call twin_bytes (7 ∷ [])), 9 ∷ 7 ∷ [])
    ∷ []

-- ## BLIF

-- the twin network as text
abbrev pub twin_text : List ℕ
twin_text = ascii ".model s\n.inputs s0\n.outputs s3\n.names s0 s1\n1 1\n.names s0 s2\n1 1\n.names s1 s2 s3\n10 1\n01 1\n11 1\n.end\n"

-- one input, m copies of it, and two outputs of the first copy
abbrev pub row : ℕ → Session
row m = record {
  n = 1;
  m = m;
  p = 2;
  excluded = replicate excluded_words 0;
  arity = replicate most_gates 1;
  fanins = replicate fanin_places 0;
  loaded = replicate most_gates 2;
  current = replicate most_gates 2;
  open_tables = replicate most_gates 0;
  outputs = replicate most_outputs 1;
}

abbrev pub blif : List (List ℕ × List ℕ)
blif =
    -- a text read gives the words that its file gives
    (laid (read_blif_call twin_text (replicate (session_words + 1) 9)), 0 ∷ words)
    -- its refusals come before the session's room
    ∷ (laid (read_blif_call (take 96 twin_text) (7 ∷ [])), 17 ∷ 7 ∷ [])
    ∷ (laid (read_blif_call twin_text (7 ∷ [])), 9 ∷ 7 ∷ [])
    -- the text of a session, and its length
    ∷ (given (write_blif_call words (replicate 103 7) (7 ∷ 7 ∷ [])), 0 ∷ 102 ∷ 7 ∷ [])
    ∷ (laid (write_blif_call words (replicate 103 7) (7 ∷ 7 ∷ [])), 0 ∷ twin_text ++ 7 ∷ [])
    -- a copy that makes forty-one gates is refused before `out` and the text are asked for
    ∷ (laid (write_blif_call (packed_of (row 39)) (7 ∷ []) []), 9 ∷ 7 ∷ [])
    ∷ (laid (write_blif_call (packed_of (row 40)) (7 ∷ []) []), 3 ∷ 7 ∷ [])
    -- 10 before it, and 9 for a session of too few words
    ∷ (given (write_blif_call (replicate session_words 0) [] (7 ∷ [])), 10 ∷ 7 ∷ [])
    ∷ (given (write_blif_call (take (session_words - 1) words) [] (7 ∷ [])), 9 ∷ 7 ∷ [])
    ∷ []

-- ## Exchange calls

-- one after the other: each on the words that the one before left, and all of them by the loaded network alone
abbrev pub in_turn : List (List ℕ × List ℕ)
in_turn =
    (all_given (heard words (asked 1 (7 ∷ []) ∷ [])), 0 ∷ 7 ∷ [])
    ∷ (words_after words (asked 1 (7 ∷ []) ∷ []), changed)
    ∷ (all_given (heard changed (asked 2 (7 ∷ 7 ∷ []) ∷ [])), 13 ∷ 1 ∷ 7 ∷ [])
    ∷ (words_after changed (asked 3 [] ∷ []), changed)
    ∷ (all_given (map (asked_left twin_net) list), 0 ∷ 7 ∷ 13 ∷ 1 ∷ 7 ∷ 9 ∷ [])
    ∷ (signals (roomy list), 1 ∷ 2 ∷ [])
    ∷ []
