-- The user's three demands of the calls for other languages, on any lent words and bytes. A call of crate `capi` leaves what its
-- definition in Boundary.antt says: `tusqirma_load` what `load_call` says, and so on. Assumes nothing.
use Rattle.std.specs.Prelude.{◌≡◌, ◌⊎◌, ◌↔◌, ◌≢◌, true, false, cond, List, [], ◌∷◌, ◌++◌, map, ℕ, suc, ◌+◌, ◌*◌, ◌/◌, ◌%◌, ◌^◌, ◌<◌, ◌≤◌, ltb, length, get_or, take, drop}
use Rattle.bits.specs.Range.{places}
use Rattle.bits.specs.Lists.{overwritten}
use Rattle.bits.specs.Bit.{bit}
use Rattle.std.specs.Prelude.{Result, Ok}
use Rattle.network.specs.Answer.{Answer, Done, answer_of}
use Rattle.network.specs.declared.Session.{Session}
use Rattle.network.specs.declared.Refusal.{Refusal}
use Rattle.network.specs.Net.{Net, arity, is_gate, gate as gate_of, patterns, excluded_for, output, Replacement}
use Rattle.network.specs.DontCares.{sdc, NeverGiven}
use Rattle.network.specs.Compatible.{compatible_count, compatible_total}
use Rattle.network.specs.Flat.{loaded_net, current_net}
use Rattle.network.specs.Refusals.{number_of, said}
use Rattle.network.specs.Tests.{member, first}
use Rattle.network.specs.State.{arity_of}
use Rattle.network.specs.Load.{session_of, load_of}
use Rattle.network.specs.Write.{bytes_of}
use Rattle.network.specs.Calls.{pairs, gate_tables, stored, room_test, set_words}
use Rattle.network.specs.Lists.{Sound, FirstFault}
use Rattle.network.specs.Sessions.{after, answer_by, NoHarm, FirstHarm, Demand3}
use Rattle.roundtrip.specs.OldFile.{old_load_of, old_bytes_of}
use Rattle.blif.specs.Read.{read_blif_of}
use Rattle.blif.specs.Write.{outgoing, blif_text, copies_test}
use Rattle.bliftrip.specs.Trip.{Survives}
use Rattle.demands.specs.Demands.{all_in_place, Changes}
use Rattle.render.specs.Listing.{listing_of}
use Rattle.packed.specs.Packed.{packed_of, session_words, session_in, words_test}
use Rattle.promises.specs.Boundary.{Left, table_words, all_table_words, read_call, load_call, read_blif_call, listing_call, tables_call, all_tables_call, pattern_sets_call, hidden_call, verdict_call, verdict_call_on, exchange_call, write_call, write_blif_call}

-- ## Demand 1: for every file, buffer, table and session state, a call ends in one of the listed outcomes, or in a numbered refusal
-- that changes neither state nor lent buffer

-- 0: `new` stands at the start of the buffer and `given` at the start of `out`, and there was room for both
abbrev pub Gives : Left → (new buffer given out : List ℕ) → Type 0
Gives l new buffer given out =
    (length new ≤ length buffer) × (length given ≤ length out) × (l ≡ record { number = 0; buffer = overwritten new buffer; out = overwritten given out })

-- one of the numbers, and all that is lent is as it was
abbrev pub Refuses : Left → (numbers buffer out : List ℕ) → Type 0
Refuses l numbers buffer out = (n : ℕ) × (member n numbers ≡ true) × (l ≡ record { number = n; buffer = buffer; out = out })

-- 13 or 14: what it names stands at the start of `out`, and there was room for it; all else is as it was
abbrev pub Names : Left → (n : ℕ) (values buffer out : List ℕ) → Type 0
Names l n values buffer out = (length values ≤ length out) × (l ≡ record { number = n; buffer = buffer; out = overwritten values out })

-- it gives, or refuses by one of the numbers
abbrev pub Ends : Left → (new buffer given out numbers : List ℕ) → Type 0
Ends l new buffer given out numbers = Gives l new buffer given out ⊎ Refuses l numbers buffer out

pub record Demand1Calls : Type 0 where
  -- a loaded network
  pub load : (file session : List ℕ)
      → Ends (load_call file session) (packed_of (session_of (load_of file))) session [] [] (1 ∷ 2 ∷ 3 ∷ 4 ∷ 5 ∷ 6 ∷ 7 ∷ 8 ∷ 9 ∷ [])
  -- of a BLIF text too
  pub read_blif : (text session : List ℕ)
      → Ends (read_blif_call text session) (packed_of (session_of (read_blif_of text))) session [] [] (3 ∷ 17 ∷ 18 ∷ 9 ∷ [])
  -- a listing, with its length
  pub listing : (file text out : List ℕ) → Ends (listing_call file text out) (listing_of file) text (length (listing_of file) ∷ []) out (9 ∷ [])
  -- the tables of a gate, and of all gates
  pub tables : (ws : List ℕ) (gate : ℕ) (out : List ℕ)
      → Ends (tables_call ws gate out) [] [] (table_words (gate_tables (session_in ws) gate)) out (9 ∷ 10 ∷ 11 ∷ [])
  pub all_tables : (ws out : List ℕ) → Ends (all_tables_call ws out) [] [] (all_table_words (session_in ws) (session_in ws).m) out (9 ∷ 10 ∷ [])
  -- filled pattern words
  pub pattern_sets : (ws words : List ℕ) → Ends (pattern_sets_call ws words) (set_words (session_in ws) (session_in ws).m) words [] [] (9 ∷ 10 ∷ [])
  -- the number of patterns in H of each gate
  pub hidden : (ws out : List ℕ)
      → Ends (hidden_call ws out) [] [] (places (session_in ws).m (λ g. compatible_count (loaded_net (session_in ws)) ((session_in ws).n + g))) out (9 ∷ 10 ∷ [])
  -- a written file, with its length
  pub write : (ws file out : List ℕ)
      → Ends (write_call ws file out) (bytes_of (session_in ws)) file (length (bytes_of (session_in ws)) ∷ []) out (9 ∷ 10 ∷ [])
  -- a written BLIF text, with its length
  pub write_blif : (ws text out : List ℕ)
      → Ends (write_blif_call ws text out) (blif_text (session_in ws)) text (length (blif_text (session_in ws)) ∷ []) out (3 ∷ 9 ∷ 10 ∷ [])
  -- a verdict: harmless, or else 14 names pattern and output
  pub verdict : (ws gates tables out : List ℕ) → let l = verdict_call ws gates tables out in
      Gives l [] [] [] out ⊎ (Refuses l (9 ∷ 10 ∷ 11 ∷ 12 ∷ 15 ∷ 16 ∷ []) [] out ⊎ ((x : ℕ) × (i : ℕ) × Names l 14 (x ∷ i ∷ []) [] out))
  -- an exchanged gate; 13 names the entry
  pub exchange : (ws : List ℕ) (r : Replacement) (out : List ℕ) → let l = exchange_call ws r out in
      Gives l (packed_of (stored (session_in ws) r)) ws [] out ⊎ (Refuses l (9 ∷ 10 ∷ 11 ∷ 12 ∷ []) ws out ⊎ ((t : ℕ) × Names l 13 (t ∷ []) ws out))

-- ## Demand 2: the tables are 01's, a list of replacements is judged exactly, and a network written and read again is the same

-- each fits a word
abbrev pub Words : List ℕ → Type 0
Words ws = (i : ℕ) → get_or ws i 0 < 2 ^ 64

-- 9 and 10 do not refuse the words, nor 11, 16 and 12 the pairs
abbrev pub Asks : List ℕ → List Replacement → Type 0
Asks ws rs = (words_test ws ≡ Done) × Sound (loaded_net (session_in ws)) [] rs

pub record Demand2Calls : Type 0 where
  -- wherever it can, a call gives what 01 defines
  pub load : (file session : List ℕ) → answer_of (load_of file) ≡ Done → session_words ≤ length session
      → Gives (load_call file session) (packed_of (session_of (load_of file))) session [] []
  pub read_blif : (text session : List ℕ) → answer_of (read_blif_of text) ≡ Done → session_words ≤ length session
      → Gives (read_blif_call text session) (packed_of (session_of (read_blif_of text))) session [] []
  pub listing : (file text out : List ℕ) → 1 ≤ length out → length (listing_of file) ≤ length text
      → Gives (listing_call file text out) (listing_of file) text (length (listing_of file) ∷ []) out
  pub tables : (ws : List ℕ) (gate : ℕ) (out : List ℕ) → words_test ws ≡ Done → is_gate (loaded_net (session_in ws)) gate ≡ true → 5 ≤ length out
      → Gives (tables_call ws gate out) [] [] (table_words (gate_tables (session_in ws) gate)) out
  pub all_tables : (ws out : List ℕ) → words_test ws ≡ Done → 5 * (session_in ws).m ≤ length out
      → Gives (all_tables_call ws out) [] [] (all_table_words (session_in ws) (session_in ws).m) out
  pub pattern_sets : (ws words : List ℕ) → words_test ws ≡ Done → length (set_words (session_in ws) (session_in ws).m) ≤ length words
      → Gives (pattern_sets_call ws words) (set_words (session_in ws) (session_in ws).m) words [] []
  pub hidden : (ws out : List ℕ) → words_test ws ≡ Done → (session_in ws).m ≤ length out
      → Gives (hidden_call ws out) [] [] (places (session_in ws).m (λ g. compatible_count (loaded_net (session_in ws)) ((session_in ws).n + g))) out
  -- request Three: sixteen bits hold each of these words, and the counts of all gates together
  pub counts_fit : (ws out : List ℕ) → words_test ws ≡ Done → (session_in ws).m ≤ length out
      → ((g : ℕ) → g < (session_in ws).m → get_or (hidden_call ws out).out g 0 ≤ 1024) × (compatible_total (loaded_net (session_in ws)) (session_in ws).m ≤ 40960)
  pub write : (ws file out : List ℕ) → words_test ws ≡ Done → 1 ≤ length out → length (bytes_of (session_in ws)) ≤ length file
      → Gives (write_call ws file out) (bytes_of (session_in ws)) file (length (bytes_of (session_in ws)) ∷ []) out
  pub write_blif : (ws text out : List ℕ) → words_test ws ≡ Done → copies_test (session_in ws) ≡ Done → 1 ≤ length out → length (blif_text (session_in ws)) ≤ length text
      → Gives (write_blif_call ws text out) (blif_text (session_in ws)) text (length (blif_text (session_in ws)) ∷ []) out
  -- request Five, of the words that a call gave: entry e of the SDC is bit e % 64 of word e / 64
  pub sdc_entries : (ws : List ℕ) (gate e : ℕ) (out : List ℕ) → words_test ws ≡ Done → is_gate (loaded_net (session_in ws)) gate ≡ true → 5 ≤ length out
      → e < 2 ^ suc (arity (gate_of (current_net (session_in ws)) gate))
      → bit (get_or (tables_call ws gate out).out (e / 64) 0) (e % 64) ≡ bit (sdc (current_net (session_in ws)) gate) e
  -- request Two, of the words that a call gave: an entry is in the CDC exactly when no pattern outside E gives it
  pub cdc_exact : (ws : List ℕ) (gate : ℕ) (out : List ℕ) → let l = tables_call ws gate out in
      l.number ≡ 0 → NeverGiven (current_net (session_in ws)) gate (get_or l.out 2 0)
  -- and each of these is in the full table
  pub cdc_full : (ws : List ℕ) (gate t : ℕ) (out : List ℕ) → let l = tables_call ws gate out in
      l.number ≡ 0 → bit (get_or l.out 2 0) t ≡ true → bit (get_or l.out 3 0) t ≡ true
  -- harm is found exactly when some pattern that is not excluded changes an output with all of the list in place
  pub harmful : (ws : List ℕ) (rs : List Replacement) (out : List ℕ) → Asks ws rs → 2 ≤ length out
      → ((verdict_call_on ws rs out).number ≡ 14) ↔ ((x : ℕ) × (i : ℕ) × Changes (session_in ws) rs x i)
  -- of these patterns the quickest to set and, there, the lowest output are shown
  pub shown : (ws : List ℕ) (rs : List Replacement) (out : List ℕ) (x i : ℕ) → Asks ws rs → 2 ≤ length out
      → (verdict_call_on ws rs out ≡ record { number = 14; buffer = []; out = overwritten (x ∷ i ∷ []) out })
      ↔ FirstHarm (loaded_net (session_in ws)) (all_in_place (session_in ws) rs) x i
  -- and else it is found harmless
  pub harmless : (ws : List ℕ) (rs : List Replacement) (out : List ℕ) → Asks ws rs → 2 ≤ length out
      → (verdict_call_on ws rs out ≡ record { number = 0; buffer = []; out = out })
      ↔ NoHarm (loaded_net (session_in ws)) (all_in_place (session_in ws) rs) (patterns (loaded_net (session_in ws)))
  -- of a list with a pair at fault the first such pair decides
  pub faulted : (ws : List ℕ) (rs : List Replacement) (f : Refusal) (out : List ℕ) → words_test ws ≡ Done → 2 ≤ length out
      → FirstFault (loaded_net (session_in ws)) rs f → verdict_call_on ws rs out ≡ record { number = number_of f; buffer = []; out = out }
  -- two lists of one length are a list of pairs, and others are refused by 15
  pub listed : (ws gates tables out : List ℕ) → length gates ≡ length tables
      → verdict_call ws gates tables out ≡ verdict_call_on ws (pairs gates tables) out
  pub unequal : (ws gates tables out : List ℕ) → (length gates ≡ length tables → ⊥) → words_test ws ≡ Done → 2 ≤ length out
      → verdict_call ws gates tables out ≡ record { number = 15; buffer = []; out = out }
  -- a network written and read again is the same network
  pub round_trip : (ws file out session : List ℕ) → Words ws → (write_call ws file out).number ≡ 0 → session_words ≤ length session
      → let w = write_call ws file out in
      let l = load_call (take (get_or w.out 0 0) w.buffer) session in
      (l.number ≡ 0) × (loaded_net (session_in l.buffer) ≡ current_net (session_in ws)) × (current_net (session_in l.buffer) ≡ current_net (session_in ws))
  -- request Five: a file that the old reader answers with anything but 2 gets that answer, and the words of the same session
  pub old_files : (file session : List ℕ) → (said (old_load_of file) ≡ 2 ∷ [] → ⊥) → load_call file session ≡ read_call (old_load_of file) session
  -- a network of gates with up to four fan-ins is written with the bytes that the old writer gave
  pub old_written : (ws file out : List ℕ) → let s = session_in ws in
      words_test ws ≡ Done → ((g : ℕ) → g < s.m → arity_of s g ≤ 4) → 1 ≤ length out → length (old_bytes_of s) ≤ length file
      → Gives (write_call ws file out) (old_bytes_of s) file (length (old_bytes_of s) ∷ []) out
  -- request Four: as BLIF text it is the network that went out, which has every gate and the value of every output; and the same text once more
  pub blif_trip : (ws text out session : List ℕ) → (write_blif_call ws text out).number ≡ 0 → session_words ≤ length session
      → let w = write_blif_call ws text out in
      let l = read_blif_call (take (get_or w.out 0 0) w.buffer) session in
      let sent = outgoing (current_net (session_in ws)) in
      (l.number ≡ 0) × (loaded_net (session_in l.buffer) ≡ sent) × (current_net (session_in l.buffer) ≡ sent) × Survives (current_net (session_in ws)) sent
      × (blif_text (session_in l.buffer) ≡ blif_text (session_in ws))

-- ## Demand 3: of every list of exchange calls, refused ones included, each on the words that the one before left

-- an exchange call: what is asked, and the words lent as `out`
pub record Asked : Type 0 where
  pub exchange : Replacement
  pub out : List ℕ

-- the words after the calls
abbrev pub words_after : List ℕ → List Asked → List ℕ
words_after ws [] = ws
words_after ws (a ∷ list) = words_after (exchange_call ws a.exchange a.out).buffer list

-- number and `out` of each
abbrev pub heard : List ℕ → List Asked → List (ℕ × List ℕ)
heard ws [] = []
heard ws (a ∷ list) = let l = exchange_call ws a.exchange a.out in (l.number, l.out) ∷ heard l.buffer list

-- 9 where `out` has no word, else what the loaded network alone says
abbrev pub asked_answer : Net → Asked → Answer
asked_answer N a = first (room_test 1 a.out ∷ answer_by N a.exchange ∷ [])

-- 01's number, 0 where nothing is refused; what the refusal names stands at the start of `out`
abbrev pub asked_left : Net → Asked → ℕ × List ℕ
asked_left N a = (get_or (said (asked_answer N a)) 0 0, overwritten (drop 1 (said (asked_answer N a))) a.out)

-- the exchanges that 9 did not refuse
abbrev pub roomy : List Asked → List Replacement
roomy [] = []
roomy (a ∷ list) = cond (ltb (length a.out) 1) [] (a.exchange ∷ []) ++ roomy list

-- the words hold s, and no call refuses them with 10, or with 9 for their number
pub record Holds (ws : List ℕ) (s : Session) : Type 0 where
  pub session : session_in ws ≡ s
  pub passes : words_test ws ≡ Done

pub record Demand3Calls (ws : List ℕ) (s : Session) (list : List Asked) : Type 0 where
  -- the loaded network, the gate's number, the new table and the room for a named entry alone fix what a call leaves
  pub answered : heard ws list ≡ map (asked_left (loaded_net s)) list
  -- the words are those of the session after the exchanges; the words behind a session stay
  pub words : words_after ws list ≡ overwritten (packed_of (after s (roomy list))) ws
  pub long : length (words_after ws list) ≡ length ws
  -- no call refuses them with 10
  pub holds : Holds (words_after ws list) (after s (roomy list))
  -- every output on every pattern not excluded stays that of the loaded network
  pub outputs : (x i : ℕ) → x < patterns (loaded_net s) → i < s.p → excluded_for (loaded_net s) i x ≡ false
      → output (current_net (session_in (words_after ws list))) x i ≡ output (loaded_net s) x i
  -- neighbours at different gates swap
  pub swap : (before behind : List Asked) (a b : Asked) → list ≡ before ++ a ∷ b ∷ behind → a.exchange.signal ≢ b.exchange.signal
      → words_after ws (before ++ b ∷ a ∷ behind) ≡ words_after ws list

-- the words that a call left hold the session that it read, and the demand holds of them
abbrev pub Demand3From : Result Session Refusal → Left → List Asked → Type 0
Demand3From l c list = let s = session_of l in (l ≡ Ok s) × Holds c.buffer s × Demand3 s (roomy list) × Demand3Calls c.buffer s list

-- of every file that loads and every BLIF text that reads, into every buffer
pub record Demand3OfCalls : Type 0 where
  pub load : (file session : List ℕ) (list : List Asked) → (load_call file session).number ≡ 0 → Demand3From (load_of file) (load_call file session) list
  pub read_blif : (text session : List ℕ) (list : List Asked) → (read_blif_call text session).number ≡ 0 → Demand3From (read_blif_of text) (read_blif_call text session) list
