-- The user's three demands, each as one type, over the definitions that the calls' contracts cite. Assumes nothing.
-- A call of crate `loading` or `engine` gives what its definition gives: load load_of, read_blif read_blif_of, load_counted counted_of; tables
-- tables_of, pattern_sets pattern_sets_of, exchange exchange_of, verdict verdict_of, write written_of, counts counts_of, write_blif write_blif_of.
use Rattle.std.specs.Prelude.{◌≡◌, ◌⊎◌, ◌↔◌, true, false, not, List, [], ◌∷◌, ℕ, suc, ◌+◌, ◌-◌, ◌/◌, ◌%◌, ◌^◌, ◌<◌, ◌≤◌, eqb, length, get_or}
use Rattle.bits.specs.Range.{any}
use Rattle.bits.specs.Bit.{bit, table_of}
use Rattle.bits.specs.Lists.{Bytes, overwritten}
use Rattle.std.specs.Prelude.{Ok, Err}
use Rattle.network.specs.Answer.{Done, given_or}
use Rattle.network.specs.declared.Session.{Session}
use Rattle.network.specs.declared.Refusal.{Refusal}
use Rattle.network.specs.Net.{Net, arity, is_gate, gate, entries, patterns, excluded, entry_of, Replacement, replaced}
use Rattle.network.specs.DontCares.{sdc, cdc, NeverGiven, full, harms}
use Rattle.network.specs.Compatible.{compatible_count, compatible_total, open_table}
use Rattle.network.specs.Flat.{loaded_net, current_net}
use Rattle.network.specs.Valid.{Shaped}
use Rattle.network.specs.Refusals.{number_of, said}
use Rattle.network.specs.Tests.{member}
use Rattle.network.specs.State.{state_test}
use Rattle.network.specs.Load.{session_of, read_of, opened, load_of}
use Rattle.network.specs.Write.{bytes_of}
use Rattle.network.specs.Calls.{stored, exchange_of, verdict_of, verdict_on, sdc_words, gate_tables, tables_of, set_words, pattern_sets_of, pattern_counts, counts_of, written_of}
use Rattle.network.specs.Lists.{Sound, PairExactOf, JudgedOf, FaultedOf, FewOf, ListedOf, UnequalOf, LoneOf}
use Rattle.network.specs.Sessions.{next, after, Demand3Of, NoHarm, FirstHarm, Rule4Of, InsideOf, TogetherOf}
use Rattle.network.specs.Sessions as sessions
use Rattle.roundtrip.specs.Kept.{OldRecord, OldFiles, OldBytes, OldWritten}
use Rattle.blif.specs.Read.{read_blif, read_blif_of}
use Rattle.blif.specs.Write.{blif_text, write_blif_of}
use Rattle.bliftrip.specs.Trip.{BlifTrip, BlifLength, BlifRoom, BlifCover, BlifWords, BlifFile, BlifFresh}

-- ## Demand 1: for every file, buffer, table and session state, a call ends in one of the listed outcomes, or in a numbered refusal
-- that changes neither state nor lent buffer

-- a refusal whose number is one of these
abbrev pub Numbered : List ℕ → Refusal → Type 0
Numbered ns r = member (number_of r) ns ≡ true

-- what a call leaves is `done`, or else `refused r` with a refusal r by one of the numbers
abbrev pub Ends : {A : Type 0} → A → (done : A) → List ℕ → (refused : Refusal → A) → Type 0
Ends left done ns refused = (left ≡ done) ⊎ ((r : Refusal) × Numbered ns r × (left ≡ refused r))

pub record Demand1 : Type 0 where
  -- a loaded network, its open tables with it; or no state
  pub load : (bytes : List ℕ) → Ends (load_of bytes) (Ok (opened (session_of (read_of bytes)))) (1 ∷ 2 ∷ 3 ∷ 4 ∷ 5 ∷ 6 ∷ 7 ∷ 8 ∷ []) Err
  -- a gate's tables
  pub tables : (s : Session) (g : ℕ) → Ends (tables_of s g) (Ok (gate_tables s g)) (10 ∷ 11 ∷ []) Err
  -- filled pattern words; a refusal leaves the buffer
  pub pattern_sets : (s : Session) (buffer : List ℕ)
      → Ends (pattern_sets_of s buffer) (record { answer = Done; buffer = overwritten (set_words s s.m) buffer }) (9 ∷ 10 ∷ [])
      (λ r. record { answer = Err r; buffer = buffer })
  -- an exchanged gate
  pub exchange : (s : Session) (r : Replacement)
      → Ends (exchange_of s r) (Ok (stored s r)) (10 ∷ 11 ∷ 12 ∷ 13 ∷ []) Err
  -- a refusal leaves the session
  pub exchange_stays : (s : Session) (r : Replacement) (f : Refusal) → exchange_of s r ≡ Err f → next s r ≡ s
  -- a verdict on two lists: harmless, or else 14 names the harm
  pub verdict : (s : Session) (gs ts : List ℕ) → Ends (verdict_of s gs ts) Done (10 ∷ 11 ∷ 12 ∷ 14 ∷ 15 ∷ 16 ∷ []) Err
  -- a written file, with its length; a refusal leaves the buffer
  pub write : (s : Session) (buffer : List ℕ)
      → Ends (written_of s buffer) (record { answer = Ok (length (bytes_of s)); buffer = overwritten (bytes_of s) buffer }) (9 ∷ 10 ∷ [])
      (λ r. record { answer = Err r; buffer = buffer })
  -- the number of patterns in H of each gate
  pub counts : (s : Session) → Ends (counts_of s) (Ok (pattern_counts s)) (10 ∷ []) Err
  -- request Four: the network of a BLIF text, its open tables with it; or no state
  pub read_blif : (text : List ℕ) → Ends (read_blif_of text) (Ok (opened (session_of (read_blif text)))) (3 ∷ 17 ∷ 18 ∷ []) Err
  -- a written text, with its length; a refusal leaves the buffer
  pub write_blif : (s : Session) (buffer : List ℕ)
      → Ends (write_blif_of s buffer) (record { answer = Ok (length (blif_text s)); buffer = overwritten (blif_text s) buffer }) (3 ∷ 9 ∷ 10 ∷ [])
      (λ r. record { answer = Err r; buffer = buffer })

-- ## Demand 2: the tables are 01's, a list of replacements is judged exactly, and a network written and read again is the same

-- the current network with all of them in place
abbrev pub all_in_place : Session → List Replacement → Net
all_in_place s rs = replaced (current_net s) rs

-- the pattern x, which is not excluded, changes output i
abbrev pub Changes : Session → List Replacement → ℕ → ℕ → Type 0
Changes s rs x i = (x < patterns (loaded_net s)) × (i < length (loaded_net s).outputs) × (harms (loaded_net s) (all_in_place s rs) x i ≡ true)

-- the state s, that 10 does not refuse, and a list of pairs that 11, 16 and 12 do not
abbrev pub Judged : Session → List Replacement → Type 0
Judged s rs = (state_test s ≡ Done) × Sound (loaded_net s) [] rs

-- what a session t that exchanges gave, from the session s of a load, has
pub record Reached (s t : Session) : Type 0 where
  pub valid : state_test t ≡ Done
  pub shaped : Shaped t
  pub loaded : loaded_net t ≡ loaded_net s
  -- the open tables that it holds are rule 7's
  pub opens : (g : ℕ) → is_gate (loaded_net s) g ≡ true → get_or t.open_tables (g - t.n) 0 ≡ open_table (loaded_net s) g

pub record Demand2 : Type 0 where
  -- the don't-care tables of each gate equal 01's definitions, and the open table is the one held
  pub tables : (s : Session) (g : ℕ) → state_test s ≡ Done → is_gate (loaded_net s) g ≡ true
      → tables_of s g
      ≡ Ok (record {
        sdc = sdc_words (sdc (current_net s) g);
        cdc = cdc (current_net s) g;
        full = full (current_net s) g;
        open_table = get_or s.open_tables (g - s.n) 0;
      })
  -- request Five: an SDC comes as two words, lower entries first: entry e is bit e % 64 of word e / 64
  pub sdc_entries : (N : Net) (g e : ℕ) → arity (gate N g) ≤ 6 → e < 2 ^ suc (arity (gate N g))
      → let w = sdc_words (sdc N g) in bit (get_or (w.low ∷ w.high ∷ []) (e / 64) 0) (e % 64) ≡ bit (sdc N g) e
  -- and up to five fan-ins need the first word alone
  pub sdc_one_word : (N : Net) (g : ℕ) → arity (gate N g) ≤ 5 → (sdc_words (sdc N g)).high ≡ 0
  -- so do the words of all gates' ODC and H, in every buffer that is long enough
  pub pattern_sets : (s : Session) (buffer : List ℕ) → state_test s ≡ Done → length (set_words s s.m) ≤ length buffer
      → pattern_sets_of s buffer ≡ record { answer = Done; buffer = overwritten (set_words s s.m) buffer }
  -- and the number of patterns in H of each gate
  pub counts : (s : Session) (g : ℕ) → state_test s ≡ Done → g < s.m → get_or (given_or [] (counts_of s)) g 0 ≡ compatible_count (loaded_net s) (s.n + g)
  -- request Three: sixteen bits hold the count of each gate, and of all gates together
  pub counts_fit : (s : Session) → state_test s ≡ Done
      → ((g : ℕ) → compatible_count (loaded_net s) g ≤ 1024) × (compatible_total (loaded_net s) s.m ≤ 40960)
  -- request Two, of every network: an entry is in the CDC exactly when no pattern outside E gives it
  pub cdc_exact : (N : Net) (g : ℕ) → NeverGiven N g (cdc N g)
  -- an entry of the CDC is one of the full table
  pub cdc_full : (N : Net) (g t : ℕ) → bit (cdc N g) t ≡ true → bit (full N g) t ≡ true
  -- where no pattern is excluded, the CDC is 01's: the entries that no pattern gives
  pub cdc_plain : (N : Net) (g : ℕ) → ((x : ℕ) → x < patterns N → excluded N x ≡ false)
      → cdc N g ≡ table_of (entries N g) (λ t. not (any (patterns N) (λ x. eqb (entry_of N g x) t)))
  -- harm is found exactly when some pattern that is not excluded changes an output with all of the list in place
  pub harmful : (s : Session) (rs : List Replacement) → Judged s rs
      → ((x : ℕ) × (i : ℕ) × (said (verdict_on s rs) ≡ 14 ∷ x ∷ i ∷ [])) ↔ ((x : ℕ) × (i : ℕ) × Changes s rs x i)
  -- the pattern and the output that are shown: of these patterns the quickest to set and, there, the lowest output
  pub shown : (s : Session) (rs : List Replacement) (x i : ℕ) → Judged s rs → (said (verdict_on s rs) ≡ 14 ∷ x ∷ i ∷ []) ↔ FirstHarm (loaded_net s) (all_in_place s rs) x i
  -- and else harmless
  pub harmless : (s : Session) (rs : List Replacement) → Judged s rs → (said (verdict_on s rs) ≡ []) ↔ NoHarm (loaded_net s) (all_in_place s rs) (patterns (loaded_net s))
  -- the lists that are judged, with no more pairs than gates; of the others the first pair at fault decides, with exactly its cause
  pub judged : JudgedOf
  pub few : FewOf
  pub faulted : FaultedOf
  pub pair_exact : PairExactOf
  -- nothing is lost by speaking of pairs: two lists of one length are such a list, and others are refused by 15
  pub listed : ListedOf
  pub unequal : UnequalOf
  -- the verdict on a list of one is the lone verdict of 01
  pub lone : LoneOf
  -- a network is written into every buffer that is long enough
  pub written : (s : Session) (buffer : List ℕ) → state_test s ≡ Done → length (bytes_of s) ≤ length buffer
      → written_of s buffer ≡ record { answer = Ok (length (bytes_of s)); buffer = overwritten (bytes_of s) buffer }
  -- and read again it is the same network
  pub round_trip : (s : Session) → Shaped s → state_test s ≡ Done
      → (t : Session) × (load_of (bytes_of s) ≡ Ok t) × (loaded_net t ≡ current_net s) × (current_net t ≡ current_net s)
  -- request Five: where no record `4E 48` opens what is left, a gate's tests are 01's; so old files load as before
  pub old_record : OldRecord
  pub old_files : OldFiles
  -- a gate of up to four fan-ins is written as before, and so is a network of such gates
  pub old_bytes : OldBytes
  pub old_written : OldWritten
  -- all this holds in every session that a load and exchanges give
  pub reached : (bytes : List ℕ) (s : Session) (rs : List Replacement) → Bytes bytes → load_of bytes ≡ Ok s → Reached s (after s rs)
  -- and there a lone replacement is harmless exactly when it alters only entries of the full table
  pub rule4 : Rule4Of
  -- of the loaded table too; and each open entry is one of the full table
  pub inside : InsideOf
  -- there a list of exchanges that would be accepted is harmless as one replacement, and so is every part of it, and nothing at all
  pub together : TogetherOf
  -- request Four: a network's text is written into every buffer that is long enough, and no text has more than most_blif_bytes
  pub blif_written : BlifRoom
  pub blif_length : BlifLength
  -- read again it is the network that went out, which has every gate, in its place, and the value of every output
  pub blif_trip : BlifTrip
  -- a cover means what its rows say, entry by entry
  pub blif_cover : BlifCover
  -- the session of a text is the one that its own file loads, which is made of bytes: so all that is said above of a load holds of it
  pub blif_loads : BlifWords
  pub blif_file : BlifFile
  -- nothing is excluded in it, and demand 3, rule 4, open inside full and the bridge of several gates hold of it
  pub blif_fresh : BlifFresh
  pub blif_reached : (text : List ℕ) (s : Session) (rs : List Replacement) → read_blif_of text ≡ Ok s → Reached s (after s rs)

-- ## Demand 3: of every list of exchanges, in every session fresh from a load or from a BLIF text

pub record Demand3 : Type 0 where
  pub load : Demand3Of
  pub read_blif : (text : List ℕ) (s : Session) (rs : List Replacement) → read_blif_of text ≡ Ok s → sessions.Demand3 s rs
