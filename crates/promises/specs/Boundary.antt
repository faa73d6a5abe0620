-- The calls of the library for other languages, on lent words and bytes. Each is the engine's call on the session that the words hold:
-- it returns 01's number, or 0, and puts named values at the start of `out`. Assumes nothing.
use Rattle.std.specs.Prelude.{List, [], ◌∷◌, ◌++◌, ℕ, zero, suc, ◌+◌, ◌*◌, length}
use Rattle.bits.specs.Range.{places}
use Rattle.bits.specs.Lists.{overwritten}
use Rattle.std.specs.Prelude.{Result, Ok, Err}
use Rattle.network.specs.Answer.{Answer, answer_of}
use Rattle.network.specs.declared.Refusal.{Refusal}
use Rattle.network.specs.declared.Session.{Session}
use Rattle.network.specs.declared.Tables.{Tables}
use Rattle.network.specs.Net.{Replacement, signals, new_tables}
use Rattle.network.specs.Compatible.{compatible_count}
use Rattle.network.specs.Flat.{loaded_net}
use Rattle.network.specs.Refusals.{number_of, values_of}
use Rattle.network.specs.Tests.{first}
use Rattle.network.specs.Load.{session_of, load_of}
use Rattle.network.specs.Write.{bytes_of}
use Rattle.network.specs.Calls.{gate_test, exchange_answer, stored, verdict_of, gate_tables, room_test, filled, set_words, pattern_sets_of, write_of}
use Rattle.blif.specs.Read.{read_blif_of}
use Rattle.blif.specs.Write.{blif_text, copies_test}
use Rattle.render.specs.Listing.{listing_of, listing_into}
use Rattle.packed.specs.Packed.{packed_of, session_words, session_in, words_test}

-- ## What a call returns, and what it leaves in the words and bytes that it was lent

-- 01's number, or 0
abbrev pub number_for : Answer → ℕ
number_for (Ok _) = 0
number_for (Err r) = number_of r

-- what stands at the start of `out`: what the call gives, or what its refusal names
abbrev pub values_for : Answer → List ℕ → List ℕ
values_for (Ok _) given = given
values_for (Err r) given = values_of r

-- [] where no buffer or no `out` is lent
pub record Left : Type 0 where
  pub number : ℕ
  pub buffer : List ℕ
  pub out : List ℕ

-- of a call with this answer: `new` goes to the start of the buffer, or nothing where it is refused
abbrev pub left : Answer → (given new buffer out : List ℕ) → Left
left a given new buffer out = record {
  number = number_for a;
  buffer = (filled a new buffer).buffer;
  out = overwritten (values_for a given) out;
}

-- ## A file or a BLIF text

-- what was read: its refusals come before the session's room
abbrev pub read_answer : Result Session Refusal → (session : List ℕ) → Answer
read_answer l session = first (answer_of l ∷ room_test session_words session ∷ [])

abbrev pub read_call : Result Session Refusal → (session : List ℕ) → Left
read_call l session = left (read_answer l session) [] (packed_of (session_of l)) session []

unfoldable pub load_call : (file session : List ℕ) → Left
load_call file session = read_call (load_of file) session

unfoldable pub read_blif_call : (text session : List ℕ) → Left
read_blif_call text session = read_call (read_blif_of text) session

-- a refused file is listed too, as its line says; `out` gets the length
unfoldable pub listing_call : (file text out : List ℕ) → Left
listing_call file text out =
    left (first (room_test 1 out ∷ (listing_into file text).answer ∷ [])) (length (listing_of file) ∷ []) (listing_of file) text out

-- ## A session

-- what a call does with a session: the words that it needs in `out`, its own tests, what it gives in `out`, and what goes into the buffer
pub record Work : Type 0 where
  pub room : ℕ
  pub tests : List Answer
  pub given : List ℕ
  pub new : List ℕ

-- with the session that words hold: 9 where they are too few, 10 where they hold none that 01 takes, then 9 where `out` is too short
abbrev pub on_session : (Session → Work) → (session buffer out : List ℕ) → Left
on_session work session buffer out =
    let w = work (session_in session) in
    left (first (words_test session ∷ room_test w.room out ∷ w.tests)) w.given w.new buffer out

-- the two words of the SDC, CDC, full and open table of a gate
abbrev pub table_words : Tables → List ℕ
table_words t = t.sdc.low ∷ t.sdc.high ∷ t.cdc ∷ t.full ∷ t.open_table ∷ []

-- how many words these are
abbrev pub tables_room : ℕ
tables_room = 5

abbrev pub tables_work : ℕ → Session → Work
tables_work gate s = record { room = tables_room; tests = gate_test (loaded_net s) gate ∷ []; given = table_words (gate_tables s gate); new = [] }

unfoldable pub tables_call : (session : List ℕ) (gate : ℕ) (out : List ℕ) → Left
tables_call session gate out = on_session (tables_work gate) session [] out

-- of the first g gates
abbrev pub all_table_words : Session → ℕ → List ℕ
all_table_words s zero = []
all_table_words s (suc g) = all_table_words s g ++ table_words (gate_tables s (s.n + g))

abbrev pub all_tables_work : Session → Work
all_tables_work s = record { room = tables_room * s.m; tests = []; given = all_table_words s s.m; new = [] }

unfoldable pub all_tables_call : (session out : List ℕ) → Left
all_tables_call session out = on_session all_tables_work session [] out

-- the ODC and H of all gates
abbrev pub pattern_sets_work : List ℕ → Session → Work
pattern_sets_work words s = record { room = 0; tests = (pattern_sets_of s words).answer ∷ []; given = []; new = set_words s s.m }

unfoldable pub pattern_sets_call : (session words : List ℕ) → Left
pattern_sets_call session words = on_session (pattern_sets_work words) session words []

-- the number of patterns in H of each gate
abbrev pub hidden_work : Session → Work
hidden_work s = record { room = s.m; tests = []; given = places s.m (λ g. compatible_count (loaded_net s) (s.n + g)); new = [] }

unfoldable pub hidden_call : (session out : List ℕ) → Left
hidden_call session out = on_session hidden_work session [] out

-- 14 names pattern and output; 15 comes behind the room for them
abbrev pub verdict_work : (gates tables : List ℕ) → Session → Work
verdict_work gs ts s = record { room = 2; tests = verdict_of s gs ts ∷ []; given = []; new = [] }

unfoldable pub verdict_call : (session gates tables out : List ℕ) → Left
verdict_call session gs ts out = on_session (verdict_work gs ts) session [] out

-- the same of a list of pairs
abbrev pub verdict_call_on : (session : List ℕ) → List Replacement → (out : List ℕ) → Left
verdict_call_on session rs out = verdict_call session (signals rs) (new_tables rs) out

-- 13 names the entry
abbrev pub exchange_work : Replacement → Session → Work
exchange_work r s = record { room = 1; tests = exchange_answer s r ∷ []; given = []; new = packed_of (stored s r) }

unfoldable pub exchange_call : (session : List ℕ) (r : Replacement) (out : List ℕ) → Left
exchange_call session r out = on_session (exchange_work r) session session out

-- `out` gets the length
abbrev pub write_work : List ℕ → Session → Work
write_work file s = record { room = 1; tests = (write_of s file).answer ∷ []; given = length (bytes_of s) ∷ []; new = bytes_of s }

unfoldable pub write_call : (session file out : List ℕ) → Left
write_call session file out = on_session (write_work file) session file out

-- 3 comes before the room of `out`, which gets the length
abbrev pub write_blif_work : (text out : List ℕ) → Session → Work
write_blif_work text out s = record {
  room = 0;
  tests = copies_test s ∷ room_test 1 out ∷ room_test (length (blif_text s)) text ∷ [];
  given = length (blif_text s) ∷ [];
  new = blif_text s;
}

unfoldable pub write_blif_call : (session text out : List ℕ) → Left
write_blif_call session text out = on_session (write_blif_work text out) session text out
