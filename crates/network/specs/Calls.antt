-- Every call of 01 but load, as a function from all that it is given to all that it leaves: the answer, the session, each word or
-- byte of a lent buffer. Each call's tests stand in 01's order: 10 before all else, then 9, or 15, and of each gate 11, 16 and 12, then
-- 13 or 14. Assumes nothing.
use Rattle.std.specs.Prelude.{Bool, not, cond, ◌&&◌, List, [], ◌∷◌, ◌++◌, ℕ, zero, suc, ◌+◌, ◌-◌, ◌^◌, ◌/◌, ◌%◌, eqb, ltb, length, get_or, set}
use Rattle.std.specs.Prelude.{Option}
use Rattle.std.specs.Prelude.{Some, None}
use Rattle.bits.specs.Range.{smallest}
use Rattle.bits.specs.Bit.{bit, differs}
use Rattle.bits.specs.Lists.{overwritten}
use Rattle.network.specs.declared.Session.{Session}
use Rattle.network.specs.declared.Sdc.{Sdc}
use Rattle.network.specs.declared.Tables.{Tables}
use Rattle.std.specs.Prelude.{Result}
use Rattle.network.specs.declared.Tables.{Tables}
use Rattle.network.specs.declared.Refusal.{Refusal}
use Rattle.std.specs.Prelude.{Ok, Err}
use Rattle.std.specs.Prelude.{Result}
use Rattle.network.specs.declared.Refusal.{Refusal}
use Rattle.std.specs.Prelude.{Ok, Err}
use Rattle.network.specs.declared.Refusal.TheVariants.{BufferTooShort, NotAGate, TableTooWide, ClosedEntry, Harm, ListsUnequal, GateRepeated}
use Rattle.std.specs.Prelude.{Ok, Err}
use Rattle.network.specs.Answer.{Answer, Done, giving}
use Rattle.network.specs.Net.{Net, is_gate, gate, entries, pattern_order, Replacement, signals, new_tables, replaced}
use Rattle.network.specs.DontCares.{sdc, cdc, odc, full, harms}
use Rattle.network.specs.Compatible.{compatible, compatible_count, per_gate}
use Rattle.network.specs.Flat.{loaded_net, current_net, words_of}
use Rattle.network.specs.Tests.{refuse_if, or_else, first, is_done, member}
use Rattle.network.specs.State.{state_test}
use Rattle.network.specs.Write.{bytes_of}

-- ## The session user's refusals

-- 11: no gate has that signal number
unfoldable pub gate_test : Net → ℕ → Answer
gate_test N s = refuse_if (not (is_gate N s)) NotAGate

abbrev pub fits : Net → Replacement → Bool
fits N r = ltb r.table (2 ^ entries N r.signal)

-- 12: the table has a bit past 2^k
unfoldable pub table_test : Net → Replacement → Answer
table_test N r = refuse_if (not (fits N r)) TableTooWide

-- the new table differs from the one of N at entry t
unfoldable pub alters : Net → Replacement → ℕ → Bool
alters N r t = differs (bit (gate N r.signal).table t) (bit r.table t)

abbrev pub entry_found : Option ℕ → Answer
entry_found (Some t) = Err (ClosedEntry t)
entry_found None = Done

-- 13: alters an entry that is shut, naming the smallest; N is the loaded network
unfoldable pub closed_test : Net → (ℕ → Bool) → Replacement → Answer
closed_test N shut r = entry_found (smallest (entries N r.signal) (λ t. shut t && alters N r t))

abbrev pub output_found : ℕ → Option ℕ → Answer
output_found x (Some i) = Err (Harm x i)
output_found x None = Done

-- the first of the patterns xs at which some output i below p has h x i, and there the lowest such output
abbrev pub first_harm : (ℕ → ℕ → Bool) → ℕ → List ℕ → Answer
first_harm h p [] = Done
first_harm h p (x ∷ xs) = or_else (output_found x (smallest p (h x))) (first_harm h p xs)

-- 14: harm at the first of the patterns xs that has any, there at the lowest output
abbrev pub harm_in : Net → Net → List ℕ → Answer
harm_in L M xs = first_harm (harms L M) (length L.outputs) xs

unfoldable pub harm_test : Net → Net → Answer
harm_test L M = harm_in L M (pattern_order L)

-- ## Exchange: sets a gate's current table

abbrev pub with_current : Session → List ℕ → Session
with_current s ts = record {
  n = s.n;
  m = s.m;
  p = s.p;
  excluded = s.excluded;
  arity = s.arity;
  fanins = s.fanins;
  loaded = s.loaded;
  current = ts;
  open_tables = s.open_tables;
  outputs = s.outputs;
}

abbrev pub stored : Session → Replacement → Session
stored s r = with_current s (set s.current (r.signal - s.n) r.table)

-- the tests of the user's numbers and table, where N is the loaded network and shut tells the closed entries of the gate that is named
abbrev pub exchange_tests : Net → (ℕ → Bool) → Replacement → List Answer
exchange_tests N shut r = gate_test N r.signal ∷ table_test N r ∷ closed_test N shut r ∷ []

-- the closed entries that the session holds
abbrev pub held_closed : Session → ℕ → ℕ → Bool
held_closed s g t = not (bit (get_or s.open_tables (g - s.n) 0) t)

unfoldable pub exchange_answer : Session → Replacement → Answer
exchange_answer s r = first (state_test s ∷ exchange_tests (loaded_net s) (held_closed s r.signal) r)

-- a refused exchange gives no session: the caller's stays
abbrev pub exchanged : Answer → Session → Replacement → Result Session Refusal
exchanged a s r = giving a (stored s r)

unfoldable pub exchange_of : Session → Replacement → Result Session Refusal
exchange_of s r = exchanged (exchange_answer s r) s r

-- ## Verdict: of the current network with a list of gates replaced, against the loaded outputs; it changes nothing

-- 15: as many gates as tables
unfoldable pub lengths_test : (gates tables : List ℕ) → Answer
lengths_test gs ts = refuse_if (not (eqb (length gs) (length ts))) ListsUnequal

-- gate by gate with its table, as far as both lists go
abbrev pub pairs : (gates tables : List ℕ) → List Replacement
pairs [] ts = []
pairs (g ∷ gs) [] = []
pairs (g ∷ gs) (t ∷ ts) = record { signal = g; table = t } ∷ pairs gs ts

-- of one pair, where those before it name these gates: 11, then 16, then 12
unfoldable pub pair_test : Net → (named : List ℕ) → Replacement → Answer
pair_test N named r = first (gate_test N r.signal ∷ refuse_if (member r.signal named) GateRepeated ∷ table_test N r ∷ [])

-- the pairs in order
abbrev pub pairs_test : Net → (named : List ℕ) → List Replacement → Answer
pairs_test N named [] = Done
pairs_test N named (r ∷ rs) = or_else (pair_test N named r) (pairs_test N (r.signal ∷ named) rs)

-- how many pairs stand before the first that is refused
abbrev pub refused_at : Net → (named : List ℕ) → List Replacement → ℕ
refused_at N named [] = 0
refused_at N named (r ∷ rs) = cond (is_done (pair_test N named r)) (suc (refused_at N (r.signal ∷ named) rs)) 0

unfoldable pub verdict_of : Session → (gates tables : List ℕ) → Answer
verdict_of s gs ts =
    first (
    state_test s
    ∷ lengths_test gs ts
    ∷ pairs_test (loaded_net s) [] (pairs gs ts)
    ∷ harm_test (loaded_net s) (replaced (current_net s) (pairs gs ts))
    ∷ []
    )

-- the same of a list of pairs
abbrev pub verdict_on : Session → List Replacement → Answer
verdict_on s rs = verdict_of s (signals rs) (new_tables rs)

-- ## Tables of a gate. The open table is the one that the session holds

-- the SDC has up to 128 entries: two words, lower entries first
abbrev pub sdc_words : ℕ → Sdc
sdc_words x = record { low = x % 2 ^ 64; high = x / 2 ^ 64 }

abbrev pub gate_tables : Session → ℕ → Tables
gate_tables s g = record {
  sdc = sdc_words (sdc (current_net s) g);
  cdc = cdc (current_net s) g;
  full = full (current_net s) g;
  open_table = get_or s.open_tables (g - s.n) 0;
}

unfoldable pub tables_of : Session → ℕ → Result Tables Refusal
tables_of s g = giving (first (state_test s ∷ gate_test (loaded_net s) g ∷ [])) (gate_tables s g)

-- ## Calls that fill a lent buffer

-- what a call leaves: its answer, and every place of the buffer
pub record Filled : Type 0 where
  pub answer : Answer
  pub buffer : List ℕ

-- 9: shorter than the words or bytes needed
abbrev pub room_test : ℕ → List ℕ → Answer
room_test needed buffer = refuse_if (ltb (length buffer) needed) BufferTooShort

-- the new words or bytes from the start, the rest stays
abbrev pub filled : Answer → List ℕ → List ℕ → Filled
filled (Ok _) new buffer = record { answer = Done; buffer = overwritten new buffer }
filled (Err r) new buffer = record { answer = Err r; buffer = buffer }

-- ODC first, then H, gate after gate; the first g gates
abbrev pub set_words : Session → ℕ → List ℕ
set_words s zero = []
set_words s (suc g) = set_words s g ++ (words_of s.n (odc (current_net s) (s.n + g)) ++ words_of s.n (compatible (loaded_net s) (s.n + g)))

-- pattern sets: the ODC and H of all gates, into words of 64 patterns
unfoldable pub pattern_sets_of : Session → List ℕ → Filled
pattern_sets_of s buffer =
    let words = set_words s s.m in
    filled (first (state_test s ∷ room_test (length words) buffer ∷ [])) words buffer

-- write: the file's bytes
unfoldable pub write_of : Session → List ℕ → Filled
write_of s buffer = filled (first (state_test s ∷ room_test (length (bytes_of s)) buffer ∷ [])) (bytes_of s) buffer

-- all that a call leaves that fills a buffer and tells how much
pub record Written : Type 0 where
  pub answer : Result ℕ Refusal
  pub buffer : List ℕ

-- with the length
abbrev pub with_length : ℕ → Filled → Written
with_length size f = record { answer = giving f.answer size; buffer = f.buffer }

unfoldable pub written_of : Session → List ℕ → Written
written_of s buffer = with_length (length (bytes_of s)) (write_of s buffer)

-- ## The number of patterns in H of each gate

abbrev pub pattern_counts : Session → List ℕ
pattern_counts s = per_gate s.m (λ g. compatible_count (loaded_net s) (s.n + g))

unfoldable pub counts_of : Session → Result (List ℕ) Refusal
counts_of s = giving (state_test s) (pattern_counts s)
