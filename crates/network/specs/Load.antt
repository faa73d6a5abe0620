-- What load answers for every list of bytes: 01, 'The file' and refusals 1 to 8 in their order. Assumes nothing.
-- Records are read off the front of what is left; each has its list of tests, in 01's order.
use Rattle.std.specs.Prelude.{Bool, cond, ◌&&◌, List, [], ◌∷◌, ℕ, zero, suc, ◌+◌, ◌*◌, ◌^◌, ◌/◌, leb, ltb, eqb, length, get_or, take, drop, set, replicate}
use Rattle.std.proofs.lemmas.List.Edits.{sets}
use Rattle.bits.specs.Bounds.{most_inputs, gate_places}
use Rattle.network.specs.declared.Session.{Session}
use Rattle.network.specs.declared.Refusal.{Refusal}
use Rattle.network.specs.declared.Refusal.TheVariants.{TrailingBytes}
use Rattle.std.specs.Prelude.{Result, Ok, Err}
use Rattle.network.specs.Answer.{Answer, onward, given_or}
use Rattle.network.specs.Bounds.{most_gates, most_outputs, fanin_places, excluded_words}
use Rattle.network.specs.Compatible.{open_tables}
use Rattle.network.specs.Flat.{loaded_net}
use Rattle.network.specs.Tests.{refuse_if, first, length_test, mark, mark_test, count_test, range_test, fanins_test, width_test, excluded_test, output_test}

-- the session that holds nothing but the counts
abbrev pub started : ℕ → ℕ → ℕ → Session
started n m p = record {
  n = n;
  m = m;
  p = p;
  excluded = replicate excluded_words 0;
  arity = replicate most_gates 0;
  fanins = replicate fanin_places 0;
  loaded = replicate most_gates 0;
  current = replicate most_gates 0;
  open_tables = replicate most_gates 0;
  outputs = replicate most_outputs 0;
}

-- the session that a load gives; all zeros where it is refused
abbrev pub session_of : Result Session Refusal → Session
session_of l = given_or (started 0 0 0) l

-- bytes, the lowest first, as a number
abbrev pub little_endian : List ℕ → ℕ
little_endian [] = 0
little_endian (b ∷ bs) = b + 256 * little_endian bs

-- ## `4E 4F`: one signal

abbrev pub output_tests : ℕ → List ℕ → List Answer
output_tests signals rest = mark_test 0x4E4F rest ∷ length_test 3 rest ∷ output_test signals (get_or rest 2 0) ∷ []

unfoldable pub output_record : ℕ → List ℕ → Answer
output_record signals rest = first (output_tests signals rest)

abbrev pub with_output : Session → ℕ → ℕ → Session
with_output t i x = record {
  n = t.n;
  m = t.m;
  p = t.p;
  excluded = t.excluded;
  arity = t.arity;
  fanins = t.fanins;
  loaded = t.loaded;
  current = t.current;
  open_tables = t.open_tables;
  outputs = set t.outputs i x;
}

-- c outputs are due, the first of them number i; then nothing (8)
unfoldable pub read_outputs : ℕ → ℕ → Session → List ℕ → Result Session Refusal
read_outputs zero i t rest = onward (refuse_if (leb 1 (length rest)) TrailingBytes) (Ok t)
read_outputs (suc c) i t rest =
    onward (output_record (t.n + t.m) rest)
    (read_outputs c (i + 1) (with_output t i (get_or rest 2 0)) (drop 3 rest))

-- ## A gate: k, then k signals, then a table. `4E 47` has one to four signals and a two-byte table; `4E 48`, of request Five of 02, five or six
-- and an eight-byte table. Either is due at each gate

abbrev pub fanins_in : List ℕ → List ℕ
fanins_in rest = take (get_or rest 2 0) (drop 3 rest)

abbrev pub after_fanins : List ℕ → List ℕ
after_fanins rest = drop (get_or rest 2 0) (drop 3 rest)

-- a gate's record: its mark, the bounds of k, and how many bytes the table has
pub record GateForm : Type 0 where
  pub opening : ℕ
  pub least : ℕ
  pub most : ℕ
  pub bytes : ℕ

abbrev pub narrow : GateForm
narrow = record { opening = 0x4E47; least = 1; most = 4; bytes = 2 }

abbrev pub wide : GateForm
wide = record { opening = 0x4E48; least = 5; most = 6; bytes = 8 }

-- the form of the record that opens what is left: wide by its mark, else the narrow one is due
abbrev pub form_of : List ℕ → GateForm
form_of rest = cond (leb 2 (length rest) && eqb (mark rest) wide.opening) wide narrow

abbrev pub table_in : List ℕ → ℕ
table_in rest = little_endian (take (form_of rest).bytes (after_fanins rest))

-- k is read and tested before the rest of the record's length; then each fan-in, then the table
abbrev pub gate_tests : GateForm → ℕ → List ℕ → List Answer
gate_tests f limit rest =
    mark_test f.opening rest
    ∷ length_test 3 rest
    ∷ range_test f.least f.most (get_or rest 2 0)
    ∷ length_test (get_or rest 2 0 + f.bytes) (drop 3 rest)
    ∷ fanins_test limit (fanins_in rest)
    ∷ width_test (2 ^ get_or rest 2 0) (little_endian (take f.bytes (after_fanins rest)))
    ∷ []

unfoldable pub gate_record : ℕ → List ℕ → Answer
gate_record limit rest = first (gate_tests (form_of rest) limit rest)

abbrev pub with_gate : Session → ℕ → ℕ → List ℕ → ℕ → Session
with_gate t g k fs table = record {
  n = t.n;
  m = t.m;
  p = t.p;
  excluded = t.excluded;
  arity = set t.arity g k;
  fanins = sets t.fanins (gate_places * g) fs;
  loaded = set t.loaded g table;
  current = set t.current g table;
  open_tables = t.open_tables;
  outputs = t.outputs;
}

-- c gates are due, the first of them number g; then the outputs
unfoldable pub read_gates : ℕ → ℕ → Session → List ℕ → Result Session Refusal
read_gates zero g t rest = read_outputs t.p 0 t rest
read_gates (suc c) g t rest =
    onward (gate_record (t.n + g) rest)
    (read_gates c (g + 1) (with_gate t g (get_or rest 2 0) (fanins_in rest) (table_in rest)) (drop (form_of rest).bytes (after_fanins rest)))

-- ## `4E 58`: the excluded set, 2^n bits in 2^n/8 bytes, one byte where n is below 3. A one means the pattern never comes

abbrev pub set_bytes : ℕ → ℕ
set_bytes n = cond (ltb n 3) 1 (2 ^ n / 8)

-- c words of eight bytes; what is missing counts as 0
abbrev pub words_from : ℕ → List ℕ → List ℕ
words_from zero bs = []
words_from (suc c) bs = little_endian (take 8 bs) ∷ words_from c (drop 8 bs)

abbrev pub excluded_in : ℕ → List ℕ → List ℕ
excluded_in n rest = words_from excluded_words (take (set_bytes n) (drop 2 rest))

abbrev pub with_excluded : Session → List ℕ → Session
with_excluded t words = record {
  n = t.n;
  m = t.m;
  p = t.p;
  excluded = words;
  arity = t.arity;
  fanins = t.fanins;
  loaded = t.loaded;
  current = t.current;
  open_tables = t.open_tables;
  outputs = t.outputs;
}

abbrev pub is_excluded : List ℕ → Bool
is_excluded rest = leb 2 (length rest) && eqb (mark rest) 0x4E58

abbrev pub excluded_tests : ℕ → List ℕ → List Answer
excluded_tests n rest = length_test (set_bytes n) (drop 2 rest) ∷ excluded_test n (excluded_in n rest) ∷ []

unfoldable pub excluded_record : ℕ → List ℕ → Answer
excluded_record n rest = first (excluded_tests n rest)

-- the excluded set where its record stands, then the gates
unfoldable pub read_body : Session → List ℕ → Result Session Refusal
read_body t rest =
    cond (is_excluded rest)
    (onward (excluded_record t.n rest) (read_gates t.m 0 (with_excluded t (excluded_in t.n rest)) (drop (set_bytes t.n) (drop 2 rest))))
    (read_gates t.m 0 t rest)

-- ## `4E 49`: n, m, p

abbrev pub header_tests : List ℕ → List Answer
header_tests rest =
    mark_test 0x4E49 rest
    ∷ length_test 5 rest
    ∷ count_test most_inputs (get_or rest 2 0)
    ∷ count_test most_gates (get_or rest 3 0)
    ∷ count_test most_outputs (get_or rest 4 0)
    ∷ []

unfoldable pub header_record : List ℕ → Answer
header_record rest = first (header_tests rest)

-- the network of the file, with no open tables yet
unfoldable pub read_of : List ℕ → Result Session Refusal
read_of bytes = onward (header_record bytes) (read_body (started (get_or bytes 2 0) (get_or bytes 3 0) (get_or bytes 4 0)) (drop 5 bytes))

-- ## Load: the network, and the open tables of its gates, which stay for the session

abbrev pub with_open_tables : Session → List ℕ → Session
with_open_tables t ts = record {
  n = t.n;
  m = t.m;
  p = t.p;
  excluded = t.excluded;
  arity = t.arity;
  fanins = t.fanins;
  loaded = t.loaded;
  current = t.current;
  open_tables = ts;
  outputs = t.outputs;
}

abbrev pub opened : Session → Session
opened t = with_open_tables t (open_tables (loaded_net t))

abbrev pub opening : Result Session Refusal → Result Session Refusal
opening (Ok s) = Ok (opened s)
opening (Err r) = Err r

unfoldable pub load_of : List ℕ → Result Session Refusal
load_of bytes = opening (read_of bytes)
