-- The file as 01 alone has it, without request Five of 02: every gate has one to four fan-ins and the record `4E 47`, with a two-byte
-- table. What that reader answers for every list of bytes, and the bytes that that writer gives. Assumes nothing.
use Rattle.std.specs.Prelude.{cond, List, [], ◌∷◌, ◌++◌, ℕ, zero, suc, ◌+◌, ◌^◌, get_or, take, drop, Result}
use Rattle.bits.specs.Lists.{bytes_in}
use Rattle.network.specs.Answer.{Answer, onward}
use Rattle.network.specs.declared.Refusal.{Refusal}
use Rattle.network.specs.declared.Session.{Session}
use Rattle.network.specs.Tests.{first, length_test, mark_test, count_test, fanins_test, width_test}
use Rattle.network.specs.State.{arity_of, fanins_of}
use Rattle.network.specs.Load.{started, little_endian, read_outputs, fanins_in, after_fanins, with_gate, set_bytes, excluded_in, with_excluded, is_excluded, excluded_record, header_record, opening}
use Rattle.network.specs.Write.{header_bytes, excluded_bytes, outputs_bytes}

-- ## Read

abbrev pub old_table_in : List ℕ → ℕ
old_table_in rest = little_endian (take 2 (after_fanins rest))

-- mark, length up to k, k, the rest of the length, fan-ins, table
abbrev pub old_gate_tests : ℕ → List ℕ → List Answer
old_gate_tests limit rest =
    mark_test 0x4E47 rest
    ∷ length_test 3 rest
    ∷ count_test 4 (get_or rest 2 0)
    ∷ length_test (get_or rest 2 0 + 2) (drop 3 rest)
    ∷ fanins_test limit (fanins_in rest)
    ∷ width_test (2 ^ get_or rest 2 0) (old_table_in rest)
    ∷ []

-- c gates are due, the first of them number g; then the outputs
unfoldable pub old_read_gates : ℕ → ℕ → Session → List ℕ → Result Session Refusal
old_read_gates zero g t rest = read_outputs t.p 0 t rest
old_read_gates (suc c) g t rest =
    onward (first (old_gate_tests (t.n + g) rest))
    (old_read_gates c (g + 1) (with_gate t g (get_or rest 2 0) (fanins_in rest) (old_table_in rest)) (drop 2 (after_fanins rest)))

unfoldable pub old_read_body : Session → List ℕ → Result Session Refusal
old_read_body t rest =
    cond (is_excluded rest)
    (onward (excluded_record t.n rest) (old_read_gates t.m 0 (with_excluded t (excluded_in t.n rest)) (drop (set_bytes t.n) (drop 2 rest))))
    (old_read_gates t.m 0 t rest)

unfoldable pub old_read_of : List ℕ → Result Session Refusal
old_read_of bytes = onward (header_record bytes) (old_read_body (started (get_or bytes 2 0) (get_or bytes 3 0) (get_or bytes 4 0)) (drop 5 bytes))

unfoldable pub old_load_of : List ℕ → Result Session Refusal
old_load_of bytes = opening (old_read_of bytes)

-- ## Written

unfoldable pub old_gate_bytes : Session → ℕ → List ℕ
old_gate_bytes s g = 0x4E ∷ 0x47 ∷ arity_of s g ∷ fanins_of s g ++ bytes_in 2 (get_or s.current g 0)

abbrev pub old_gates_bytes : Session → ℕ → ℕ → List ℕ
old_gates_bytes s zero g = []
old_gates_bytes s (suc c) g = old_gate_bytes s g ++ old_gates_bytes s c (g + 1)

unfoldable pub old_bytes_of : Session → List ℕ
old_bytes_of s = header_bytes s ++ (excluded_bytes s ++ (old_gates_bytes s s.m 0 ++ outputs_bytes s s.p 0))
