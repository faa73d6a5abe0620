-- The bounds of 01, 'The engine', and the sizes that follow from them. The bound of n and the words of a row, which is a set of
-- patterns, are in Bounds.antt of crate bits. Assumes nothing.
use Rattle.std.specs.Prelude.{ℕ, ◌+◌, ◌*◌, ◌/◌, ◌^◌}
use Rattle.bits.specs.Bounds.{most_inputs, row_words, gate_places}

-- ## The bounds of m, p and k

abbrev pub most_gates : ℕ
most_gates = 40

abbrev pub most_outputs : ℕ
most_outputs = 8

abbrev pub most_fanins : ℕ
most_fanins = 6

-- so many signals and, in one table, entries at the most
abbrev pub most_signals : ℕ
most_signals = most_inputs + most_gates

abbrev pub most_entries : ℕ
most_entries = 2 ^ most_fanins

-- ## Arrays

-- the places for the fan-ins of all gates
abbrev pub fanin_places : ℕ
fanin_places = most_gates * gate_places

-- the excluded words of a session
abbrev pub excluded_words : ℕ
excluded_words = row_words

-- a row for each signal, and for each gate
abbrev pub signal_words : ℕ
signal_words = most_signals * row_words

abbrev pub gate_words : ℕ
gate_words = most_gates * row_words

-- ## The file: the most bytes of a set of patterns, of a gate's record, and of all records

abbrev pub most_set_bytes : ℕ
most_set_bytes = 2 ^ most_inputs / 8

abbrev pub most_gate_bytes : ℕ
most_gate_bytes = most_fanins + 11

abbrev pub most_file_bytes : ℕ
most_file_bytes = 5 + (2 + most_set_bytes) + most_gates * most_gate_bytes + 3 * most_outputs
