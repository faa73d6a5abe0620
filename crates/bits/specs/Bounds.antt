-- What the functions on words are made for. Assumes nothing.
use Rattle.std.specs.Prelude.{ℕ, ◌-◌, ◌^◌}

-- 01's bound of n: at most ten inputs
abbrev pub most_inputs : ℕ
most_inputs = 10

-- the words of a row, which is a set of patterns: 64 patterns in each
abbrev pub row_words : ℕ
row_words = 2 ^ (most_inputs - 6)

-- the places for a gate's fan-ins
abbrev pub gate_places : ℕ
gate_places = 6

-- the fan-ins of a small gate, one whose entries, or sets of fan-ins, are taken all at once, and the words for these, one each
abbrev pub small_fanins : ℕ
small_fanins = 4

abbrev pub small_words : ℕ
small_words = 2 ^ small_fanins
