-- The text of a network in flat arrays, cut into the pieces that the functions lay. Assumes nothing.
use Rattle.std.specs.Prelude.{cond, [], ◌∷◌, ◌++◌, ℕ, zero, suc, ◌+◌, ◌*◌, ◌^◌, get_or}
use Rattle.bits.specs.Bounds.{most_inputs}
use Rattle.bits.specs.Bit.{bit}
use Rattle.network.specs.declared.Session.{Session}
use Rattle.network.specs.Bounds.{most_outputs, most_fanins, most_entries}
use Rattle.network.specs.State.{arity_of}
use Rattle.text.specs.Ascii.{ascii}
use Rattle.text.specs.Words.{Text}
use Rattle.blif.specs.Write.{name, marks}
use Rattle.blifcopies.specs.Ready.{fanin_at}

-- a signal's name behind another word
unfoldable pub name_bytes : ℕ → Text
name_bytes x = 0x20 ∷ name x

-- the names of f 0, f 1, .., f (c - 1)
abbrev pub names_bytes : ℕ → (ℕ → ℕ) → Text
names_bytes zero f = []
names_bytes (suc i) f = names_bytes i f ++ name_bytes (f i)

-- the line of entry t, of k fan-ins
unfoldable pub row_bytes : ℕ → ℕ → Text
row_bytes k t = marks k t ++ ascii " 1\n"

-- the same where the table has a one there, else nothing
unfoldable pub entry_bytes : (k table t : ℕ) → Text
entry_bytes k table t = cond (bit table t) (row_bytes k t) []

-- the lines of the first t entries
abbrev pub cover_bytes : (k table t : ℕ) → Text
cover_bytes k table zero = []
cover_bytes k table (suc t) = cover_bytes k table t ++ entry_bytes k table t

-- the line that opens the block of signal x with the fan-ins f 0, .., f (k - 1)
unfoldable pub opening_bytes : (k : ℕ) (f : ℕ → ℕ) (x : ℕ) → Text
opening_bytes k f x = ascii ".names" ++ names_bytes k f ++ name_bytes x ++ ascii "\n"

-- the block of signal x
unfoldable pub block_bytes : (k : ℕ) (f : ℕ → ℕ) (x table : ℕ) → Text
block_bytes k f x table = opening_bytes k f x ++ cover_bytes k table (2 ^ k)

-- of gate g
abbrev pub gate_bytes : Session → ℕ → Text
gate_bytes s g = block_bytes (arity_of s g) (fanin_at s g) (s.n + g) (get_or s.current g 0)

-- the blocks of the first g gates
abbrev pub blocks_bytes : Session → ℕ → Text
blocks_bytes s zero = []
blocks_bytes s (suc g) = blocks_bytes s g ++ gate_bytes s g

-- the lines before the blocks
unfoldable pub head_bytes : Session → Text
head_bytes s =
    ascii ".model s\n.inputs"
    ++ names_bytes s.n (λ i. i)
    ++ ascii "\n.outputs"
    ++ names_bytes s.p (λ i. get_or s.outputs i 0)
    ++ ascii "\n"

unfoldable pub text_bytes : Session → Text
text_bytes s = head_bytes s ++ blocks_bytes s s.m ++ ascii ".end\n"

-- ## How long a piece is at the most: of a name with the space before it, of a row, of all rows of a gate, of the lines before the blocks

abbrev pub most_name_bytes : ℕ
most_name_bytes = 4

abbrev pub most_row_bytes : ℕ
most_row_bytes = most_fanins + 3

abbrev pub most_cover_bytes : ℕ
most_cover_bytes = most_entries * most_row_bytes

abbrev pub most_head_bytes : ℕ
most_head_bytes = 9 + (8 + most_name_bytes * most_inputs) + (9 + most_name_bytes * most_outputs)
