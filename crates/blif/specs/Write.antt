-- The BLIF text of a session: request Four of 02. Assumes nothing.
use Rattle.std.specs.Prelude.{Bool, cond, ◌||◌, List, [], ◌∷◌, ◌++◌, map, ℕ, zero, suc, ◌+◌, ◌*◌, ◌^◌, ltb, length, get_or, take, replicate}
use Rattle.bits.specs.Bounds.{most_inputs}
use Rattle.bits.specs.Range.{num, places, up_from}
use Rattle.bits.specs.Bit.{bit}
use Rattle.network.specs.Answer.{Answer}
use Rattle.network.specs.declared.Session.{Session}
use Rattle.network.specs.Bounds.{most_gates, most_outputs, most_fanins, most_entries, excluded_words}
use Rattle.network.specs.Net.{Gate, Net, arity, gate}
use Rattle.network.specs.Flat.{current_net}
use Rattle.network.specs.Tests.{first, count_test, member}
use Rattle.network.specs.State.{state_test}
use Rattle.network.specs.Calls.{room_test, filled, Written, with_length}
use Rattle.text.specs.Ascii.{ascii}
use Rattle.text.specs.Numbers.{decimal}
use Rattle.text.specs.Words.{Text}
use Rattle.blif.specs.Text.{text}

-- s and the signal number
abbrev pub name : ℕ → Text
name x = 0x73 ∷ decimal x

-- ## Copying gates

abbrev pub signal_of : Net → ℕ → ℕ
signal_of N i = get_or N.outputs i 0

-- output i repeats an earlier one or is driven by an input
abbrev pub needs_copy : Net → ℕ → Bool
needs_copy N i = ltb (signal_of N i) N.inputs || member (signal_of N i) (take i N.outputs)

abbrev pub copy_of : ℕ → Gate
copy_of s = record { fanins = s ∷ []; table = 2 }

-- the copying gates of the first i outputs, in output order
abbrev pub copies : Net → ℕ → List Gate
copies N zero = []
copies N (suc i) = copies N i ++ cond (needs_copy N i) (copy_of (signal_of N i) ∷ []) []

-- the signal that output i has on the way out
abbrev pub out_signal : Net → ℕ → ℕ
out_signal N i = cond (needs_copy N i) (N.inputs + length (N.gates ++ copies N i)) (signal_of N i)

-- the network as it goes out: with the copies, and with nothing excluded
unfoldable pub outgoing : Net → Net
outgoing N = record {
  inputs = N.inputs;
  excluded = replicate excluded_words 0;
  gates = N.gates ++ copies N (length N.outputs);
  outputs = places (length N.outputs) (out_signal N);
}

-- ## Lines

-- fan-in 0 leftmost
abbrev pub marks : ℕ → ℕ → Text
marks k t = places k (λ r. 0x30 + num (bit t r))

-- a row for each one in the table, lowest entry first; of the first t entries
abbrev pub rows_in : Gate → ℕ → List (List Text)
rows_in g zero = []
rows_in g (suc t) = rows_in g t ++ cond (bit g.table t) ((marks (arity g) t ∷ ascii "1" ∷ []) ∷ []) []

abbrev pub block_lines : Gate → ℕ → List (List Text)
block_lines g s = (ascii ".names" ∷ map name g.fanins ++ name s ∷ []) ∷ rows_in g (2 ^ arity g)

-- the blocks of the first g gates, by signal
abbrev pub blocks_lines : Net → ℕ → List (List Text)
blocks_lines N zero = []
blocks_lines N (suc g) = blocks_lines N g ++ block_lines (gate N (N.inputs + g)) (N.inputs + g)

unfoldable pub lines_of : Net → List (List Text)
lines_of N =
    (ascii ".model" ∷ ascii "s" ∷ [])
    ∷ (ascii ".inputs" ∷ map name (up_from 0 N.inputs))
    ∷ (ascii ".outputs" ∷ map name N.outputs)
    ∷ blocks_lines N (length N.gates) ++ (ascii ".end" ∷ []) ∷ []

unfoldable pub blif_text : Session → Text
blif_text s = text (lines_of (outgoing (current_net s)))

-- ## The call: 10, then 3 with the copies counted, then 9

unfoldable pub copies_test : Session → Answer
copies_test s = count_test most_gates (length (outgoing (current_net s)).gates)

-- all that it leaves: its answer, with the length of the text, and every byte of the lent buffer
unfoldable pub write_blif_of : Session → List ℕ → Written
write_blif_of s buffer =
    with_length (length (blif_text s)) (filled (first (state_test s ∷ copies_test s ∷ room_test (length (blif_text s)) buffer ∷ [])) (blif_text s) buffer)

-- ## How long a text is at the most, counting a space and three bytes for each name

-- of a block: its `.names` line, and a row for each entry
abbrev pub most_block_bytes : ℕ
most_block_bytes = 7 + 4 * (most_fanins + 1) + most_entries * (most_fanins + 3)

-- `.model s`, `.inputs`, `.outputs`, the blocks, `.end`
abbrev pub most_blif_bytes : ℕ
most_blif_bytes = 9 + (8 + 4 * most_inputs) + (9 + 4 * most_outputs) + most_gates * most_block_bytes + 5
