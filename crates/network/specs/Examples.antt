-- Networks whose sets are computed as cases: 01's and document 004's, some as a file's bytes and the session that they load. Assumes nothing.
use Rattle.std.specs.Prelude.{List, [], ◌∷◌, ◌++◌, ℕ, ◌*◌, replicate}
use Rattle.std.proofs.lemmas.List.Edits.{sets}
use Rattle.bits.specs.Bounds.{gate_places}
use Rattle.network.specs.declared.Session.{Session}
use Rattle.network.specs.Bounds.{most_gates, most_outputs, fanin_places, excluded_words}
use Rattle.network.specs.Net.{Gate, Net}
use Rattle.network.specs.Flat.{loaded_net}

abbrev pub g : List ℕ → ℕ → Gate
g fs t = record { fanins = fs; table = t }

-- n inputs, one word of excluded patterns, the gates, the outputs
abbrev pub net : ℕ → ℕ → List Gate → List ℕ → Net
net n ex gs outs = record { inputs = n; excluded = ex ∷ []; gates = gs; outputs = outs }

-- 01's case of rule 6: y2·(y1 + y3) over three copied inputs
abbrev pub freeing : Net
freeing = net 3 0 (g (0 ∷ []) 0x2 ∷ g (1 ∷ []) 0x2 ∷ g (2 ∷ []) 0x2 ∷ g (3 ∷ 4 ∷ 5 ∷ []) 0xC8 ∷ []) (6 ∷ [])

-- X = ab, f = Xb + bY + XY over (X, b, Y), Y an input
abbrev pub tour_first : Net
tour_first = net 4 0 (g (0 ∷ 1 ∷ []) 0x8 ∷ g (4 ∷ 1 ∷ 2 ∷ []) 0xE8 ∷ []) (5 ∷ [])

-- X = ab, Y = b + c, f = Xb + bY + XY over (X, b, Y)
abbrev pub tour_second : Net
tour_second = net 3 0 (g (0 ∷ 1 ∷ []) 0x8 ∷ g (1 ∷ 2 ∷ []) 0xE ∷ g (3 ∷ 1 ∷ 4 ∷ []) 0xE8 ∷ []) (5 ∷ [])

-- document 004's tour: the same, and Z = f·X·d
abbrev pub tour : Net
tour = net 4 0 (g (0 ∷ 1 ∷ []) 0x8 ∷ g (1 ∷ 2 ∷ []) 0xE ∷ g (4 ∷ 1 ∷ 5 ∷ []) 0xE8 ∷ g (6 ∷ 4 ∷ 3 ∷ []) 0x80 ∷ []) (7 ∷ [])

-- X = ab + c
abbrev pub sum_of_products : Net
sum_of_products = net 3 0 (g (0 ∷ 1 ∷ 2 ∷ []) 0xF8 ∷ []) (3 ∷ [])

-- f over (a, X, Y), X = a + b, Y = ab
abbrev pub control_three : Net
control_three = net 2 0 (g (0 ∷ 1 ∷ []) 0xE ∷ g (0 ∷ 1 ∷ []) 0x8 ∷ g (0 ∷ 2 ∷ 3 ∷ []) 0x96 ∷ []) (4 ∷ [])

-- f over (a, c, X, Y), E = bc
abbrev pub control_four : Net
control_four = net 3 0xC0 (g (0 ∷ 1 ∷ []) 0xE ∷ g (0 ∷ 1 ∷ []) 0x8 ∷ g (0 ∷ 2 ∷ 3 ∷ 4 ∷ []) 0x6996 ∷ []) (5 ∷ [])

-- F = a xor b feeds a gate over (a, b, F, c): its ODC is ab + a'bc
abbrev pub observe : Net
observe = net 3 0 (g (0 ∷ 1 ∷ []) 0x6 ∷ g (0 ∷ 1 ∷ 3 ∷ 2 ∷ []) 0xB8F8 ∷ []) (4 ∷ [])

-- BCD segment a, the patterns 10 to 15 excluded
abbrev pub segment : Net
segment = net 4 0xFC00 (g (0 ∷ 1 ∷ 2 ∷ 3 ∷ []) 0x3ED ∷ []) (4 ∷ [])

-- three lines of which 111 never comes, and a gate with table t over them
abbrev pub three_lines : ℕ → Net
three_lines t = net 3 0x80 (g (0 ∷ 1 ∷ 2 ∷ []) t ∷ []) (3 ∷ [])

-- no pattern comes: gate 3 is the NOT of the AND
abbrev pub none_comes : Net
none_comes = net 2 0xF (g (0 ∷ 1 ∷ []) 0x8 ∷ g (2 ∷ []) 0x1 ∷ []) (3 ∷ [])

-- pattern 3 alone comes: gate 3 is the AND of the XOR and of input 0
abbrev pub last_comes : Net
last_comes = net 2 0x7 (g (0 ∷ 1 ∷ []) 0x6 ∷ g (2 ∷ 0 ∷ []) 0x8 ∷ []) (3 ∷ [])

-- the XOR of two copies of the input, and the OR of three
abbrev pub two_copies : Net
two_copies = net 1 0 (g (0 ∷ []) 0x2 ∷ g (0 ∷ []) 0x2 ∷ g (1 ∷ 2 ∷ []) 0x6 ∷ []) (3 ∷ [])

abbrev pub three_copies : Net
three_copies = net 1 0 (g (0 ∷ []) 0x2 ∷ g (0 ∷ []) 0x2 ∷ g (0 ∷ []) 0x2 ∷ g (1 ∷ 2 ∷ 3 ∷ []) 0xFE ∷ []) (4 ∷ [])

-- six copies of the input, and their OR
abbrev pub or_six : Net
or_six =
    net 1 0
    (g (0 ∷ []) 0x2 ∷ g (0 ∷ []) 0x2 ∷ g (0 ∷ []) 0x2 ∷ g (0 ∷ []) 0x2 ∷ g (0 ∷ []) 0x2 ∷ g (0 ∷ []) 0x2 ∷ g (1 ∷ 2 ∷ 3 ∷ 4 ∷ 5 ∷ 6 ∷ []) 0xFFFFFFFFFFFFFFFE ∷ [])
    (7 ∷ [])

-- document 004's external don't cares whole: f over (a, c, d, X, Y), X = a + b, Y = ab, E = bcd
abbrev pub control_five : Net
control_five = net 4 0xC000 (g (0 ∷ 1 ∷ []) 0xE ∷ g (0 ∷ 1 ∷ []) 0x8 ∷ g (0 ∷ 2 ∷ 3 ∷ 4 ∷ 5 ∷ []) 0x96696996 ∷ []) (6 ∷ [])

-- a gate with table t over six inputs, of which the patterns ex never come
abbrev pub six_inputs : ℕ → ℕ → Net
six_inputs ex t = net 6 ex (g (0 ∷ 1 ∷ 2 ∷ 3 ∷ 4 ∷ 5 ∷ []) t ∷ []) (6 ∷ [])

-- a selector over six copied inputs: the last two choose one of the first four
abbrev pub selector : Net
selector =
    net 6 0
    (g (0 ∷ []) 0x2 ∷ g (1 ∷ []) 0x2 ∷ g (2 ∷ []) 0x2 ∷ g (3 ∷ []) 0x2 ∷ g (4 ∷ []) 0x2 ∷ g (5 ∷ []) 0x2 ∷ g (6 ∷ 7 ∷ 8 ∷ 9 ∷ 10 ∷ 11 ∷ []) 0xFF00F0F0CCCCAAAA ∷ [])
    (12 ∷ [])

-- ## Files and sessions

abbrev pub twin_bytes : List ℕ
twin_bytes =
    0x4E ∷ 0x49 ∷ 0x01 ∷ 0x03 ∷ 0x01
    ∷ 0x4E ∷ 0x47 ∷ 0x01 ∷ 0x00 ∷ 0x02 ∷ 0x00
    ∷ 0x4E ∷ 0x47 ∷ 0x01 ∷ 0x00 ∷ 0x02 ∷ 0x00
    ∷ 0x4E ∷ 0x47 ∷ 0x02 ∷ 0x01 ∷ 0x02 ∷ 0x0E ∷ 0x00
    ∷ 0x4E ∷ 0x4F ∷ 0x03 ∷ []

-- the session with these counts, excluded words, arities, fan-ins, tables, open tables and outputs
abbrev pub held : ℕ → ℕ → ℕ → List ℕ → List ℕ → List ℕ → List ℕ → List ℕ → List ℕ → Session
held n m p exs ks fs ts os outs = record {
  n = n;
  m = m;
  p = p;
  excluded = sets (replicate excluded_words 0) 0 exs;
  arity = sets (replicate most_gates 0) 0 ks;
  fanins = sets (replicate fanin_places 0) 0 fs;
  loaded = sets (replicate most_gates 0) 0 ts;
  current = sets (replicate most_gates 0) 0 ts;
  open_tables = sets (replicate most_gates 0) 0 os;
  outputs = sets (replicate most_outputs 0) 0 outs;
}

abbrev pub twin_session : Session
twin_session = held 1 3 1 [] (1 ∷ 1 ∷ 2 ∷ []) (replicate (gate_places * 2) 0 ++ 1 ∷ 2 ∷ []) (0x2 ∷ 0x2 ∷ 0xE ∷ []) (0x2 ∷ 0x0 ∷ 0x2 ∷ []) (3 ∷ [])

abbrev pub twin_net : Net
twin_net = loaded_net twin_session

-- gate 1 is 0 whatever the input, gate 2 its inverse and the output; pattern 0 is excluded
abbrev pub chain_bytes : List ℕ
chain_bytes =
    0x4E ∷ 0x49 ∷ 0x01 ∷ 0x02 ∷ 0x01
    ∷ 0x4E ∷ 0x58 ∷ 0x01
    ∷ 0x4E ∷ 0x47 ∷ 0x01 ∷ 0x00 ∷ 0x00 ∷ 0x00
    ∷ 0x4E ∷ 0x47 ∷ 0x01 ∷ 0x01 ∷ 0x01 ∷ 0x00
    ∷ 0x4E ∷ 0x4F ∷ 0x02 ∷ []

abbrev pub chain_session : Session
chain_session = held 1 2 1 (1 ∷ []) (1 ∷ 1 ∷ []) (replicate gate_places 0 ++ 1 ∷ []) (0x0 ∷ 0x1 ∷ []) (0x1 ∷ 0x2 ∷ []) (2 ∷ [])

-- pattern 0 never comes: gate 2 is the AND of the inputs, gate 3 the AND of gate 2 and of input 0
abbrev pub zero_never_session : Session
zero_never_session = held 2 2 1 (1 ∷ []) (2 ∷ 2 ∷ []) (0 ∷ 1 ∷ 0 ∷ 0 ∷ 0 ∷ 0 ∷ 2 ∷ 0 ∷ []) (0x8 ∷ 0x8 ∷ []) (0x5 ∷ 0x0 ∷ []) (3 ∷ [])

abbrev pub zero_never : Net
zero_never = loaded_net zero_never_session

-- gate 7 is the AND of inputs 5 and 6; the patterns 96 to 127, at which it is 1, are excluded, and some of the others
abbrev pub two_words_bytes : List ℕ
two_words_bytes =
    0x4E ∷ 0x49 ∷ 0x07 ∷ 0x01 ∷ 0x01
    ∷ 0x4E ∷ 0x58 ∷ 0x01 ∷ 0x02 ∷ 0x04 ∷ 0x08 ∷ 0x10 ∷ 0x20 ∷ 0x40 ∷ 0x80 ∷ 0x01 ∷ 0x02 ∷ 0x04 ∷ 0x08 ∷ 0xFF ∷ 0xFF ∷ 0xFF ∷ 0xFF
    ∷ 0x4E ∷ 0x47 ∷ 0x02 ∷ 0x05 ∷ 0x06 ∷ 0x08 ∷ 0x00
    ∷ 0x4E ∷ 0x4F ∷ 0x07 ∷ []

abbrev pub two_words_session : Session
two_words_session = held 7 1 1 (0x8040201008040201 ∷ 0xFFFFFFFF08040201 ∷ []) (2 ∷ []) (5 ∷ 6 ∷ []) (0x8 ∷ []) (0x8 ∷ []) (7 ∷ [])

abbrev pub two_words_net : Net
two_words_net = loaded_net two_words_session

-- several outputs: one is an input, one is named twice, one feeds a gate too; gate 5 feeds nothing. Gates 2 and 3 copy input 0,
-- gate 4 is their OR, gate 5 inverts input 1; pattern 2 is excluded
abbrev pub multi_output_bytes : List ℕ
multi_output_bytes =
    0x4E ∷ 0x49 ∷ 0x02 ∷ 0x04 ∷ 0x04
    ∷ 0x4E ∷ 0x58 ∷ 0x04
    ∷ 0x4E ∷ 0x47 ∷ 0x01 ∷ 0x00 ∷ 0x02 ∷ 0x00
    ∷ 0x4E ∷ 0x47 ∷ 0x01 ∷ 0x00 ∷ 0x02 ∷ 0x00
    ∷ 0x4E ∷ 0x47 ∷ 0x02 ∷ 0x02 ∷ 0x03 ∷ 0x0E ∷ 0x00
    ∷ 0x4E ∷ 0x47 ∷ 0x01 ∷ 0x01 ∷ 0x01 ∷ 0x00
    ∷ 0x4E ∷ 0x4F ∷ 0x00 ∷ 0x4E ∷ 0x4F ∷ 0x04 ∷ 0x4E ∷ 0x4F ∷ 0x04 ∷ 0x4E ∷ 0x4F ∷ 0x03 ∷ []

abbrev pub multi_output_session : Session
multi_output_session =
    held 2 4 4 (4 ∷ []) (1 ∷ 1 ∷ 2 ∷ 1 ∷ []) (replicate (gate_places * 2) 0 ++ 2 ∷ 3 ∷ 0 ∷ 0 ∷ 0 ∷ 0 ∷ 1 ∷ []) (0x2 ∷ 0x2 ∷ 0xE ∷ 0x1 ∷ [])
    (0x2 ∷ 0x0 ∷ 0x2 ∷ 0x3 ∷ []) (0 ∷ 4 ∷ 4 ∷ 3 ∷ [])

abbrev pub multi_output_net : Net
multi_output_net = loaded_net multi_output_session

-- the network or_six
abbrev pub or_six_bytes : List ℕ
or_six_bytes =
    0x4E ∷ 0x49 ∷ 0x01 ∷ 0x07 ∷ 0x01
    ∷ 0x4E ∷ 0x47 ∷ 0x01 ∷ 0x00 ∷ 0x02 ∷ 0x00
    ∷ 0x4E ∷ 0x47 ∷ 0x01 ∷ 0x00 ∷ 0x02 ∷ 0x00
    ∷ 0x4E ∷ 0x47 ∷ 0x01 ∷ 0x00 ∷ 0x02 ∷ 0x00
    ∷ 0x4E ∷ 0x47 ∷ 0x01 ∷ 0x00 ∷ 0x02 ∷ 0x00
    ∷ 0x4E ∷ 0x47 ∷ 0x01 ∷ 0x00 ∷ 0x02 ∷ 0x00
    ∷ 0x4E ∷ 0x47 ∷ 0x01 ∷ 0x00 ∷ 0x02 ∷ 0x00
    ∷ 0x4E ∷ 0x48 ∷ 0x06 ∷ 0x01 ∷ 0x02 ∷ 0x03 ∷ 0x04 ∷ 0x05 ∷ 0x06 ∷ 0xFE ∷ 0xFF ∷ 0xFF ∷ 0xFF ∷ 0xFF ∷ 0xFF ∷ 0xFF ∷ 0xFF
    ∷ 0x4E ∷ 0x4F ∷ 0x07 ∷ []

abbrev pub or_six_session : Session
or_six_session =
    held 1 7 1 [] (1 ∷ 1 ∷ 1 ∷ 1 ∷ 1 ∷ 1 ∷ 6 ∷ []) (replicate (gate_places * 6) 0 ++ 1 ∷ 2 ∷ 3 ∷ 4 ∷ 5 ∷ 6 ∷ [])
    (0x2 ∷ 0x2 ∷ 0x2 ∷ 0x2 ∷ 0x2 ∷ 0x2 ∷ 0xFFFFFFFFFFFFFFFE ∷ []) (0x2 ∷ 0x2 ∷ 0x2 ∷ 0x2 ∷ 0x2 ∷ 0x0 ∷ 0x00000000FFFFFFFE ∷ []) (7 ∷ [])

-- a gate with table t over the first k of five inputs
abbrev pub five_inputs : ℕ → ℕ → Session
five_inputs k t = held 5 1 1 [] (k ∷ []) (0 ∷ 1 ∷ 2 ∷ 3 ∷ 4 ∷ []) (t ∷ []) (0 ∷ []) (5 ∷ [])
