-- Gate networks and the values of their signals: 01, 'The engine' and the first lines of 'The sets'. Assumes nothing.
-- A truth value is a Bool. A pattern, a table, a set of entries is a number, read by its bits.
use Rattle.std.specs.Prelude.{Bool, false, not, ◌&&◌, List, [], ◌∷◌, ◌++◌, map, filter, ℕ, zero, suc, ◌+◌, ◌-◌, ◌/◌, ◌%◌, ◌^◌, eqb, leb, ltb, length, get_or, set}
use Rattle.bits.specs.Range.{places, count, up_from}
use Rattle.bits.specs.Bit.{bit, number}

-- entry t of the table answers the fan-in values whose sum, fan-in r times 2^r, is t
pub record Gate : Type 0 where
  pub fanins : List ℕ
  pub table : ℕ

-- signals 0 to n - 1 are the inputs, the gates follow in file order;
-- excluded: 64 patterns a word, a one means that the pattern never comes
pub record Net : Type 0 where
  pub inputs : ℕ
  pub excluded : List ℕ
  pub gates : List Gate
  pub outputs : List ℕ

abbrev pub arity : Gate → ℕ
arity g = length g.fanins

-- the signal s is a gate
unfoldable pub is_gate : Net → ℕ → Bool
is_gate N s = leb N.inputs s && ltb s (N.inputs + length N.gates)

abbrev pub no_gate : Gate
no_gate = record { fanins = []; table = 0 }

-- the gate whose signal is s
abbrev pub gate : Net → ℕ → Gate
gate N s = get_or N.gates (s - N.inputs) no_gate

-- how many entries the table of gate s has
abbrev pub entries : Net → ℕ → ℕ
entries N s = 2 ^ arity (gate N s)

-- ## Patterns: the numbers below 2^n, input i is bit i

abbrev pub patterns : Net → ℕ
patterns N = 2 ^ N.inputs

-- E: the pattern x never comes
unfoldable pub excluded : Net → ℕ → Bool
excluded N x = bit (get_or N.excluded (x / 64) 0) (x % 64)

-- the pattern x is excluded for output i: all outputs share E
unfoldable pub excluded_for : Net → ℕ → ℕ → Bool
excluded_for N i x = excluded N x

-- the patterns from which an entry may come: those outside E
unfoldable pub occurs : Net → ℕ → Bool
occurs N x = not (excluded N x)

-- the weight of the pattern x: how many of the n lines are on
abbrev pub weight : (n x : ℕ) → ℕ
weight n x = count n (bit x)

-- the patterns of n lines with fewer than c on: by weight, and among equals by number
abbrev pub by_weight : (n c : ℕ) → List ℕ
by_weight n zero = []
by_weight n (suc c) = by_weight n c ++ filter (λ x. eqb (weight n x) c) (up_from 0 (2 ^ n))

-- request Six of 02: the patterns in the order in which a verdict tries them, fewest lines on first, the smaller number among equals
unfoldable pub pattern_order : Net → List ℕ
pattern_order N = by_weight N.inputs (suc N.inputs)

-- ## Values at a pattern

-- the entry of gate g that the values vs of the signals pick
unfoldable pub entry : List Bool → Gate → ℕ
entry vs g = number (map (λ s. get_or vs s false) g.fanins)

-- the values vs of the first signals, and then of the gates gs: each the table's entry at the fan-ins' values
abbrev pub run : List Bool → List Gate → List Bool
run vs [] = vs
run vs (g ∷ gs) = run (vs ++ bit g.table (entry vs g) ∷ []) gs

-- the values of all signals at the pattern x
unfoldable pub values : Net → ℕ → List Bool
values N x = run (places N.inputs (bit x)) N.gates

abbrev pub value : Net → ℕ → ℕ → Bool
value N x s = get_or (values N x) s false

-- the value of output i: that of its signal
abbrev pub output : Net → ℕ → ℕ → Bool
output N x i = value N x (get_or N.outputs i 0)

-- the entry of gate s that comes at the pattern x
abbrev pub entry_of : Net → ℕ → ℕ → ℕ
entry_of N s x = entry (values N x) (gate N s)

-- ## Replacing tables

-- a gate, by its signal number, and its new table
pub record Replacement : Type 0 where
  pub signal : ℕ
  pub table : ℕ

-- the gates of a list of them, and the new tables
abbrev pub signals : List Replacement → List ℕ
signals rs = map (λ r. r.signal) rs

abbrev pub new_tables : List Replacement → List ℕ
new_tables rs = map (λ r. r.table) rs

abbrev pub with_table : Gate → ℕ → Gate
with_table g t = record { fanins = g.fanins; table = t }

abbrev pub with_gates : Net → List Gate → Net
with_gates N gs = record { inputs = N.inputs; excluded = N.excluded; gates = gs; outputs = N.outputs }

abbrev pub replace_one : Net → Replacement → Net
replace_one N r = with_gates N (set N.gates (r.signal - N.inputs) (with_table (gate N r.signal) r.table))

-- the network with all of them in place
abbrev pub replaced : Net → List Replacement → Net
replaced N [] = N
replaced N (r ∷ rs) = replaced (replace_one N r) rs
