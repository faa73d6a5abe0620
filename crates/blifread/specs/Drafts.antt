-- What has been read of a text, its names as places. Assumes nothing.
use Rattle.std.specs.Prelude.{◌≡◌, false, List, [], ◌∷◌, map, ℕ, ◌+◌, ◌-◌, ◌≤◌, length, get_or, take, drop}
use Rattle.bits.specs.Bounds.{most_inputs}
use Rattle.std.specs.Prelude.{Result, Ok, Err}
use Rattle.network.specs.Answer.{answer_of, giving, onward}
use Rattle.network.specs.declared.Session.{Session}
use Rattle.network.specs.declared.Refusal.{Refusal}
use Rattle.network.specs.declared.Refusal.TheVariants.{OutsideSubset}
use Rattle.network.specs.Bounds.{most_gates}
use Rattle.network.specs.Tests.{first}
use Rattle.network.specs.Load.{with_gate}
use Rattle.text.specs.Words.{Text}
use Rattle.blif.specs.Text.{statements}
use Rattle.blif.specs.Read.{Draft, place_in, names, fanin_names, counted, last_arity, is_row, with_table, with_block, with_outputs, names_tests, read_rest, read_blocks}
use Rattle.bliftext.specs.declared.Line.{Line}
use Rattle.bliftext.specs.Lines.{words_at}
use Rattle.bliftext.specs.Named.{names_at, Inside}
use Rattle.bliftext.specs.declared.Span.{Span}
use Rattle.blifline.specs.Rows.{is_row_of, Running}
use Rattle.blifline.specs.Lines.{Held, block_tests_of, end_tests_of}
use Rattle.blifread.specs.declared.Scanned.{Scanned}
use Rattle.blifread.specs.declared.Drafted.{Drafted}
use Rattle.blifread.specs.declared.Listed.{Listed}

-- a line's places in the text
pub record LineIn (text : Text) (l : Line) : Type 0 where
  pub upto : l.at ≤ l.end
  pub within : l.end ≤ l.next
  pub inside : l.next ≤ length text

abbrev pub draft_of : (signals outputs : List Text) → Session → (rows : List Text) → (digit : ℕ) → Draft
draft_of signals outputs t rows digit = record { signals = signals; outputs = outputs; session = t; rows = rows; digit = digit }

-- the first line that is left, no words where there is none
abbrev pub line_at : Text → ℕ → List Text
line_at text i = get_or (statements (drop i text)) 0 []

-- ## Rows

-- the rows from `at` on, read as far as place i: they give the table, and the lines that are left answer as those from `at` on
pub record RowsTo (text : Text) (at k digit table i : ℕ) : Type 0 where
  pub rows : List Text
  pub from : at ≤ i
  pub place : i ≤ length text
  pub running : Running k rows digit table
  pub reads : (signals outputs : List Text) (t : Session) → 1 ≤ t.m → last_arity t ≡ k
      → read_blocks (draft_of signals outputs (with_table t (t.m - 1) table) rows digit) (statements (drop i text))
      ≡ read_blocks (draft_of signals outputs (with_table t (t.m - 1) 0) [] 0) (statements (drop at text))

-- all of them
pub record RowsRead (text : Text) (at k : ℕ) (r : Scanned) : Type 0 where
  pub digit : ℕ
  pub so_far : RowsTo text at k digit r.table r.next
  pub other : is_row_of k digit (line_at text r.next) ≡ false

-- ## Blocks

-- one gate more, with these fan-ins
abbrev pub with_fanins : Session → List ℕ → Session
with_fanins t fs = with_gate (counted t (t.m + 1)) t.m (length fs) fs 0

-- the gate of a `.names` line, or the line's refusal
abbrev pub gate_of : List Text → Session → List Text → Result Session Refusal
gate_of signals t line = giving (first (block_tests_of signals t.m line)) (with_fanins t (map (place_in signals) (fanin_names (names line))))

-- the names of the signals
abbrev pub signals_at : Text → Session → List Span → List Text
signals_at text t ns = names_at text (take (t.n + t.m) ns)

pub record Fits (text : Text) (t : Session) (ns : List Span) : Type 0 where
  pub inputs : t.n ≤ most_inputs
  pub gates : t.m ≤ most_gates
  pub inside : Inside text (take (t.n + t.m) ns)

-- the lines from place i on, of which the first is no row of the last block, give the answer
pub record Left (text : Text) (outputs : List Text) (t : Session) (ns : List Span) (i : ℕ) (answer : Result Session Refusal) : Type 0 where
  pub rows : List Text
  pub digit : ℕ
  pub place : i ≤ length text
  pub fits : Fits text t ns
  pub other : is_row (draft_of (signals_at text t ns) outputs t rows digit) (line_at text i) ≡ false
  pub reads : read_blocks (draft_of (signals_at text t ns) outputs t rows digit) (statements (drop i text)) ≡ answer

-- what a block is read as
pub record BlockRead (text : Text) (l : Line) (t : Session) (ns : List Span) (r : Result Drafted Refusal) : Type 0 where
  pub answer-is : answer_of r ≡ first (block_tests_of (signals_at text t ns) t.m (words_at text l))
  pub further : (d : Drafted) → r ≡ Ok d → l.next ≤ d.next
  pub left : (d : Drafted) → r ≡ Ok d → (outputs : List Text)
      → Left text outputs d.session d.signals d.next
      (read_blocks (with_block (draft_of (signals_at text t ns) outputs t [] 0) (words_at text l)) (statements (drop l.next text)))

-- ## `.end`

-- what the `.end` line and the lines behind it answer
unfoldable pub end_of : (signals outputs : List Text) → Session → List Text → List (List Text) → Result Session Refusal
end_of signals outputs t line rest = onward (first (end_tests_of signals outputs t.m line)) (read_rest (with_outputs t (map (place_in signals) outputs)) rest)

-- ## A line of names

-- the line, and then what `more` says of its names and of the lines behind it
abbrev pub names_line : Text → ℕ → (List Text → List (List Text) → Result Session Refusal) → List (List Text) → Result Session Refusal
names_line word most more [] = Err OutsideSubset
names_line word most more (line ∷ rest) = onward (first (names_tests word most line)) (more (names line) rest)

-- its names by their places
pub record Listing (text : Text) (at : ℕ) (word : Text) (most : ℕ) (r : Listed) : Type 0 where
  pub listed : List Text
  pub held : Held text r.names r.count listed
  pub few : r.count ≤ most
  pub place : r.next ≤ length text
  pub reads : (more : List Text → List (List Text) → Result Session Refusal) → more listed (statements (drop r.next text)) ≡ names_line word most more (statements (drop at text))

pub record ListedAt (text : Text) (at : ℕ) (word : Text) (most : ℕ) (r : Result Listed Refusal) : Type 0 where
  pub refused : (q : Refusal) → r ≡ Err q → (more : List Text → List (List Text) → Result Session Refusal) → Err q ≡ names_line word most more (statements (drop at text))
  pub given : (x : Listed) → r ≡ Ok x → Listing text at word most x
