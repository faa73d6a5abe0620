-- What reading a BLIF text answers: request Four of 02, line by line. Assumes nothing.
use Rattle.std.specs.Prelude.{Bool, true, false, not, cond, ◌&&◌, ◌||◌, List, [], ◌∷◌, ◌++◌, map, ℕ, suc, ◌+◌, ◌-◌, leb, ltb, eqb, length, get_or, take, drop, set, Result, Ok, Err}
use Rattle.std.proofs.lemmas.List.Edits.{sets}
use Rattle.bits.specs.Bounds.{most_inputs}
use Rattle.network.specs.Answer.{Answer, onward}
use Rattle.network.specs.declared.Refusal.{Refusal}
use Rattle.network.specs.declared.Session.{Session}
use Rattle.network.specs.declared.Refusal.TheVariants.{OutsideSubset, BadName}
use Rattle.network.specs.Bounds.{most_gates, most_outputs, most_fanins}
use Rattle.network.specs.Tests.{refuse_if, first, count_test}
use Rattle.network.specs.State.{arity_of}
use Rattle.network.specs.Load.{started, with_gate, opening}
use Rattle.text.specs.Ascii.{ascii}
use Rattle.text.specs.Words.{Text, is_printing, all}
use Rattle.blif.specs.Text.{statements}
use Rattle.blif.specs.Cover.{is_mark, is_digit, cover_table}

-- ## Words

abbrev pub same : Text → Text → Bool
same [] [] = true
same [] (b ∷ bs) = false
same (a ∷ u) [] = false
same (a ∷ u) (b ∷ v) = eqb a b && same u v

-- the line opens with the word
abbrev pub opens : Text → List Text → Bool
opens w line = same (get_or line 0 []) w

-- what follows it
abbrev pub names : List Text → List Text
names line = drop 1 line

-- a byte that stands in no word of the subset
abbrev pub foreign : List Text → Bool
foreign line = not (all (all is_printing) line)

-- ## Names

-- the place of the name in the list; its length where it is unknown
abbrev pub place_in : List Text → Text → ℕ
place_in [] w = 0
place_in (v ∷ vs) w = cond (same v w) 0 (suc (place_in vs w))

abbrev pub known : List Text → Text → Bool
known vs w = ltb (place_in vs w) (length vs)

-- some name stands in the list a second time
abbrev pub repeats : List Text → Bool
repeats [] = false
repeats (w ∷ ws) = known ws w || repeats ws

-- of a `.names` line: all names but the last are fan-ins, the last is the gate's
abbrev pub fanin_names : List Text → List Text
fanin_names ws = take (length ws - 1) ws

abbrev pub own_names : List Text → List Text
own_names ws = drop (length ws - 1) ws

-- ## What has been read

pub record Draft : Type 0 where
  -- the names of the signals: the inputs, then the gates
  pub signals : List Text
  -- the names of the outputs
  pub outputs : List Text
  -- the network so far
  pub session : Session
  -- of the last block: the rows' input parts, and their output digit, 0 where there is no row
  pub rows : List Text
  pub digit : ℕ

-- ## `.names`

-- 18: unknown where used, defined twice, listed twice
abbrev pub misnamed : List Text → List Text → Bool
misnamed signals ws = not (all (known signals) (fanin_names ws)) || (not (all (λ w. not (known signals w)) (own_names ws)) || repeats ws)

abbrev pub block_tests : Draft → List Text → List Answer
block_tests d line =
    refuse_if (foreign line) OutsideSubset
    ∷ refuse_if (misnamed d.signals (names line)) BadName
    ∷ count_test most_fanins (length (names line) - 1)
    ∷ count_test most_gates (d.session.m + 1)
    ∷ []

abbrev pub counted : Session → ℕ → Session
counted t m = record {
  n = t.n;
  m = m;
  p = t.p;
  excluded = t.excluded;
  arity = t.arity;
  fanins = t.fanins;
  loaded = t.loaded;
  current = t.current;
  open_tables = t.open_tables;
  outputs = t.outputs;
}

-- one gate more, the constant 0 until rows come
abbrev pub with_block : Draft → List Text → Draft
with_block d line =
    let g = d.session.m in
    let fs = map (place_in d.signals) (fanin_names (names line)) in
    record {
      signals = d.signals ++ own_names (names line);
      outputs = d.outputs;
      session = with_gate (counted d.session (g + 1)) g (length fs) fs 0;
      rows = [];
      digit = 0;
    }

-- ## A row of a cover

abbrev pub last_arity : Session → ℕ
last_arity t = arity_of t (t.m - 1)

-- two words, in a block: k of 0, 1 and -, and a digit, the same in all rows
abbrev pub is_row : Draft → List Text → Bool
is_row d line =
    let marks = get_or line 0 [] in
    let out = get_or line 1 [] in
    leb 1 d.session.m
    && (eqb (length line) 2
    && (eqb (length marks) (last_arity d.session)
    && (all is_mark marks
    && (eqb (length out) 1
    && (all is_digit out
    && (eqb d.digit 0 || eqb d.digit (get_or out 0 0)))))))

-- gate g gets the table
abbrev pub with_table : Session → ℕ → ℕ → Session
with_table t g table = record {
  n = t.n;
  m = t.m;
  p = t.p;
  excluded = t.excluded;
  arity = t.arity;
  fanins = t.fanins;
  loaded = set t.loaded g table;
  current = set t.current g table;
  open_tables = t.open_tables;
  outputs = t.outputs;
}

abbrev pub with_row : Draft → List Text → Draft
with_row d line =
    let t = d.session in
    let rows = d.rows ++ get_or line 0 [] ∷ [] in
    let digit = get_or (get_or line 1 []) 0 0 in
    record {
      signals = d.signals;
      outputs = d.outputs;
      session = with_table t (t.m - 1) (cover_table (last_arity t) rows digit);
      rows = rows;
      digit = digit;
    }

-- ## `.end`

abbrev pub end_tests : Draft → List Text → List Answer
end_tests d line =
    refuse_if (not (eqb (length line) 1)) OutsideSubset
    ∷ refuse_if (not (all (known d.signals) d.outputs)) BadName
    ∷ count_test most_gates d.session.m
    ∷ []

abbrev pub with_outputs : Session → List ℕ → Session
with_outputs t xs = record {
  n = t.n;
  m = t.m;
  p = t.p;
  excluded = t.excluded;
  arity = t.arity;
  fanins = t.fanins;
  loaded = t.loaded;
  current = t.current;
  open_tables = t.open_tables;
  outputs = sets t.outputs 0 xs;
}

abbrev pub finished : Draft → Session
finished d = with_outputs d.session (map (place_in d.signals) d.outputs)

-- ## The lines in their order. A text that stops before `.end` is refused there with 17

-- after `.end`
abbrev pub read_rest : Session → List (List Text) → Result Session Refusal
read_rest t [] = Ok t
read_rest t (line ∷ rest) = Err OutsideSubset

-- a line of a block: `.names`, else a row
abbrev pub line_test : Draft → List Text → Answer
line_test d line = cond (opens (ascii ".names") line) (first (block_tests d line)) (refuse_if (not (is_row d line)) OutsideSubset)

abbrev pub with_line : Draft → List Text → Draft
with_line d line = cond (opens (ascii ".names") line) (with_block d line) (with_row d line)

-- blocks, then `.end`
unfoldable pub read_blocks : Draft → List (List Text) → Result Session Refusal
read_blocks d [] = Err OutsideSubset
read_blocks d (line ∷ rest) =
    cond (opens (ascii ".end") line) (onward (first (end_tests d line)) (read_rest (finished d) rest))
    (onward (line_test d line) (read_blocks (with_line d line) rest))

-- `.inputs`, `.outputs`: so many different names
abbrev pub names_tests : Text → ℕ → List Text → List Answer
names_tests word most line =
    refuse_if (foreign line || not (opens word line)) OutsideSubset
    ∷ refuse_if (repeats (names line)) BadName
    ∷ count_test most (length (names line))
    ∷ []

abbrev pub begun : (inputs outputs : List Text) → Draft
begun ins outs = record { signals = ins; outputs = outs; session = started (length ins) 0 (length outs); rows = []; digit = 0 }

unfoldable pub read_outputs : List Text → List (List Text) → Result Session Refusal
read_outputs ins [] = Err OutsideSubset
read_outputs ins (line ∷ rest) = onward (first (names_tests (ascii ".outputs") most_outputs line)) (read_blocks (begun ins (names line)) rest)

unfoldable pub read_inputs : List (List Text) → Result Session Refusal
read_inputs [] = Err OutsideSubset
read_inputs (line ∷ rest) = onward (first (names_tests (ascii ".inputs") most_inputs line)) (read_outputs (names line) rest)

-- `.model` has one name
abbrev pub model_test : List Text → Answer
model_test line = refuse_if (foreign line || (not (opens (ascii ".model") line) || not (eqb (length line) 2))) OutsideSubset

unfoldable pub read_model : List (List Text) → Result Session Refusal
read_model [] = Err OutsideSubset
read_model (line ∷ rest) = onward (model_test line) (read_inputs rest)

-- the network of the text, with no open tables yet
unfoldable pub read_blif : Text → Result Session Refusal
read_blif bytes = read_model (statements bytes)

-- as load: the open tables of its gates with it
unfoldable pub read_blif_of : Text → Result Session Refusal
read_blif_of bytes = opening (read_blif bytes)
