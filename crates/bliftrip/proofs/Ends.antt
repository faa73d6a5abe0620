-- Reading refuses by 3, 17 and 18, and by no other; the copies of the way out by 3. Assumes nothing.
use mathlib.Core.Bool.{Bool, true, false, not, cond, ◌&&◌, ◌||◌}
use mathlib.Core.List.{List, [], ◌∷◌}
use Prim.Native.Nat.{ℕ, ◌+◌, ◌-◌}
use lib.Dec.{leb, eqb}
use lib.ListN.{length}
use Rattle.bits.specs.Bounds.{most_inputs}
use Rattle.std.specs.Prelude.{Result, Ok, Err}
use Rattle.network.specs.Answer.{Answer, Done, answer_of, onward}
use Rattle.network.specs.declared.Refusal.{Refusal}
use Rattle.network.specs.declared.Session.{Session}
use Rattle.network.specs.declared.Refusal.TheVariants.{OutOfBounds, OutsideSubset, BadName}
use Rattle.network.specs.Bounds.{most_gates, most_outputs, most_fanins}
use Rattle.network.specs.Flat.{current_net}
use Rattle.network.specs.Tests.{refuse_if, first, count_test}
use Rattle.network.proofs.ByTest.{if-by, first_by}
use Rattle.text.specs.Ascii.{ascii}
use Rattle.text.specs.Words.{Text, all}
use Rattle.blif.specs.Text.{statements}
use Rattle.blif.specs.Read.{opens, names, foreign, known, repeats, Draft, misnamed, block_tests, is_row, end_tests, finished, read_rest, line_test, with_line, read_blocks, names_tests, begun, read_outputs, read_inputs, model_test, read_model, read_blif}
use Rattle.blif.specs.Write.{outgoing, copies_test}

-- ## What holds of Done and of three refusals holds of every reading's answer

onward-by : (Q : Answer → Type 0) (a : Answer) (l : Result Session Refusal) → Q a → Q (answer_of l) → Q (answer_of (onward a l))
onward-by Q (Ok _) l p q = q
onward-by Q (Err r) l p q = p

either : (Q : Answer → Type 0) (b : Bool) (l m : Result Session Refusal) → Q (answer_of l) → Q (answer_of m) → Q (answer_of (cond b l m))
either Q true l m p q = p
either Q false l m p q = q

count_by : (Q : Answer → Type 0) → Q Done → Q (Err OutOfBounds) → (most x : ℕ) → Q (count_test most x)
count_by Q done p most x = if-by Q (not (leb 1 x && leb x most)) OutOfBounds p (λ e. done)

module _ (Q : Answer → Type 0) (done : Q Done) (bounds : Q (Err OutOfBounds)) (outside : Q (Err OutsideSubset)) (misused : Q (Err BadName)) where
  outside-by : (b : Bool) → Q (refuse_if b OutsideSubset)
  outside-by b = if-by Q b OutsideSubset outside (λ e. done)

  name_by : (b : Bool) → Q (refuse_if b BadName)
  name_by b = if-by Q b BadName misused (λ e. done)

  end_by : (d : Draft) (line : List Text) → Q (first (end_tests d line))
  end_by d line =
      first_by Q done (end_tests d line)
      (outside-by (not (eqb (length line) 1)), (name_by (not (all (known d.signals) d.outputs)), (count_by Q done bounds most_gates d.session.m, tt)))

  rest-by : (t : Session) (lines : List (List Text)) → Q (answer_of (read_rest t lines))
  rest-by t [] = done
  rest-by t (line ∷ rest) = outside

  line-by : (d : Draft) (line : List Text) → Q (line_test d line)
  line-by d line = go (opens (ascii ".names") line)
    where
      go : (b : Bool) → Q (cond b (first (block_tests d line)) (refuse_if (not (is_row d line)) OutsideSubset))
      go true =
          first_by Q done (block_tests d line) (
            outside-by (foreign line),
            (
              name_by (misnamed d.signals (names line)),
              (count_by Q done bounds most_fanins (length (names line) - 1), (count_by Q done bounds most_gates (d.session.m + 1), tt)),
            ),
          )
      go false = outside-by (not (is_row d line))

  blocks-by : (lines : List (List Text)) (d : Draft) → Q (answer_of (read_blocks d lines))
  unfolding read_blocks
  blocks-by [] d = outside
  blocks-by (line ∷ rest) d =
      either Q (opens (ascii ".end") line) (onward (first (end_tests d line)) (read_rest (finished d) rest)) (onward (line_test d line) (read_blocks (with_line d line) rest))
      (onward-by Q (first (end_tests d line)) (read_rest (finished d) rest) (end_by d line) (rest-by (finished d) rest))
      (onward-by Q (line_test d line) (read_blocks (with_line d line) rest) (line-by d line) (blocks-by rest (with_line d line)))

  names-by : (word : Text) (most : ℕ) (line : List Text) → Q (first (names_tests word most line))
  names-by word most line =
      first_by Q done (names_tests word most line)
      (outside-by (foreign line || not (opens word line)), (name_by (repeats (names line)), (count_by Q done bounds most (length (names line)), tt)))

  outputs-by : (ins : List Text) (lines : List (List Text)) → Q (answer_of (read_outputs ins lines))
  unfolding read_outputs
  outputs-by ins [] = outside
  outputs-by ins (line ∷ rest) =
      onward-by Q (first (names_tests (ascii ".outputs") most_outputs line)) (read_blocks (begun ins (names line)) rest)
      (names-by (ascii ".outputs") most_outputs line) (blocks-by rest (begun ins (names line)))

  inputs-by : (lines : List (List Text)) → Q (answer_of (read_inputs lines))
  unfolding read_inputs
  inputs-by [] = outside
  inputs-by (line ∷ rest) =
      onward-by Q (first (names_tests (ascii ".inputs") most_inputs line)) (read_outputs (names line) rest)
      (names-by (ascii ".inputs") most_inputs line) (outputs-by (names line) rest)

  model-by : (lines : List (List Text)) → Q (answer_of (read_model lines))
  unfolding read_model
  model-by [] = outside
  model-by (line ∷ rest) =
      onward-by Q (model_test line) (read_inputs rest)
      (outside-by (foreign line || (not (opens (ascii ".model") line) || not (eqb (length line) 2)))) (inputs-by rest)

  pub read_by : (text : Text) → Q (answer_of (read_blif text))
  unfolding read_blif
  read_by text = model-by (statements text)

-- ## On the way out: 3, with the copies counted

pub copies-by : (Q : Answer → Type 0) → Q Done → Q (Err OutOfBounds) → (s : Session) → Q (copies_test s)
unfolding copies_test
copies-by Q done p s = count_by Q done p most_gates (length (outgoing (current_net s)).gates)
