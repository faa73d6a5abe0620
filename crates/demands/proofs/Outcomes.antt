-- The tests of each call refuse by the numbers that demand 1 lists, and by no other. Assumes nothing.
use mathlib.Core.Path.{refl}
use mathlib.Core.Logic.{inl, inr}
use mathlib.Core.Bool.{Bool, true, false, not, cond, ◌&&◌}
use mathlib.Core.List.{List, [], ◌∷◌, map}
use Prim.Native.Nat.{ℕ, zero, suc, ◌+◌, ◌*◌, ◌-◌, ◌^◌}
use lib.Dec.{leb, ltb, eqb}
use lib.ListN.{length, get_or, take, drop}
use Rattle.bits.specs.Bounds.{most_inputs}
use Rattle.bits.specs.Range.{up_from}
use Rattle.std.specs.Prelude.{Result, Ok, Err}
use Rattle.network.specs.Answer.{Answer, Done, answer_of, onward}
use Rattle.network.specs.declared.Session.{Session}
use Rattle.network.specs.declared.Refusal.{Refusal}
use Rattle.network.specs.declared.Refusal.TheVariants.{Truncated, UnexpectedMark, OutOfBounds, FaninNotEarlier, FaninRepeated, BitPastEnd, NotASignal, TrailingBytes}
use Rattle.network.specs.Bounds.{most_gates, most_outputs, excluded_words}
use Rattle.network.specs.Tests.{refuse_if, first, length_test, mark, mark_test, range_test, member, fanin_test, fanins_test, width_test, excluded_test, output_test}
use Rattle.network.specs.Load.{started, output_tests, output_record, with_output, read_outputs, fanins_in, after_fanins, form_of, table_in, gate_tests, gate_record, with_gate, read_gates, set_bytes, excluded_in, with_excluded, is_excluded, excluded_tests, excluded_record, read_body, header_tests, header_record, read_of}
use Rattle.network.proofs.ByTest.{if-by, or-by, Each, first_by}
use Rattle.demands.specs.Demands.{Numbered, Ends}

-- ## Answers

-- Done, or a refusal by one of these numbers
abbrev pub Among : List ℕ → Answer → Type 0
Among ns (Ok _) = Unit {0}
Among ns (Err r) = Numbered ns r

-- a call that goes by such an answer
pub ends : {A : Type 0} (ns : List ℕ) (left : Answer → A) (a : Answer) → Among ns a → Ends (left a) (left Done) ns (λ r. left (Err r))
ends ns left (Ok _) p = inl refl
ends ns left (Err r) p = inr (r, p, refl)

module _ (ns : List ℕ) where
  if-among : (b : Bool) (r : Refusal) → Numbered ns r → Among ns (refuse_if b r)
  if-among b r p = if-by (Among ns) b r p (λ e. tt)

  first-among : (tests : List Answer) → Each (Among ns) tests → Among ns (first tests)
  first-among = first_by (Among ns) tt

  -- a call that goes by a list of tests
  pub tests-end : {A : Type 0} (left : Answer → A) (tests : List Answer) → Each (Among ns) tests → Ends (left (first tests)) (left Done) ns (λ r. left (Err r))
  tests-end left tests p = ends ns left (first tests) (first-among tests p)

  -- one test for each number
  map-among : (p : ℕ → Answer) → ((i : ℕ) → Among ns (p i)) → (l : List ℕ) → Among ns (first (map p l))
  map-among p h [] = tt
  map-among p h (i ∷ l) = or-by (Among ns) (p i) (first (map p l)) (h i) (map-among p h l)

-- ## 1 to 8

abbrev pub file : List ℕ
file = 1 ∷ 2 ∷ 3 ∷ 4 ∷ 5 ∷ 6 ∷ 7 ∷ 8 ∷ []

length-among : (size : ℕ) (rest : List ℕ) → Among file (length_test size rest)
length-among size rest = if-among file (ltb (length rest) size) Truncated refl

mark-among : (due : ℕ) (rest : List ℕ) → Among file (mark_test due rest)
unfolding mark_test
mark-among due rest = go (ltb (length rest) 2)
  where
    go : (b : Bool) → Among file (cond b (Err Truncated) (refuse_if (not (eqb (mark rest) due)) UnexpectedMark))
    go true = refl
    go false = if-among file (not (eqb (mark rest) due)) UnexpectedMark refl

range-among : (least most x : ℕ) → Among file (range_test least most x)
range-among least most x = if-among file (not (leb least x && leb x most)) OutOfBounds refl

fanins-among : (limit : ℕ) (fs : List ℕ) → Among file (fanins_test limit fs)
unfolding fanins_test fanin_test
fanins-among limit fs =
    map-among file (fanin_test limit fs)
    (λ j.
    let late = not (ltb (get_or fs j 0) limit) in
    let again = member (get_or fs j 0) (take j fs) in
    first-among file (refuse_if late FaninNotEarlier ∷ refuse_if again FaninRepeated ∷ [])
    (if-among file late FaninNotEarlier refl, (if-among file again FaninRepeated refl, tt)))
    (up_from 0 (length fs))

width-among : (bits x : ℕ) → Among file (width_test bits x)
width-among bits x = if-among file (not (ltb x (2 ^ bits))) BitPastEnd refl

excluded-among : (n : ℕ) (words : List ℕ) → Among file (excluded_test n words)
unfolding excluded_test
excluded-among n words = map-among file (λ w. width_test (2 ^ n - 64 * w) (get_or words w 0)) (λ w. width-among (2 ^ n - 64 * w) (get_or words w 0)) (up_from 0 excluded_words)

output-among : (signals x : ℕ) → Among file (output_test signals x)
output-among signals x = if-among file (not (ltb x signals)) NotASignal refl

-- ## Record after record

onward-among : (a : Answer) (l : Result Session Refusal) → Among file a → Among file (answer_of l) → Among file (answer_of (onward a l))
onward-among (Ok _) l p q = q
onward-among (Err r) l p q = p

outputs-among : (c i : ℕ) (t : Session) (rest : List ℕ) → Among file (answer_of (read_outputs c i t rest))
unfolding read_outputs output_record
outputs-among zero i t rest = onward-among (refuse_if (leb 1 (length rest)) TrailingBytes) _ (if-among file (leb 1 (length rest)) TrailingBytes refl) tt
outputs-among (suc c) i t rest =
    let x = get_or rest 2 0 in
    onward-among (output_record (t.n + t.m) rest) _
    (first-among file (output_tests (t.n + t.m) rest) (mark-among 0x4E4F rest, (length-among 3 rest, (output-among (t.n + t.m) x, tt))))
    (outputs-among c (i + 1) (with_output t i x) (drop 3 rest))

gates-among : (c g : ℕ) (t : Session) (rest : List ℕ) → Among file (answer_of (read_gates c g t rest))
unfolding read_gates gate_record
gates-among zero g t rest = outputs-among t.p 0 t rest
gates-among (suc c) g t rest =
    let k = get_or rest 2 0 in
    let f = form_of rest in
    onward-among (gate_record (t.n + g) rest) _
    (first-among file (gate_tests f (t.n + g) rest) (
      mark-among f.opening rest,
      (
        length-among 3 rest,
        (range-among f.least f.most k, (length-among (k + f.bytes) (drop 3 rest), (fanins-among (t.n + g) (fanins_in rest), (width-among (2 ^ k) (table_in rest), tt)))),
      ),
    ))
    (gates-among c (g + 1) (with_gate t g k (fanins_in rest) (table_in rest)) (drop f.bytes (after_fanins rest)))

body-among : (t : Session) (rest : List ℕ) → Among file (answer_of (read_body t rest))
unfolding read_body excluded_record
body-among t rest = go (is_excluded rest)
  where
    behind : Result Session Refusal
    behind = read_gates t.m 0 (with_excluded t (excluded_in t.n rest)) (drop (set_bytes t.n) (drop 2 rest))

    go : (b : Bool) → Among file (answer_of (cond b (onward (excluded_record t.n rest) behind) (read_gates t.m 0 t rest)))
    go true =
        onward-among (excluded_record t.n rest) behind
        (first-among file (excluded_tests t.n rest) (length-among (set_bytes t.n) (drop 2 rest), (excluded-among t.n (excluded_in t.n rest), tt)))
        (gates-among t.m 0 (with_excluded t (excluded_in t.n rest)) (drop (set_bytes t.n) (drop 2 rest)))
    go false = gates-among t.m 0 t rest

pub read-among : (bytes : List ℕ) → Among file (answer_of (read_of bytes))
unfolding read_of header_record
read-among bytes =
    let n = get_or bytes 2 0 in
    let m = get_or bytes 3 0 in
    let p = get_or bytes 4 0 in
    onward-among (header_record bytes) _
    (first-among file (header_tests bytes) (mark-among 0x4E49 bytes, (length-among 5 bytes, (range-among 1 most_inputs n, (range-among 1 most_gates m, (range-among 1 most_outputs p, tt))))))
    (body-among (started n m p) (drop 5 bytes))
