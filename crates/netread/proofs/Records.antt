-- The tests of a record as the reader goes through them, and what a record that passes them shows. Assumes nothing.
use mathlib.Core.Path.{◌≡◌, refl, sym, ◌∙◌}
use mathlib.Core.Bool.{◌&&◌}
use mathlib.Core.List.{List}
use Prim.Native.Nat.{ℕ, ◌+◌, ◌-◌, ◌^◌, ◌≤◌, ◌<◌}
use native.Mathlib.Omega.{arith}
use lib.Dec.{leb, eqb}
use lib.ListN.{length, get_or, take, drop, length-drop}
use lib.Seq.{drop-drop}
use borrow.Author.Tests.{lt-ltb, le-leb, lt-leb}
use Rattle.bits.specs.Bounds.{most_inputs}
use Rattle.bits.proofs.Ranges.{by_cases}
use Rattle.std.specs.Prelude.{Result, Ok, Err}
use Rattle.network.specs.Answer.{Answer, Done, onward}
use Rattle.network.specs.declared.Session.{Session}
use Rattle.network.specs.declared.Refusal.{Refusal}
use Rattle.network.specs.declared.Refusal.TheVariants.{Truncated}
use Rattle.network.specs.Bounds.{most_gates, most_outputs, most_fanins}
use Rattle.network.specs.Tests.{first, length_test, mark, range_test, fanins_test, width_test}
use Rattle.network.specs.Load.{little_endian, fanins_in, narrow, wide, form_of, gate_tests, gate_record, output_tests, output_record, header_tests, header_record}
use Rattle.network.specs.Write.{form_for}
use Rattle.network.proofs.TestLaws.{clear-e, short-e, short-i, count-e, range-e}
use Rattle.network.proofs.Reached.{form-fine}
use Rattle.state.proofs.TestSteps.{or-last}
use Rattle.netread.specs.declared.Kind.{Kind}
use Rattle.netread.specs.declared.Kind.TheVariants.{Gate, WideGate}
use Rattle.netread.specs.Kind.{kind_at, not_due, field_tests}
use Rattle.netread.proofs.Marks.{other-kind, is-due, not-due, is-marked, not-marked}
use Rattle.netread.proofs.Steps.{whole_part}

pub short : (size : ℕ) (rest : List ℕ) → length rest < size → length_test size rest ≡ Err Truncated
short size rest h = rw (lt-ltb (length rest) size h)

-- go on, or stop
pub on : (a : Answer) (l : Result Session Refusal) → a ≡ Done → l ≡ onward a l
on a l e = rw e

pub stop : (a : Answer) (r : Refusal) (l : Result Session Refusal) → a ≡ Err r → Err r ≡ onward a l
stop a r l e = rw e

-- a number that passes is small
pub few : {a : Answer} (least most x : ℕ) → a ≡ range_test least most x → a ≡ Done → x ≤ most
few least most x q k = (range-e least most x (sym q ∙ k)).1

-- ## A gate record behind its mark

-- the bytes past k, as the code takes them
pub fanins-part : (rest : List ℕ) (k : ℕ) → take (3 + k - 3) (drop 3 rest) ≡ take k (drop 3 rest)
fanins-part rest k = whole_part rest 3 k

module _ (least most bytes limit : ℕ) (rest : List ℕ) (l : 3 ≤ length rest)
    (c : Answer) (f : c ≡ range_test least most (get_or rest 2 0)) (fine : c ≡ Done) (h : 3 + get_or rest 2 0 + bytes ≤ length rest)
    (a : Answer) (e : a ≡ fanins_test limit (take (3 + get_or rest 2 0 - 3) (drop 3 rest))) where
  long : length_test (get_or rest 2 0 + bytes) (drop 3 rest) ≡ Done
  long = short-i (get_or rest 2 0 + bytes) (drop 3 rest) (simp length-drop (omega arith))

  there : fanins_test limit (fanins_in rest) ≡ a
  there = sym (rw fanins-part at e)

  pub fields-fanins : (r : Refusal) → a ≡ Err r → Err r ≡ first (field_tests least most bytes limit rest)
  fields-fanins r q = rw (short-i 3 rest l, sym f ∙ fine, long, there ∙ q)

  pub fields-table : a ≡ Done
      → width_test (2 ^ get_or rest 2 0) (little_endian (take bytes (drop (3 + get_or rest 2 0) rest))) ≡ first (field_tests least most bytes limit rest)
  fields-table q = rw (short-i 3 rest l, sym f ∙ fine, long, there ∙ q, drop-drop (get_or rest 2 0) 3 rest) (or-last _ refl)

-- ## The form of a gate record, by its kind

module _ (limit : ℕ) (rest : List ℕ) (k : Result Kind Refusal) (e : k ≡ kind_at rest) where
  pub narrow-record : {x : Kind} → k ≡ Ok x → x ≡ Gate → first (drop 1 (gate_tests narrow limit rest)) ≡ gate_record limit rest
  unfolding gate_record
  narrow-record q s =
      let other : Gate ≡ WideGate → ⊥ = λ z. cc in
      rw (not-marked rest k WideGate e (other-kind q (rw s other)), is-due rest k Gate e q s)

  pub wide-record : {x : Kind} → k ≡ Ok x → x ≡ WideGate → first (drop 1 (gate_tests wide limit rest)) ≡ gate_record limit rest
  unfolding gate_record
  wide-record q s = rw (is-marked rest k WideGate e q s, is-due rest k WideGate e q s)

  pub no-gate : {r : Refusal} → not_due k ≡ r → (k ≡ Ok Gate → ⊥) → (k ≡ Ok WideGate → ⊥) → Err r ≡ gate_record limit rest
  unfolding gate_record
  no-gate q a b = rw (not-marked rest k WideGate e b, not-due rest k Gate e a q)

-- ## Records that pass

-- k within the bounds of the form that the mark opens is in the form that takes k
form-for : (rest : List ℕ) (k : ℕ) → range_test (form_of rest).least (form_of rest).most k ≡ Done → form_of rest ≡ form_for k
form-for rest k h =
    by_cases (leb 2 (length rest) && eqb (mark rest) wide.opening)
    (λ e. let r = range-e wide.least wide.most k (rw e at h) in rw (e, lt-leb k narrow.most (omega arith)))
    (λ e. let r = range-e narrow.least narrow.most k (rw e at h) in rw (e, le-leb k narrow.most (omega arith)))

pub record WholeGate (rest : List ℕ) : Type 0 where
  pub few : get_or rest 2 0 ≤ most_fanins
  pub form : form_of rest ≡ form_for (get_or rest 2 0)
  pub long : 3 + get_or rest 2 0 + (form_for (get_or rest 2 0)).bytes ≤ length rest

pub whole-gate : (limit : ℕ) (rest : List ℕ) → gate_record limit rest ≡ Done → WholeGate rest
unfolding gate_record
whole-gate limit rest h =
    let k = get_or rest 2 0 in
    let q = (clear-e (gate_tests (form_of rest) limit rest) h).1 in
    let form = form-for rest k q.1.0 in
    let a = short-e 3 rest q.0 in
    let b = short-e (k + (form_for k).bytes) (drop 3 rest) (rw form at q.1.1.0) in
    let n = length-drop 3 rest in
    record { few = (count-e most_fanins k (form-fine rest k q.1.0)).1; form = form; long = omega arith }

pub whole-output : (signals : ℕ) (rest : List ℕ) → output_record signals rest ≡ Done → 3 ≤ length rest
unfolding output_record
whole-output signals rest h = short-e 3 rest (clear-e (output_tests signals rest) h).1.0

-- the counts are in bounds
pub record WholeHeader (rest : List ℕ) : Type 0 where
  pub long : 5 ≤ length rest
  pub inputs : get_or rest 2 0 ≤ most_inputs
  pub gates : get_or rest 3 0 ≤ most_gates
  pub outputs : get_or rest 4 0 ≤ most_outputs

pub whole-header : (rest : List ℕ) → header_record rest ≡ Done → WholeHeader rest
unfolding header_record
whole-header rest h =
    let q = (clear-e (header_tests rest) h).1 in
    record {
      long = short-e 5 rest q.0;
      inputs = (count-e most_inputs (get_or rest 2 0) q.1.0).1;
      gates = (count-e most_gates (get_or rest 3 0) q.1.1.0).1;
      outputs = (count-e most_outputs (get_or rest 4 0) q.1.1.1.0).1;
    }
