-- What a text gives passes refusal 10's test and is fresh, as after a load. Assumes nothing.
use mathlib.Core.Path.{◌≡◌, refl, sym, ap, ◌∙◌}
use mathlib.Core.List.{List, [], ◌∷◌, map}
use Prim.Native.Nat.{◌+◌}
use native.Mathlib.Nat.{zero-add}
use native.Mathlib.Omega.{arith}
use lib.ListN.{length, get_or, replicate, length-map}
use lib.Seq.{sets, length-sets}
use Rattle.bits.specs.Bounds.{most_inputs}
use Rattle.bits.proofs.Ranges.{by_cases}
use Rattle.std.specs.Prelude.{Result, Ok, Err}
use Rattle.network.specs.Answer.{Done, answer_of}
use Rattle.network.specs.declared.Refusal.{Refusal}
use Rattle.network.specs.declared.Session.{Session}
use Rattle.network.specs.declared.Refusal.TheVariants.{OutsideSubset, BadName}
use Rattle.network.specs.Bounds.{most_outputs, excluded_words}
use Rattle.network.specs.Compatible.{open_tables}
use Rattle.network.specs.Tests.{first, count_test}
use Rattle.network.specs.State.{state_fault}
use Rattle.network.specs.Valid.{Shaped, Sized}
use Rattle.network.specs.Load.{opened, opening}
use Rattle.network.proofs.Fresh.{Fresh}
use Rattle.network.proofs.TestLaws.{refused-done, kept, clear-e, count-e, output-i, went, given-same}
use Rattle.network.proofs.Valid.{valid-i}
use Rattle.network.proofs.Slots.{sized-started, sets-at}
use Rattle.network.proofs.Reached.{no_bits, zero-wide, opened-fault, opened-loaded, opened-length}
use Rattle.text.specs.Ascii.{ascii}
use Rattle.text.specs.Words.{Text, all}
use Rattle.blif.specs.Text.{statements}
use Rattle.blif.specs.Read.{opens, names, place_in, known, Draft, end_tests, finished, read_rest, line_test, with_line, read_blocks, names_tests, begun, read_outputs, read_inputs, model_test, read_model, read_blif, read_blif_of}
use Rattle.bliftrip.specs.Trip.{BlifValid}
use Rattle.bliftrip.proofs.Places.{all-known-e, map_at}
use Rattle.bliftrip.proofs.Drafts.{Drafted, line-drafted}
use Rattle.bliftrip.proofs.Tidy.{Tidy, sets_behind, tidy-started}

-- ## The session, once all has been read

pub record Given (t : Session) : Type 0 where
  pub valid : state_fault t ≡ Done
  pub free : t.excluded ≡ replicate excluded_words 0
  pub sized : Sized t
  pub same_tables : t.current ≡ t.loaded
  pub tidy : Tidy t t.m t.p

end-given : (d : Draft) (line : List Text) → Drafted d → first (end_tests d line) ≡ Done → Given (finished d)
end-given d line s h =
    let t = d.session in
    let vs = d.signals in
    let os = d.outputs in
    let c = clear-e (end_tests d line) h in
    let there = kept (all (known vs) os) BadName c.1.0 in
    let xs = map (place_in vs) os in
    let n = length-map os (place_in vs) in
    let pb = count-e most_outputs t.p s.outs in
    let li = s.listed in
    let nm = s.named in
    let ro = s.sized.outs in
    record {
      valid = valid-i (finished d) (record {
        inputs = s.inputs;
        gates = c.1.1.0;
        outs = s.outs;
        set-fine = rw s.free (no_bits t.n);
        gate = λ i l. let v = s.gate i l in record { arity-fine = v.arity-fine; fanins-fine = v.fanins-fine; loaded-fine = v.loaded-fine; current-fine = v.current-fine };
        output = λ i l.
            let e : get_or (sets t.outputs 0 xs) i 0 ≡ place_in vs (get_or os i []) = (rw zero-add at (sets-at xs t.outputs 0 i (omega arith) (omega arith))) ∙ map_at vs os i (omega arith) in
            rw e (output-i (t.n + t.m) (place_in vs (get_or os i [])) (omega (arith, all-known-e vs os there i (omega arith))));
      });
      free = s.free;
      sized = record {
        words = s.sized.words;
        arities = s.sized.arities;
        slots = s.sized.slots;
        loads = s.sized.loads;
        currents = s.sized.currents;
        opens = s.sized.opens;
        outs = length-sets t.outputs 0 xs ∙ s.sized.outs;
      };
      same_tables = s.same_tables;
      tidy = record {
        arities = s.tidy.arities;
        slots = s.tidy.slots;
        tables = s.tidy.tables;
        outs = λ i l. sets_behind xs t.outputs 0 i (omega arith) ∙ s.tidy.outs i (omega arith);
      };
    }

rest-given : (t u : Session) (rest : List (List Text)) → Given t → read_rest t rest ≡ Ok u → Given u
rest-given t u [] g h = rw (← given-same h) g
rest-given t u (line ∷ rest) g h = refused-done OutsideSubset (ap answer_of h)

blocks-given : (lines : List (List Text)) (d : Draft) (u : Session) → Drafted d → read_blocks d lines ≡ Ok u → Given u
unfolding read_blocks
blocks-given [] d u s h = refused-done OutsideSubset (ap answer_of h)
blocks-given (line ∷ rest) d u s h =
    by_cases (opens (ascii ".end") line)
    (λ e.
    let w = went (first (end_tests d line)) (read_rest (finished d) rest) u (rw e at h) in
    rest-given (finished d) u rest (end-given d line s w.0) w.1)
    (λ e.
    let w = went (line_test d line) (read_blocks (with_line d line) rest) u (rw e at h) in
    blocks-given rest (with_line d line) u (line-drafted d line s w.0) w.1)

begun-drafted : (ins os : List Text) → count_test most_inputs (length ins) ≡ Done → count_test most_outputs (length os) ≡ Done → Drafted (begun ins os)
begun-drafted ins os a b = record {
  inputs = a;
  outs = b;
  few = omega arith;
  free = refl;
  gate = λ i l. let z : ⊥ = omega arith in absurd z;
  sized = sized-started (length ins) 0 (length os) (replicate excluded_words 0) refl;
  same_tables = refl;
  named = omega arith;
  listed = refl;
  tidy = tidy-started (length ins) 0 (length os);
}

model-given : (lines : List (List Text)) (u : Session) → read_model lines ≡ Ok u → Given u
unfolding read_model read_inputs read_outputs
model-given [] u h = refused-done OutsideSubset (ap answer_of h)
model-given (m ∷ []) u h =
    let w = went (model_test m) (Err OutsideSubset) u h in
    refused-done OutsideSubset (ap answer_of w.1)
model-given (m ∷ ins ∷ []) u h =
    let w = went (model_test m) _ u h in
    let v = went (first (names_tests (ascii ".inputs") most_inputs ins)) (Err OutsideSubset) u w.1 in
    refused-done OutsideSubset (ap answer_of v.1)
model-given (m ∷ ins ∷ os ∷ rest) u h =
    let w = went (model_test m) (read_inputs (ins ∷ os ∷ rest)) u h in
    let v = went (first (names_tests (ascii ".inputs") most_inputs ins)) (read_outputs (names ins) (os ∷ rest)) u w.1 in
    let x = went (first (names_tests (ascii ".outputs") most_outputs os)) (read_blocks (begun (names ins) (names os)) rest) u v.1 in
    let a = clear-e (names_tests (ascii ".inputs") most_inputs ins) v.0 in
    let b = clear-e (names_tests (ascii ".outputs") most_outputs os) x.0 in
    blocks-given rest (begun (names ins) (names os)) u (begun-drafted (names ins) (names os) a.1.1.0 b.1.1.0) x.1

-- ## With the open tables

-- a text that is accepted was read and opened
pub text-read : (text : Text) (s : Session) → read_blif_of text ≡ Ok s → (t : Session) × (read_blif text ≡ Ok t) × (opened t ≡ s)
unfolding read_blif_of
text-read text s h = go (read_blif text) h
  where
    go : (l : Result Session Refusal) → opening l ≡ Ok s → (t : Session) × (l ≡ Ok t) × (opened t ≡ s)
    go (Ok t) h = (t, refl, given-same h)
    go (Err r) h = refused-done r (ap answer_of h)

pub given : (text : Text) (t : Session) → read_blif text ≡ Ok t → Given t
unfolding read_blif
given text t h = model-given (statements text) t h

pub read-valid : BlifValid
read-valid text s h = (given text s h).valid

pub text-fresh : (text : Text) (s : Session) → read_blif_of text ≡ Ok s → Fresh s
text-fresh text s h =
    let l = text-read text s h in
    let t = l.0 in
    let g = given text t l.1 in
    rw (← l.2) (record {
      valid = opened-fault t ∙ g.valid;
      same = g.same_tables;
      held = ap open_tables (sym (opened-loaded t));
      slots = g.sized.slots;
      arities = g.sized.arities;
      tables = g.sized.loads;
    })

pub text-free : (text : Text) (s : Session) → read_blif_of text ≡ Ok s → s.excluded ≡ replicate excluded_words 0
text-free text s h =
    let l = text-read text s h in
    let g = given text l.0 l.1 in
    rw (← l.2) g.free

pub text-shaped : (text : Text) (s : Session) → read_blif_of text ≡ Ok s → Shaped s
text-shaped text s h =
    let l = text-read text s h in
    let t = l.0 in
    let g = given text t l.1 in
    rw (← l.2) (record {
      sized = record {
        words = g.sized.words;
        arities = g.sized.arities;
        slots = g.sized.slots;
        loads = g.sized.loads;
        currents = g.sized.currents;
        opens = opened-length t;
        outs = g.sized.outs;
      };
      wide = λ w. rw g.free (zero-wide w);
    })
