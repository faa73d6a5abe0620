-- A gate's bytes read back. Assumes nothing.
use mathlib.Core.Path.{◌≡◌}
use mathlib.Core.List.{List, ◌∷◌, ◌++◌, append_assoc}
use Prim.Native.Nat.{ℕ, suc, ◌+◌, ◌%◌, ◌^◌, ◌<◌}
use native.Mathlib.Omega.{arith}
use lib.ListN.{length, get_or, take, drop, length-append}
use lib.Seq.{take_at, drop_at}
use Rattle.bits.specs.Lists.{bytes_in}
use Rattle.bits.proofs.Ranges.{length-places}
use Rattle.bits.proofs.Bytes.{length-bytes}
use Rattle.network.specs.Answer.{Done}
use Rattle.network.specs.declared.Session.{Session}
use Rattle.network.specs.Bounds.{most_fanins}
use Rattle.network.specs.Tests.{count_test, fanins_test, width_test}
use Rattle.network.specs.State.{arity_of, fanins_of}
use Rattle.network.specs.Load.{little_endian, fanins_in, after_fanins, GateForm, form_of, gate_tests, gate_record, read_gates}
use Rattle.network.specs.Write.{form_for, gate_bytes}
use Rattle.network.proofs.TestLaws.{clear-i, short-i, mark-i, count-e, width-e}
use Rattle.network.proofs.Valid.{GateValid}
use Rattle.roundtrip.proofs.Forms.{in-form, table_fits, opening-bytes, form-back}
use Rattle.roundtrip.proofs.WordsRead.{number-bytes}
use Rattle.roundtrip.proofs.Rebuilt.{rebuild_gate}

module _ (k : ℕ) (fs : List ℕ) (tb : ℕ) (tail : List ℕ) (sized : length fs ≡ k) where
  abbrev form : GateForm
  form = form_for k

  abbrev table : List ℕ
  table = bytes_in form.bytes tb

  abbrev rest : List ℕ
  rest = 0x4E ∷ form.opening % 256 ∷ k ∷ (fs ++ table) ++ tail

  form-there : form_of rest ≡ form
  form-there = form-back k rest (omega arith) (opening-bytes k)

  fanins-back : fanins_in rest ≡ fs
  fanins-back = rw append_assoc (take_at fs (table ++ tail) k sized)

  after-back : after_fanins rest ≡ table ++ tail
  after-back = rw append_assoc (drop_at fs (table ++ tail) k sized)

  table-back : tb < 256 ^ form.bytes → little_endian (take form.bytes (after_fanins rest)) ≡ tb
  table-back h = rw (after-back, take_at table tail form.bytes (length-bytes form.bytes tb)) (number-bytes form.bytes tb h)

  rest_back : drop form.bytes (after_fanins rest) ≡ tail
  rest_back = rw after-back (drop_at table tail form.bytes (length-bytes form.bytes tb))

  -- the record is in order where its fields are
  record-back : (limit : ℕ) → count_test most_fanins k ≡ Done → fanins_test limit fs ≡ Done → tb < 256 ^ form.bytes → width_test (2 ^ k) tb ≡ Done
      → gate_record limit rest ≡ Done
  unfolding gate_record
  record-back limit a b h d =
      let z = length-bytes form.bytes tb in
      rw form-there
      (clear-i (gate_tests form limit rest) (
        mark-i form.opening rest (omega arith) (opening-bytes k),
        (
          short-i 3 rest (omega arith),
          (
            in-form k a,
            (
              short-i (k + form.bytes) ((fs ++ table) ++ tail) (simp length-append (omega arith)),
              (
                rw fanins-back b,
                (rw (table-back h) d, tt),
              ),
            ),
          ),
        ),
      ))

pub gate-back : (s t : Session) (g c : ℕ) (tail : List ℕ) → GateValid s g → t.n ≡ s.n
    → read_gates (suc c) g t (gate_bytes s g ++ tail) ≡ read_gates c (g + 1) (rebuild_gate s t g) tail
unfolding gate_bytes read_gates
gate-back s t g c tail v e =
    let k = arity_of s g in
    let fs = fanins_of s g in
    let tb = get_or s.current g 0 in
    let a = count-e most_fanins k v.arity-fine in
    let z = length-places k _ in
    let b = table_fits k tb a.1 (width-e (2 ^ k) tb v.current-fine) in
    rw (e, record-back k fs tb tail z (s.n + g) v.arity-fine v.fanins-fine b v.current-fine, form-there k fs tb tail z, fanins-back k fs tb tail z, table-back k fs tb tail z b, rest_back k fs tb tail z)
