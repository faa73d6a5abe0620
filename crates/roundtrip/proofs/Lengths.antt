-- How long what is written and what loads is at the most: 5 bytes for the header, 2 and the set for the excluded record, the longest
-- record for each gate and 3 for each output. Assumes nothing.
use mathlib.Core.Path.{◌≡◌, refl}
use mathlib.Core.List.{List, ◌++◌}
use Prim.Native.Nat.{ℕ, zero, suc, ◌+◌, ◌*◌, ◌≤◌, ◌<◌}
use native.Mathlib.Omega.{arith}
use native.Mathlib.Nat.{min-le_left}
use lib.Dec.{leb}
use lib.ListN.{length, get_or, drop, length-append, length-take, length-drop}
use borrow.Author.Tests.{leb-false}
use Rattle.bits.specs.Bounds.{most_inputs, gate_places}
use Rattle.bits.specs.Lists.{bytes_in}
use Rattle.bits.proofs.Ranges.{by_cases, length-places}
use Rattle.bits.proofs.Bytes.{length-bytes}
use Rattle.std.specs.Prelude.{Ok}
use Rattle.network.specs.declared.Session.{Session}
use Rattle.network.specs.declared.Refusal.TheVariants.{TrailingBytes}
use Rattle.network.specs.Bounds.{most_gates, most_outputs, most_fanins, most_set_bytes, most_gate_bytes, most_file_bytes}
use Rattle.network.specs.Tests.{refuse_if}
use Rattle.network.specs.State.{arity_of, fanins_of}
use Rattle.network.specs.Load.{started, with_output, output_tests, output_record, read_outputs, fanins_in, after_fanins, form_of, table_in, with_gate, gate_tests, gate_record, read_gates, set_bytes, excluded_in, with_excluded, is_excluded, excluded_record, read_body, header_tests, header_record, read_of}
use Rattle.network.specs.Write.{word_bytes, all_zero, header_bytes, excluded_bytes, form_for, gate_bytes, gates_bytes, output_bytes, outputs_bytes, bytes_of}
use Rattle.network.proofs.TestLaws.{clear-e, short-e, count-e, passed, went}
use Rattle.network.proofs.Valid.{valid-e}
use Rattle.network.proofs.Reached.{load_read}
use Rattle.roundtrip.specs.RoundTrip.{WrittenLength, LoadedLength}
use Rattle.roundtrip.proofs.Forms.{bytes_most, gate-most}
use Rattle.roundtrip.proofs.WordsRead.{set-bytes-most}

-- ## Written

module _ (s : Session) where
  gate-length : (g : ℕ) → arity_of s g ≤ most_fanins → length (gate_bytes s g) ≤ most_gate_bytes
  unfolding gate_bytes
  gate-length g h =
      let k = arity_of s g in
      let z = (form_for k).bytes in
      let most = bytes_most k in
      let n = length-append (fanins_of s g) (bytes_in z (get_or s.current g 0)) in
      let f = length-places k (λ r. get_or s.fanins (gate_places * g + r) 0) in
      let b = length-bytes z (get_or s.current g 0) in
      omega arith

  gates-length : (c g : ℕ) → ((j : ℕ) → j < g + c → arity_of s j ≤ most_fanins) → length (gates_bytes s c g) ≤ most_gate_bytes * c
  gates-length zero g few = omega arith
  gates-length (suc c) g few =
      let a = gate-length g (few g (omega arith)) in
      let b = gates-length c (g + 1) (λ j h. few j (omega arith)) in
      let n = length-append (gate_bytes s g) (gates_bytes s c (g + 1)) in
      omega arith

  outputs-length : (c i : ℕ) → length (outputs_bytes s c i) ≡ 3 * c
  unfolding output_bytes
  outputs-length zero i = refl
  outputs-length (suc c) i = let h = outputs-length c (i + 1) in omega arith

  excluded-length : length (excluded_bytes s) ≤ 2 + set_bytes s.n
  unfolding excluded_bytes
  excluded-length =
      let n = length-take (set_bytes s.n) (word_bytes s.excluded) in
      let m = min-le_left (set_bytes s.n) (length (word_bytes s.excluded)) in
      by_cases (all_zero s.excluded) (λ e. rw e (omega arith)) (λ e. rw e (omega arith))

pub written-length : WrittenLength
unfolding bytes_of header_bytes
written-length s h =
    let v = valid-e s h in
    let ex = excluded_bytes s in
    let gs = gates_bytes s s.m 0 in
    let os = outputs_bytes s s.p 0 in
    let z = set-bytes-most s.n (count-e most_inputs s.n v.inputs).1 in
    let mb = count-e most_gates s.m v.gates in
    let pb = count-e most_outputs s.p v.outs in
    let a = excluded-length s in
    let b = gates-length s s.m 0 (λ j l. (count-e most_fanins (arity_of s j) (v.gate j (omega arith)).arity-fine).1) in
    let c = outputs-length s s.p 0 in
    let d = length-append ex (gs ++ os) in
    let e = length-append gs os in
    omega arith

-- ## Loaded

module _ (u : Session) where
  pub outputs-end : (c i : ℕ) (t : Session) (rest : List ℕ) → read_outputs c i t rest ≡ Ok u → length rest ≡ 3 * c
  unfolding read_outputs output_record
  outputs-end zero i t rest h =
      let w = went (refuse_if (leb 1 (length rest)) TrailingBytes) (Ok t) u h in
      let e = leb-false 1 (length rest) (passed (leb 1 (length rest)) TrailingBytes w.0) in
      omega arith
  outputs-end (suc c) i t rest h =
      let t' = with_output t i (get_or rest 2 0) in
      let w = went (output_record (t.n + t.m) rest) (read_outputs c (i + 1) t' (drop 3 rest)) u h in
      let l = short-e 3 rest (clear-e (output_tests (t.n + t.m) rest) w.0).1.0 in
      let r = outputs-end c (i + 1) t' (drop 3 rest) w.1 in
      let d = length-drop 3 rest in
      omega arith

  gates-end : (c g : ℕ) (t : Session) (rest : List ℕ) → read_gates c g t rest ≡ Ok u → length rest ≤ most_gate_bytes * c + 3 * t.p
  unfolding read_gates gate_record
  gates-end zero g t rest h = let e = outputs-end t.p 0 t rest h in omega arith
  gates-end (suc c) g t rest h =
      let k = get_or rest 2 0 in
      let z = (form_of rest).bytes in
      let t' = with_gate t g k (fanins_in rest) (table_in rest) in
      let w = went (gate_record (t.n + g) rest) (read_gates c (g + 1) t' (drop z (after_fanins rest))) u h in
      let b = gate-most rest k (clear-e (gate_tests (form_of rest) (t.n + g) rest) w.0).1.1.0 in
      let r = gates-end c (g + 1) t' (drop z (after_fanins rest)) w.1 in
      let d = length-drop z (after_fanins rest) in
      let e = length-drop k (drop 3 rest) in
      let f = length-drop 3 rest in
      omega arith

  body_end : (t : Session) (rest : List ℕ) → t.n ≤ most_inputs → read_body t rest ≡ Ok u → length rest ≤ 2 + most_set_bytes + most_gate_bytes * t.m + 3 * t.p
  unfolding read_body
  body_end t rest few h =
      let z = set_bytes t.n in
      let most = set-bytes-most t.n few in
      by_cases (is_excluded rest)
      (λ e.
      let t' = with_excluded t (excluded_in t.n rest) in
      let w = went (excluded_record t.n rest) (read_gates t.m 0 t' (drop z (drop 2 rest))) u (rw e at h) in
      let r = gates-end t.m 0 t' (drop z (drop 2 rest)) w.1 in
      let a = length-drop z (drop 2 rest) in
      let b = length-drop 2 rest in
      omega arith)
      (λ e. let r = gates-end t.m 0 t rest (rw e at h) in omega arith)

  read-end : (bytes : List ℕ) → read_of bytes ≡ Ok u → length bytes ≤ most_file_bytes
  unfolding read_of header_record
  read-end bytes h =
      let t = started (get_or bytes 2 0) (get_or bytes 3 0) (get_or bytes 4 0) in
      let w = went (header_record bytes) (read_body t (drop 5 bytes)) u h in
      let q = (clear-e (header_tests bytes) w.0).1.1 in
      let a = count-e most_inputs (get_or bytes 2 0) q.0 in
      let b = count-e most_gates (get_or bytes 3 0) q.1.0 in
      let c = count-e most_outputs (get_or bytes 4 0) q.1.1.0 in
      let r = body_end t (drop 5 bytes) a.1 w.1 in
      let d = length-drop 5 bytes in
      omega arith

pub loaded-length : LoadedLength
loaded-length bytes s h = let l = load_read bytes s h in read-end l.0 bytes l.1
