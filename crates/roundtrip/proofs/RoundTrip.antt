-- Written and read again is the same network. Assumes nothing.
use mathlib.Core.Path.{◌≡◌, refl, ap, ◌∙◌}
use mathlib.Core.Bool.{Bool, true, false}
use mathlib.Core.List.{List, ◌∷◌, ◌++◌, append_assoc}
use Prim.Native.Nat.{ℕ, zero, suc, ◌+◌, ◌*◌, ◌%◌, ◌^◌, ◌≤◌, ◌<◌}
use native.Mathlib.Omega.{arith}
use lib.Dec.{eqb}
use lib.ListN.{length, take, length-append}
use lib.Seq.{take_at, drop_at, length-take-le}
use borrow.Author.Tests.{le-leb}
use Rattle.bits.specs.Bounds.{most_inputs, gate_places}
use Rattle.std.specs.Prelude.{Result, Ok}
use Rattle.network.specs.Answer.{Done}
use Rattle.network.specs.declared.Refusal.{Refusal}
use Rattle.network.specs.declared.Session.{Session}
use Rattle.network.specs.Bounds.{most_gates, most_outputs, most_fanins, excluded_words}
use Rattle.network.specs.Flat.{loaded_net, current_net}
use Rattle.network.specs.Tests.{excluded_test}
use Rattle.network.specs.State.{arity_of}
use Rattle.network.specs.Valid.{Shaped}
use Rattle.network.specs.Load.{started, words_from, set_bytes, is_excluded, with_excluded, excluded_tests, excluded_record, header_tests, header_record, read_outputs, read_gates, read_body, read_of, opened, load_of}
use Rattle.network.specs.Write.{word_bytes, all_zero, header_bytes, excluded_bytes, gate_bytes, gates_bytes, outputs_bytes, bytes_of}
use Rattle.network.proofs.Bytes.{length-words}
use Rattle.network.proofs.TestLaws.{clear-i, short-i, mark-i, count-e}
use Rattle.network.proofs.Valid.{Valid, valid-e}
use Rattle.network.proofs.Slots.{sized-started}
use Rattle.network.proofs.Reached.{load-back, opened-loaded, opened-current}
use Rattle.roundtrip.specs.RoundTrip.{Returns, RoundTrip}
use Rattle.roundtrip.proofs.Rebuilt.{Rebuilt, rebuild_gate, rebuild_output, rebuild-gate, rebuild-output, same-net}
use Rattle.roundtrip.proofs.WordsRead.{within, holds, words_back, zeros, set-bytes-most}
use Rattle.roundtrip.proofs.Forms.{form-cases}
use Rattle.roundtrip.proofs.GatesRead.{gate-back}
use Rattle.roundtrip.proofs.OutputsRead.{output-back}

-- a gate's bytes open no excluded record
no-set : (s : Session) (c : ℕ) (tail : List ℕ) → 1 ≤ c → is_excluded (gates_bytes s c 0 ++ tail) ≡ false
unfolding gate_bytes
no-set s zero tail h = let z : ⊥ = omega arith in absurd z
no-set s (suc c) tail h =
    rw (le-leb 2 (length (gate_bytes s 0 ++ gates_bytes s c 1 ++ tail)) (omega arith))
    (form-cases (λ f. eqb (0x4E * 256 + f.opening % 256) 0x4E58 ≡ false) (arity_of s 0) (λ l. refl) (λ l. refl))

set-record : (n : ℕ) (xs ws : List ℕ) → set_bytes n ≤ length xs → words_from excluded_words (take (set_bytes n) xs) ≡ ws → excluded_test n ws ≡ Done
    → excluded_record n (0x4E ∷ 0x58 ∷ xs) ≡ Done
unfolding excluded_record
set-record n xs ws l e h = clear-i (excluded_tests n (0x4E ∷ 0x58 ∷ xs)) (short-i (set_bytes n) xs l, (rw e h, tt))

module _ (s : Session) (shape : Shaped s) (v : Valid s) where
  -- ## Header and excluded set

  abbrev header : Session
  header = started s.n s.m s.p

  header-back : (rest : List ℕ) → header_record (header_bytes s ++ rest) ≡ Done
  unfolding header_record header_bytes
  header-back rest =
      let all : List ℕ = 0x4E ∷ 0x49 ∷ s.n ∷ s.m ∷ s.p ∷ rest in
      clear-i (header_tests all) (
        mark-i 0x4E49 all (omega arith) refl,
        (short-i 5 all (omega arith), (v.inputs, (v.gates, (v.outs, tt)))),
      )

  body_back : (b : Bool) (rest : List ℕ) → all_zero s.excluded ≡ b → is_excluded rest ≡ false
      → read_body header (excluded_bytes s ++ rest) ≡ read_gates s.m 0 (with_excluded header s.excluded) rest
  unfolding read_body excluded_bytes
  body_back true rest e x =
      let z = zeros s.excluded e in
      let w = shape.sized.words in
      rw (e, x) (rw (z, w))
  body_back false rest e x =
      let n = s.n in
      let ws = s.excluded in
      let z = set_bytes n in
      let b = count-e most_inputs n v.inputs in
      let most = set-bytes-most n b.1 in
      let len : length (take z (word_bytes ws)) ≡ z = length-take-le z (word_bytes ws) (rw (length-words ws, shape.sized.words) (omega arith)) in
      let tk = take_at (take z (word_bytes ws)) rest z len in
      let dr = drop_at (take z (word_bytes ws)) rest z len in
      let wd : words_from excluded_words (take z (word_bytes ws)) ≡ ws =
      rw shape.sized.words at (words_back ws (2 ^ n) z (within n ws shape.sized.words shape.wide v.set-fine) (holds n)) in
      let all = 0x4E ∷ 0x58 ∷ take z (word_bytes ws) ++ rest in
      let long : z ≤ length (take z (word_bytes ws) ++ rest) = simp length-append (omega arith) in
      let ok = set-record n (take z (word_bytes ws) ++ rest) ws long (rw tk wd) v.set-fine in
      rw (e, le-leb 2 (length all) (omega arith), ok, tk, wd, dr)

  read_back : read_of (bytes_of s) ≡ read_gates s.m 0 (with_excluded header s.excluded) (gates_bytes s s.m 0 ++ outputs_bytes s s.p 0)
  unfolding read_of bytes_of header_bytes
  read_back =
      let rest = gates_bytes s s.m 0 ++ outputs_bytes s s.p 0 in
      let ok = header-back (excluded_bytes s ++ rest) in
      rw ok (body_back (all_zero s.excluded) rest refl (no-set s s.m (outputs_bytes s s.p 0) (count-e most_gates s.m v.gates).0))

  -- ## Gates and outputs

  -- a load that gives all of s
  abbrev Got : Result Session Refusal → Type 0
  Got l = (t : Session) × (l ≡ Ok t) × Rebuilt s t s.m s.p

  got : {l l' : Result Session Refusal} → l ≡ l' → Got l' → Got l
  got e g = (g.0, e ∙ g.1, g.2)

  outputs-back : (c i : ℕ) (t : Session) → i + c ≡ s.p → Rebuilt s t s.m i → Got (read_outputs c i t (outputs_bytes s c i))
  unfolding read_outputs
  outputs-back zero i t e l = let q : i ≡ s.p = omega arith in (t, refl, rw q at l)
  outputs-back (suc c) i t e l =
      let b = count-e most_outputs s.p v.outs in
      got (output-back s t i c (outputs_bytes s c (i + 1)) (v.output i (omega arith)) l.n-same l.m-same)
      (outputs-back c (i + 1) (rebuild_output s t i) (omega arith) (rebuild-output s t s.m i (omega arith) l))

  few : (j : ℕ) → j < s.m → arity_of s j ≤ gate_places
  few j h = let a = count-e most_fanins (arity_of s j) (v.gate j h).arity-fine in omega arith

  gates-back : (c g : ℕ) (t : Session) → g + c ≡ s.m → Rebuilt s t g 0 → Got (read_gates c g t (gates_bytes s c g ++ outputs_bytes s s.p 0))
  unfolding read_gates
  gates-back zero g t e l =
      let q : g ≡ s.m = omega arith in
      got (ap (λ (p : ℕ). read_outputs p 0 t (outputs_bytes s s.p 0)) l.p-same) (outputs-back s.p 0 t (omega arith) (rw q at l))
  gates-back (suc c) g t e l =
      let b = count-e most_gates s.m v.gates in
      got
      (ap (read_gates (suc c) g t) (append_assoc (gate_bytes s g) (gates_bytes s c (g + 1)) (outputs_bytes s s.p 0))
      ∙ gate-back s t g c (gates_bytes s c (g + 1) ++ outputs_bytes s s.p 0) (v.gate g (omega arith)) l.n-same)
      (gates-back c (g + 1) (rebuild_gate s t g) (omega arith) (rebuild-gate s t g (omega arith) (λ j h. few j (omega arith)) l))

  back : Got (read_of (bytes_of s))
  back =
      got read_back (gates-back s.m 0 (with_excluded header s.excluded) (omega arith) (record {
        n-same = refl;
        m-same = refl;
        p-same = refl;
        excluded-same = refl;
        sized = sized-started s.n s.m s.p s.excluded shape.sized.words;
        gate = λ j h. let z : ⊥ = omega arith in absurd z;
        output = λ j h. let z : ⊥ = omega arith in absurd z;
      }))

  reads : Returns read_of s
  unfolding loaded_net current_net
  reads =
      let l = back.2 in
      record {
        session = back.0;
        reads = back.1;
        loaded = same-net s back.0 back.0.loaded l (λ j h. (l.gate j h).loaded-is);
        current = same-net s back.0 back.0.current l (λ j h. (l.gate j h).current-is);
      }

  loads : Returns load_of s
  loads =
      let t = reads.session in
      record {
        session = opened t;
        reads = load-back (bytes_of s) t reads.reads;
        loaded = opened-loaded t ∙ reads.loaded;
        current = opened-current t ∙ reads.current;
      }

pub round_trip : RoundTrip
round_trip s shape h = (reads s shape (valid-e s h), loads s shape (valid-e s h))
