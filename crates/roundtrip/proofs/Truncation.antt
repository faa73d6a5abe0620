-- A file that loads, cut short anywhere, is refused with 1: what stands before the cut reads as it did, and the cut falls inside a
-- record or where one is due. Assumes nothing.
use mathlib.Core.Path.{◌≡◌, ◌∙◌}
use mathlib.Core.Bool.{false}
use mathlib.Core.List.{List, ◌∷◌}
use Prim.Native.Nat.{ℕ, zero, suc, ◌+◌, ◌-◌, ◌≤◌, ◌<◌}
use native.Mathlib.Omega.{arith}
use lib.Dec.{ltb}
use lib.ListN.{length, get_or, take, drop, length-drop}
use lib.Seq.{get_or-take, length-take-le}
use borrow.Author.Tests.{lt-ltb, lt-leb, ltb-true, ltb-false}
use Rattle.bits.proofs.Ranges.{by_cases}
use Rattle.std.specs.Prelude.{Ok, Err}
use Rattle.network.specs.Answer.{Answer, Done}
use Rattle.network.specs.declared.Session.{Session}
use Rattle.network.specs.declared.Refusal.TheVariants.{Truncated}
use Rattle.network.specs.Bounds.{most_gates}
use Rattle.network.specs.Tests.{first, length_test, mark_test}
use Rattle.network.specs.Load.{started, with_output, output_tests, output_record, read_outputs, fanins_in, after_fanins, form_of, table_in, with_gate, gate_tests, gate_record, read_gates, set_bytes, excluded_in, with_excluded, is_excluded, excluded_record, read_body, header_tests, header_record, read_of, load_of}
use Rattle.network.proofs.TestLaws.{clear-e, count-e, went}
use Rattle.network.proofs.Reached.{load_read}
use Rattle.roundtrip.specs.RoundTrip.{Truncation}
use Rattle.roundtrip.proofs.Lengths.{outputs-end}
use Rattle.roundtrip.proofs.Prefix.{drop-take, ltb-cut, mark-cut, output-cut, excluded-cut, form-cut, header-cut, set-cut, set_next, gate-cut, gate-next, output-next}

-- a cut before place k, or not
before : {P : Type 0} (N k : ℕ) → (N < k → P) → (k ≤ N → P) → P
before N k f g = by_cases (ltb N k) (λ e. f (ltb-true N k e)) (λ e. g (ltb-false N k e))

-- ## One record, cut short

module _ (N : ℕ) (l : List ℕ) (h : N < length l) where
  cut-length : length (take N l) ≡ N
  cut-length = length-take-le N l (omega arith)

  cut_short : (size : ℕ) → N < size → length_test size (take N l) ≡ Err Truncated
  cut_short size b = rw (cut-length, lt-ltb N size b)

  cut-mark : (due : ℕ) → N < 2 → mark_test due (take N l) ≡ Err Truncated
  unfolding mark_test
  cut-mark due b = rw (cut-length, lt-ltb N 2 b)

  -- a record opens with its mark and its length
  cut-front : (due size : ℕ) (tests : List Answer) → mark_test due l ≡ Done → N < size
      → first (mark_test due (take N l) ∷ length_test size (take N l) ∷ tests) ≡ Err Truncated
  cut-front due size tests m b = before N 2 (λ q. rw (cut-mark due q)) (λ q. rw (mark-cut N l due q, m, cut_short size b))

  cut-output : (signals : ℕ) → output_record signals l ≡ Done → N < 3 → output_record signals (take N l) ≡ Err Truncated
  unfolding output_record
  cut-output signals e b = cut-front 0x4E4F 3 (drop 2 (output_tests signals (take N l))) (clear-e (output_tests signals l) e).0 b

  cut-header : header_record l ≡ Done → N < 5 → header_record (take N l) ≡ Err Truncated
  unfolding header_record
  cut-header e b = cut-front 0x4E49 5 (drop 2 (header_tests (take N l))) (clear-e (header_tests l) e).0 b

  cut-excluded : N < 2 → is_excluded (take N l) ≡ false
  cut-excluded b = rw (cut-length, lt-leb 2 N b)

  -- no gate stands in less than two bytes
  cut-gates : (c g : ℕ) (t : Session) → 1 ≤ c → N < 2 → read_gates c g t (take N l) ≡ Err Truncated
  unfolding read_gates gate_record
  cut-gates zero g t a b = let z : ⊥ = omega arith in absurd z
  cut-gates (suc c) g t a b = rw (cut-mark (form_of (take N l)).opening b)

module _ (N : ℕ) (l : List ℕ) (h : N < length l) where
  left_over : (k : ℕ) → k ≤ N → N - k < length (drop k l)
  left_over k b = simp length-drop (omega arith)

  cut-set : (n : ℕ) → 2 ≤ N → N < 2 + set_bytes n → excluded_record n (take N l) ≡ Err Truncated
  unfolding excluded_record
  cut-set n a b = rw (drop-take 2 N l, cut_short (N - 2) (drop 2 l) (left_over 2 a) (set_bytes n) (omega arith))

  cut-gate : (limit : ℕ) → gate_record limit l ≡ Done → N < 3 + get_or l 2 0 + (form_of l).bytes → gate_record limit (take N l) ≡ Err Truncated
  unfolding gate_record
  cut-gate limit e b =
      let f = form_of l in
      let k = get_or l 2 0 in
      let q = clear-e (gate_tests f limit l) e in
      before N 2 (λ a. rw (cut-mark N l h (form_of (take N l)).opening a))
      (λ two. rw (form-cut N l two) (before N 3 (λ a. cut-front N l h f.opening 3 (drop 2 (gate_tests f limit (take N l))) q.0 a)
      (λ a.
      rw (mark-cut N l f.opening two, q.0, ltb-cut N l 3 a, q.1.0, get_or-take N l 2 0 (omega arith), q.1.1.0)
      (rw (drop-take 3 N l, cut_short (N - 3) (drop 3 l) (left_over 3 a) (k + f.bytes) (omega arith))))))

-- ## Record after record

module _ (u : Session) where
  outputs-truncated : (c N i : ℕ) (t : Session) (l : List ℕ) → read_outputs c i t l ≡ Ok u → N < length l
      → read_outputs c i t (take N l) ≡ Err Truncated
  unfolding read_outputs
  outputs-truncated zero N i t l h b = let e = outputs-end u 0 i t l h in let z : ⊥ = omega arith in absurd z
  outputs-truncated (suc c) N i t l h b =
      let signals = t.n + t.m in
      let t' = with_output t i (get_or l 2 0) in
      let w = went (output_record signals l) (read_outputs c (i + 1) t' (drop 3 l)) u h in
      before N 3 (λ a. rw (cut-output N l b signals w.0 a))
      (λ a.
      rw (output-cut N l signals a, w.0)
      (output-next c N i t l a ∙ outputs-truncated c (N - 3) (i + 1) t' (drop 3 l) w.1 (left_over N l b 3 a)))

  gates-truncated : (c N g : ℕ) (t : Session) (l : List ℕ) → read_gates c g t l ≡ Ok u → N < length l
      → read_gates c g t (take N l) ≡ Err Truncated
  unfolding read_gates
  gates-truncated zero N g t l h b = outputs-truncated t.p N 0 t l h b
  gates-truncated (suc c) N g t l h b =
      let k = get_or l 2 0 in
      let limit = t.n + g in
      let z = (form_of l).bytes in
      let rest = drop z (after_fanins l) in
      let t' = with_gate t g k (fanins_in l) (table_in l) in
      let w = went (gate_record limit l) (read_gates c (g + 1) t' rest) u h in
      before N (3 + k + z) (λ a. rw (cut-gate N l b limit w.0 a))
      (λ a.
      let left : N - 3 - k - z < length rest = simp length-drop (omega arith) in
      rw (gate-cut N l (omega arith) limit (λ _. a), w.0)
      (gate-next N l (omega arith) t g c a ∙ gates-truncated c (N - 3 - k - z) (g + 1) t' rest w.1 left))

  body-truncated : (N : ℕ) (t : Session) (l : List ℕ) → 1 ≤ t.m → read_body t l ≡ Ok u → N < length l
      → read_body t (take N l) ≡ Err Truncated
  unfolding read_body
  body-truncated N t l some h b =
      let z = set_bytes t.n in
      let t' = with_excluded t (excluded_in t.n l) in
      let rest = drop z (drop 2 l) in
      before N 2 (λ a. rw (cut-excluded N l b a) (cut-gates N l b t.m 0 t some a))
      (λ a. rw (excluded-cut N l a) (by_cases (is_excluded l)
      (λ e.
      let w = went (excluded_record t.n l) (read_gates t.m 0 t' rest) u (rw e at h) in
      before N (2 + z) (λ c. rw (e, cut-set N l b t.n a c))
      (λ c.
      let left : N - 2 - z < length rest = simp length-drop (omega arith) in
      rw (e, set-cut N t.n l c, w.0) (set_next N t.m t l c ∙ gates-truncated t.m (N - 2 - z) 0 t' rest w.1 left)))
      (λ e. rw e (gates-truncated t.m N 0 t l (rw e at h) b))))

  read-truncated : (N : ℕ) (l : List ℕ) → read_of l ≡ Ok u → N < length l → read_of (take N l) ≡ Err Truncated
  unfolding read_of header_record
  read-truncated N l h b =
      let t = started (get_or l 2 0) (get_or l 3 0) (get_or l 4 0) in
      let w = went (header_record l) (read_body t (drop 5 l)) u h in
      let some = count-e most_gates (get_or l 3 0) (clear-e (header_tests l) w.0).1.1.1.0 in
      before N 5 (λ a. rw (cut-header N l b w.0 a))
      (λ a.
      rw (header-cut N l a, w.0, get_or-take N l 2 0 (omega arith), get_or-take N l 3 0 (omega arith), get_or-take N l 4 0 (omega arith), drop-take 5 N l)
      (body-truncated (N - 5) t (drop 5 l) some.0 w.1 (left_over N l b 5 a)))

pub truncation : Truncation
unfolding load_of
truncation bytes s i h b = let r = load_read bytes s h in rw (read-truncated r.0 i bytes r.1 b)
