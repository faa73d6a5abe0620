-- The first most_file_bytes + 1 bytes decide what load answers: each record reads alike from a list and from enough of its front. Assumes nothing.
use mathlib.Core.Path.{◌≡◌, refl, sym, ap, ◌∙◌}
use mathlib.Core.List.{List, [], ◌∷◌}
use Prim.Native.Nat.{ℕ, zero, suc, ◌+◌, ◌*◌, ◌-◌, ◌≤◌, ◌<◌}
use native.Mathlib.Omega.{arith}
use native.Mathlib.Decide.{dec_lt}
use lib.Dec.{leb, ltb}
use lib.ListN.{length, get_or, take, drop}
use lib.Seq.{take_all, take-nil, take-take, get_or-take, length-take-le}
use borrow.Author.Tests.{le-ltb, le-leb}
use Rattle.bits.specs.Bounds.{most_inputs}
use Rattle.std.specs.Prelude.{Ok, Err}
use Rattle.network.specs.Answer.{Answer, Done}
use Rattle.network.specs.declared.Session.{Session}
use Rattle.network.specs.Bounds.{most_gates, most_outputs, most_set_bytes, most_gate_bytes, most_file_bytes}
use Rattle.network.specs.Tests.{or_else, first, length_test, mark_test, range_test}
use Rattle.network.specs.Load.{started, with_output, output_record, read_outputs, fanins_in, after_fanins, GateForm, form_of, table_in, with_gate, gate_tests, gate_record, read_gates, set_bytes, excluded_in, with_excluded, is_excluded, excluded_record, read_body, header_tests, header_record, read_of, load_of}
use Rattle.network.proofs.TestLaws.{clear-e, count-e, onward-ext}
use Rattle.roundtrip.specs.RoundTrip.{Prefix}
use Rattle.roundtrip.proofs.Forms.{gate-most}
use Rattle.roundtrip.proofs.WordsRead.{set-bytes-most}

-- ## The front of a list

pub drop-take : (m n : ℕ) (l : List ℕ) → drop m (take n l) ≡ take (n - m) (drop m l)
drop-take zero n l = let q : n - 0 ≡ n = omega arith in rw q
drop-take (suc m) zero l = let q : 0 - suc m ≡ 0 = omega arith in rw q
drop-take (suc m) (suc n) [] = sym (take-nil (suc n - suc m))
drop-take (suc m) (suc n) (x ∷ l) = let q : suc n - suc m ≡ n - m = omega arith in rw q (drop-take m n l)

module _ (N : ℕ) (l : List ℕ) where
  -- a short list is its front, and a long one's front has N places
  by_length : (P : List ℕ → Type 0) → P l → (N ≤ length l → length (take N l) ≡ N → P (take N l)) → P (take N l)
  by_length P a f = go (dec_lt (length l) N)
    where
      go : Dec (length l < N) → P (take N l)
      go (yes h) = rw (take_all N l (omega arith)) a
      go (no h) = f (omega arith) (length-take-le N l (omega arith))

  pub ltb-cut : (size : ℕ) → size ≤ N → ltb (length (take N l)) size ≡ ltb (length l) size
  ltb-cut size h = by_length (λ x. ltb (length x) size ≡ ltb (length l) size) refl (λ a b. rw (b, le-ltb N size h, le-ltb (length l) size (omega arith)))

  leb-cut : (size : ℕ) → size ≤ N → leb size (length (take N l)) ≡ leb size (length l)
  leb-cut size h = by_length (λ x. leb size (length x) ≡ leb size (length l)) refl (λ a b. rw (b, le-leb size N h, le-leb size (length l) (omega arith)))

  pub mark-cut : (due : ℕ) → 2 ≤ N → mark_test due (take N l) ≡ mark_test due l
  unfolding mark_test
  mark-cut due h = rw (ltb-cut 2 h, get_or-take N l 0 0 (omega arith), get_or-take N l 1 0 (omega arith))

  -- ## One record

  pub output-cut : (signals : ℕ) → 3 ≤ N → output_record signals (take N l) ≡ output_record signals l
  unfolding output_record
  output-cut signals h = rw (mark-cut 0x4E4F (omega arith), ltb-cut 3 h, get_or-take N l 2 0 (omega arith))

  pub excluded-cut : 2 ≤ N → is_excluded (take N l) ≡ is_excluded l
  excluded-cut h = rw (leb-cut 2 h, get_or-take N l 0 0 (omega arith), get_or-take N l 1 0 (omega arith))

  pub form-cut : 2 ≤ N → form_of (take N l) ≡ form_of l
  form-cut h = rw (leb-cut 2 h, get_or-take N l 0 0 (omega arith), get_or-take N l 1 0 (omega arith))

  pub header-cut : 5 ≤ N → header_record (take N l) ≡ header_record l
  unfolding header_record
  header-cut h =
      rw (mark-cut 0x4E49 (omega arith), ltb-cut 5 h, get_or-take N l 2 0 (omega arith), get_or-take N l 3 0 (omega arith), get_or-take N l 4 0 (omega arith))

-- the first k of what stands behind the first m
inner_cut : (N m k : ℕ) (l : List ℕ) → m + k ≤ N → take k (drop m (take N l)) ≡ take k (drop m l)
inner_cut N m k l h = rw (drop-take m N l) (take-take k (N - m) (drop m l) (omega arith))

pub set-cut : (N n : ℕ) (l : List ℕ) → 2 + set_bytes n ≤ N → excluded_record n (take N l) ≡ excluded_record n l
unfolding excluded_record
set-cut N n l h = rw (inner_cut N 2 (set_bytes n) l h, drop-take 2 N l, ltb-cut (N - 2) (drop 2 l) (set_bytes n) (omega arith))

-- the gates behind the set
pub set_next : (N c : ℕ) (t : Session) (l : List ℕ) → 2 + set_bytes t.n ≤ N
    → read_gates c 0 (with_excluded t (excluded_in t.n (take N l))) (drop (set_bytes t.n) (drop 2 (take N l)))
    ≡ read_gates c 0 (with_excluded t (excluded_in t.n l)) (take (N - 2 - set_bytes t.n) (drop (set_bytes t.n) (drop 2 l)))
set_next N c t l h =
    let z = set_bytes t.n in
    rw (inner_cut N 2 z l h, drop-take 2 N l, drop-take z (N - 2) (drop 2 l))

or-ext : (a b b' : Answer) → (a ≡ Done → b ≡ b') → or_else a b ≡ or_else a b'
or-ext (Ok _) b b' f = f refl
or-ext (Err r) b b' f = refl

-- N takes in the whole record where k is within its bounds
gate-tests-cut : (N : ℕ) (l : List ℕ) (f : GateForm) (limit : ℕ) → 3 ≤ N → (range_test f.least f.most (get_or l 2 0) ≡ Done → 3 + get_or l 2 0 + f.bytes ≤ N)
    → first (gate_tests f limit (take N l)) ≡ first (gate_tests f limit l)
gate-tests-cut N l f limit three long =
    let k = get_or l 2 0 in
    rw (mark-cut N l f.opening (omega arith), ltb-cut N l 3 (omega arith), get_or-take N l 2 0 (omega arith))
    (ap (λ (x : Answer). or_else (mark_test f.opening l) (or_else (length_test 3 l) x)) (or-ext (range_test f.least f.most k) _ _ (λ e.
    let b = long e in
    rw (drop-take 3 N l, ltb-cut (N - 3) (drop 3 l) (k + f.bytes) (omega arith), take-take k (N - 3) (drop 3 l) (omega arith), inner_cut (N - 3) k f.bytes (drop 3 l) (omega arith)))))

module _ (N : ℕ) (l : List ℕ) (three : 3 ≤ N) where
  pub gate-cut : (limit : ℕ) → (range_test (form_of l).least (form_of l).most (get_or l 2 0) ≡ Done → 3 + get_or l 2 0 + (form_of l).bytes ≤ N) → gate_record limit (take N l) ≡ gate_record limit l
  unfolding gate_record
  gate-cut limit long = rw (form-cut N l (omega arith)) (gate-tests-cut N l (form_of l) limit three long)

  -- the gate's stores, and what is left behind it
  pub gate-next : (t : Session) (g c : ℕ) → 3 + get_or l 2 0 + (form_of l).bytes ≤ N
      → read_gates c (g + 1) (with_gate t g (get_or (take N l) 2 0) (fanins_in (take N l)) (table_in (take N l))) (drop (form_of (take N l)).bytes (after_fanins (take N l)))
      ≡ read_gates c (g + 1) (with_gate t g (get_or l 2 0) (fanins_in l) (table_in l)) (take (N - 3 - get_or l 2 0 - (form_of l).bytes) (drop (form_of l).bytes (after_fanins l)))
  gate-next t g c b =
      let k = get_or l 2 0 in
      let z = (form_of l).bytes in
      rw (form-cut N l (omega arith), get_or-take N l 2 0 (omega arith), drop-take 3 N l, take-take k (N - 3) (drop 3 l) (omega arith), inner_cut (N - 3) k z (drop 3 l) (omega arith))
      (rw (drop-take k (N - 3) (drop 3 l), drop-take z (N - 3 - k) (drop k (drop 3 l))))

-- ## Record after record

pub output-next : (c N i : ℕ) (t : Session) (l : List ℕ) → 3 ≤ N
    → read_outputs c (i + 1) (with_output t i (get_or (take N l) 2 0)) (drop 3 (take N l)) ≡ read_outputs c (i + 1) (with_output t i (get_or l 2 0)) (take (N - 3) (drop 3 l))
output-next c N i t l h = rw (get_or-take N l 2 0 (omega arith), drop-take 3 N l)

outputs-cut : (c N i : ℕ) (t : Session) (l : List ℕ) → 3 * c + 1 ≤ N → read_outputs c i t (take N l) ≡ read_outputs c i t l
unfolding read_outputs
outputs-cut zero N i t l h = rw (leb-cut N l 1 (omega arith))
outputs-cut (suc c) N i t l h =
    rw (output-cut N l (t.n + t.m) (omega arith))
    (onward-ext (output_record (t.n + t.m) l) _ _ (λ e.
    output-next c N i t l (omega arith) ∙ outputs-cut c (N - 3) (i + 1) (with_output t i (get_or l 2 0)) (drop 3 l) (omega arith)))

gates-cut : (c N g : ℕ) (t : Session) (l : List ℕ) → most_gate_bytes * c + 3 * t.p + 1 ≤ N → read_gates c g t (take N l) ≡ read_gates c g t l
unfolding read_gates gate_record
gates-cut zero N g t l h = outputs-cut t.p N 0 t l (omega arith)
gates-cut (suc c) N g t l h =
    let k = get_or l 2 0 in
    let z = (form_of l).bytes in
    rw (gate-cut N l (omega arith) (t.n + g) (λ e. let b = gate-most l k e in omega arith))
    (onward-ext (gate_record (t.n + g) l) _ _ (λ e.
    let b = gate-most l k (clear-e (gate_tests (form_of l) (t.n + g) l) e).1.1.0 in
    gate-next N l (omega arith) t g c (omega arith)
    ∙ gates-cut c (N - 3 - k - z) (g + 1) (with_gate t g k (fanins_in l) (table_in l)) (drop z (after_fanins l)) (omega arith)))

body-cut : (N : ℕ) (t : Session) (l : List ℕ) → t.n ≤ most_inputs → 2 + most_set_bytes + most_gate_bytes * t.m + 3 * t.p + 1 ≤ N → read_body t (take N l) ≡ read_body t l
unfolding read_body
body-cut N t l few h =
    let z = set_bytes t.n in
    let most = set-bytes-most t.n few in
    rw (excluded-cut N l (omega arith), set-cut N t.n l (omega arith), set_next N t.m t l (omega arith))
    (rw (gates-cut t.m (N - 2 - z) 0 (with_excluded t (excluded_in t.n l)) (drop z (drop 2 l)) (omega arith), gates-cut t.m N 0 t l (omega arith)))

read-cut : (N : ℕ) (l : List ℕ) → most_file_bytes + 1 ≤ N → read_of (take N l) ≡ read_of l
unfolding read_of header_record
read-cut N l h =
    let t = started (get_or l 2 0) (get_or l 3 0) (get_or l 4 0) in
    rw (header-cut N l (omega arith), get_or-take N l 2 0 (omega arith), get_or-take N l 3 0 (omega arith), get_or-take N l 4 0 (omega arith), drop-take 5 N l)
    (onward-ext (header_record l) _ _ (λ e.
    let q = (clear-e (header_tests l) e).1.1 in
    let a = count-e most_inputs (get_or l 2 0) q.0 in
    let b = count-e most_gates (get_or l 3 0) q.1.0 in
    let c = count-e most_outputs (get_or l 4 0) q.1.1.0 in
    body-cut (N - 5) t (drop 5 l) a.1 (omega arith)))

load_cut : (N : ℕ) (l : List ℕ) → most_file_bytes + 1 ≤ N → load_of (take N l) ≡ load_of l
unfolding load_of
load_cut N l h = rw (read-cut N l h)

pub prefix : Prefix
prefix bytes = load_cut (most_file_bytes + 1) bytes (omega arith)
