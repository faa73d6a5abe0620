-- Old records, files and bytes are kept: a record that passes the tests of 01, or fails behind its mark, is not wide. Assumes nothing.
use mathlib.Core.Path.{◌≡◌, refl, ap}
use mathlib.Core.Bool.{◌&&◌}
use mathlib.Core.List.{List, [], ◌∷◌}
use Prim.Native.Nat.{ℕ, zero, suc, ◌+◌, ◌≤◌, ◌<◌}
use native.Mathlib.Omega.{arith}
use lib.Dec.{leb, eqb}
use lib.ListN.{length, get_or, drop}
use borrow.Author.Tests.{le-ltb, le-leb, leb-true, eqb-true}
use Rattle.bits.proofs.Ranges.{and_l, and_r, by_cases}
use Rattle.std.specs.Prelude.{Result, Ok, Err}
use Rattle.network.specs.Answer.{Answer, onward}
use Rattle.network.specs.declared.Refusal.{Refusal}
use Rattle.network.specs.declared.Session.{Session}
use Rattle.network.specs.declared.Refusal.TheVariants.{UnexpectedMark}
use Rattle.network.specs.Refusals.{said}
use Rattle.network.specs.Tests.{first, mark, mark_test}
use Rattle.network.specs.State.{arity_of}
use Rattle.network.specs.Load.{started, fanins_in, after_fanins, narrow, wide, form_of, with_gate, gate_record, read_gates, set_bytes, excluded_in, with_excluded, is_excluded, excluded_record, read_body, header_record, read_of, opening, load_of}
use Rattle.network.specs.Write.{gate_bytes, gates_bytes, bytes_of}
use Rattle.roundtrip.specs.OldFile.{old_table_in, old_gate_tests, old_read_gates, old_read_body, old_read_of, old_load_of, old_gate_bytes, old_gates_bytes, old_bytes_of}
use Rattle.roundtrip.specs.Kept.{OldRecord, OldFiles, OldBytes, OldWritten}

-- ## Records

-- the mark of a wide record opens what is left, or the narrow form is due
by-mark : {P : Type 0} (rest : List ℕ) → ((2 ≤ length rest) × (mark rest ≡ wide.opening) → P) → (form_of rest ≡ narrow → P) → P
by-mark rest f g =
    let a = leb 2 (length rest) in
    let b = eqb (mark rest) wide.opening in
    by_cases (a && b) (λ e. f (leb-true 2 (length rest) (and_l a b e), eqb-true (mark rest) wide.opening (and_r a b e))) (λ e. g (rw e))

narrow-record : (limit : ℕ) (rest : List ℕ) → form_of rest ≡ narrow → gate_record limit rest ≡ first (old_gate_tests limit rest)
unfolding gate_record
narrow-record limit rest e = rw e

pub old-record : OldRecord
old-record limit rest h = by-mark rest (λ w. let z : ⊥ = h w.0 w.1 in absurd z) (narrow-record limit rest)

-- to the reader of 01 a wide record is refusal 2
wide-refused : (limit : ℕ) (rest : List ℕ) → (2 ≤ length rest) × (mark rest ≡ wide.opening) → first (old_gate_tests limit rest) ≡ Err UnexpectedMark
unfolding mark_test
wide-refused limit rest w = rw (le-ltb (length rest) 2 w.0, w.1)

-- ## Files

-- a load that is not refusal 2
abbrev Other : Result Session Refusal → Type 0
Other l = said l ≡ 2 ∷ [] → ⊥

-- what goes on, and is not refusal 2, goes on alike
onward-other : (a : Answer) (old new : Result Session Refusal) → (Other old → new ≡ old) → Other (onward a old) → onward a new ≡ onward a old
onward-other (Ok _) old new f h = f h
onward-other (Err r) old new f h = refl

gates-kept : (c g : ℕ) (t : Session) (rest : List ℕ) → Other (old_read_gates c g t rest) → read_gates c g t rest ≡ old_read_gates c g t rest
unfolding read_gates old_read_gates
gates-kept zero g t rest h = refl
gates-kept (suc c) g t rest h =
    let tests = first (old_gate_tests (t.n + g) rest) in
    let t' = with_gate t g (get_or rest 2 0) (fanins_in rest) (old_table_in rest) in
    let after = drop 2 (after_fanins rest) in
    by-mark rest
    (λ w. let z : ⊥ = h (ap (λ (a : Answer). said (onward a (old_read_gates c (g + 1) t' after))) (wide-refused (t.n + g) rest w)) in absurd z)
    (λ e. rw (narrow-record (t.n + g) rest e, e) (onward-other tests (old_read_gates c (g + 1) t' after) (read_gates c (g + 1) t' after) (gates-kept c (g + 1) t' after) h))

body_kept : (t : Session) (rest : List ℕ) → Other (old_read_body t rest) → read_body t rest ≡ old_read_body t rest
unfolding read_body old_read_body
body_kept t rest h =
    by_cases (is_excluded rest)
    (λ e. rw e (onward-other (excluded_record t.n rest) _ _ (gates-kept t.m 0 (with_excluded t (excluded_in t.n rest)) (drop (set_bytes t.n) (drop 2 rest))) (rw e at h)))
    (λ e. rw e (gates-kept t.m 0 t rest (rw e at h)))

read_kept : (bytes : List ℕ) → Other (old_read_of bytes) → read_of bytes ≡ old_read_of bytes
unfolding read_of old_read_of
read_kept bytes h = onward-other (header_record bytes) _ _ (body_kept (started (get_or bytes 2 0) (get_or bytes 3 0) (get_or bytes 4 0)) (drop 5 bytes)) h

load_kept : (bytes : List ℕ) → Other (old_load_of bytes) → load_of bytes ≡ old_load_of bytes
unfolding load_of old_load_of
load_kept bytes h = rw (read_kept bytes (λ e. h (stop (old_read_of bytes) e)))
  where
    stop : (l : Result Session Refusal) → said l ≡ 2 ∷ [] → said (opening l) ≡ 2 ∷ []
    stop (Ok t) e = e
    stop (Err r) e = e

pub old-files : OldFiles
old-files = (read_kept, load_kept)

-- ## Bytes

pub old-bytes : OldBytes
unfolding gate_bytes old_gate_bytes
old-bytes s g h = rw (le-leb (arity_of s g) narrow.most h)

gates-old : (s : Session) (c g : ℕ) → ((j : ℕ) → j < g + c → arity_of s j ≤ 4) → gates_bytes s c g ≡ old_gates_bytes s c g
gates-old s zero g few = refl
gates-old s (suc c) g few = rw (old-bytes s g (few g (omega arith)), gates-old s c (g + 1) (λ j h. few j (omega arith)))

pub old-written : OldWritten
unfolding bytes_of old_bytes_of
old-written s few = rw (gates-old s s.m 0 (λ j h. few j (omega arith)))
