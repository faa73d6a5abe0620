-- The network that goes out: its copies, its outputs, and every value of the network it came from. Assumes nothing.
use mathlib.Core.Path.{◌≡◌, refl, sym, ap, ap₂, ◌∙◌, subst}
use mathlib.Core.Bool.{Bool, true, false, cond, false≢true}
use mathlib.Core.List.{List, [], ◌∷◌, ◌++◌, append_assoc, append-nil}
use Prim.Native.Nat.{ℕ, zero, suc, ◌+◌, ◌*◌, ◌≤◌, ◌<◌}
use native.Mathlib.Omega.{arith}
use lib.Dec.{ltb, eqb}
use lib.ListN.{length, get_or, take, replicate, length-append}
use lib.Seq.{take_at, get_or_at, get_or-take, length-take-le}
use borrow.Author.Tests.{ltb-false, le-ltb, eq-eqb, ne_eqb}
use Rattle.bits.specs.Range.{num, places}
use Rattle.bits.specs.Bit.{bit}
use Rattle.bits.proofs.Ranges.{lt-cases, length-places, places-at, places-ext, or-false}
use Rattle.network.specs.Bounds.{excluded_words}
use Rattle.network.specs.Net.{Gate, Net, entry, run, values}
use Rattle.network.specs.Tests.{member}
use Rattle.network.proofs.FlatGates.{length_run}
use Rattle.network.proofs.Slots.{places-get}
use Rattle.network.proofs.Earlier.{run-keep}
use Rattle.blif.specs.Write.{signal_of, needs_copy, copy_of, copies, out_signal, outgoing}
use Rattle.bliftrip.specs.Trip.{Survives}
use Rattle.bliftrip.proofs.Names.{Different}

-- ## Lists

-- what is no member stands nowhere
pub member-e : (x : ℕ) (l : List ℕ) → member x l ≡ false → (i : ℕ) → i < length l → get_or l i 0 ≡ x → ⊥
member-e x [] h i l e = omega arith
member-e x (y ∷ ys) h zero l e = absurd (false≢true (sym (or-false (eqb y x) (member x ys) h).0 ∙ eq-eqb y x e))
member-e x (y ∷ ys) h (suc i) l e = member-e x ys (or-false (eqb y x) (member x ys) h).1 i (omega arith) e

pub member-i : (x : ℕ) (l : List ℕ) → ((i : ℕ) → i < length l → get_or l i 0 ≡ x → ⊥) → member x l ≡ false
member-i x [] f = refl
member-i x (y ∷ ys) f = rw (ne_eqb y x (f 0 (omega arith))) (member-i x ys (λ i h. f (suc i) (omega arith)))

-- ## The copies

-- those of more outputs start with those of fewer
copies-from : (N : Net) (i p : ℕ) → i ≤ p → (more : List Gate) × (copies N p ≡ copies N i ++ more)
copies-from N i zero h = let q : i ≡ 0 = omega arith in rw q ([], refl)
copies-from N i (suc p) h =
    lt-cases i (suc p) (omega arith)
    (λ l.
    let r = copies-from N i p (omega arith) in
    let c = cond (needs_copy N p) (copy_of (signal_of N p) ∷ []) [] in
    (r.0 ++ c, ap (λ (x : List Gate). x ++ c) r.1 ∙ append_assoc (copies N i) r.0 c))
    (λ e. rw e ([], sym (append-nil (copies N (suc p)))))

-- an output that needs a copy has it behind those of the outputs before it
copy-from : (N : Net) (i p : ℕ) → i < p → needs_copy N i ≡ true → (more : List Gate) × (copies N p ≡ copies N i ++ copy_of (signal_of N i) ∷ more)
copy-from N i p h c =
    let r = copies-from N (suc i) p h in
    let g = copy_of (signal_of N i) in
    let e : copies N (suc i) ≡ copies N i ++ g ∷ [] = rw c in
    (r.0, r.1 ∙ ap (λ (x : List Gate). x ++ r.0) e ∙ append_assoc (copies N i) (g ∷ []) r.0)

length-copies : (N : Net) (i p : ℕ) → i < p → needs_copy N i ≡ true → length (copies N i) < length (copies N p)
length-copies N i p h c =
    let r = copy-from N i p h c in
    let e = ap length r.1 in
    let a = length-append (copies N i) (copy_of (signal_of N i) ∷ r.0) in
    omega arith

-- ## Values

run-append : (vs : List Bool) (gs hs : List Gate) → run vs (gs ++ hs) ≡ run (run vs gs) hs
run-append vs [] hs = refl
run-append vs (g ∷ gs) hs = run-append (vs ++ bit g.table (entry vs g) ∷ []) gs hs

bit-of-copy : (b : Bool) → bit 2 (num b + 2 * 0) ≡ b
unfolding bit
bit-of-copy true = refl
bit-of-copy false = refl

copy-value : (vs : List Bool) (s : ℕ) → bit 2 (entry vs (copy_of s)) ≡ get_or vs s false
unfolding entry
copy-value vs s = bit-of-copy (get_or vs s false)

-- behind the gates gs, a copy of a signal that they stand behind has its value
copied : (vs : List Bool) (gs more : List Gate) (s : ℕ) → s < length vs → get_or (run vs (gs ++ copy_of s ∷ more)) (length vs + length gs) false ≡ get_or vs s false
copied vs gs more s h =
    let us = run vs gs in
    let n = length_run gs vs in
    let v = bit 2 (entry us (copy_of s)) in
    let l = length-append us (v ∷ []) in
    ap (λ (x : List Bool). get_or x (length vs + length gs) false) (run-append vs gs (copy_of s ∷ more))
    ∙ run-keep more (us ++ v ∷ []) (length vs + length gs) (omega arith)
    ∙ get_or_at us v [] false (length vs + length gs) n
    ∙ copy-value us s
    ∙ run-keep gs vs s h

-- the outputs of a network are signals of it
abbrev pub OutsIn : Net → Type 0
OutsIn N = (i : ℕ) → i < length N.outputs → signal_of N i < N.inputs + length N.gates

module _ (N : Net) (outs : OutsIn N) where
  abbrev out : ℕ
  out = length N.outputs

  length-values : (x : ℕ) → length (values N x) ≡ N.inputs + length N.gates
  unfolding values
  length-values x = length_run N.gates (places N.inputs (bit x)) ∙ ap (λ (n : ℕ). n + length N.gates) (length-places N.inputs (bit x))

  values-out : (x : ℕ) → values (outgoing N) x ≡ run (values N x) (copies N out)
  unfolding values outgoing
  values-out x = run-append (places N.inputs (bit x)) N.gates (copies N out)

  signal-value : (x i : ℕ) → i < out → (c : Bool) → needs_copy N i ≡ c
      → get_or (run (values N x) (copies N out)) (cond c (N.inputs + length (N.gates ++ copies N i)) (signal_of N i)) false ≡ get_or (values N x) (signal_of N i) false
  signal-value x i h true c =
      let r = copy-from N i out h c in
      let n = length-values x in
      let o = outs i h in
      let q : N.inputs + length (N.gates ++ copies N i) ≡ length (values N x) + length (copies N i) = simp length-append (omega arith) in
      ap₂ (λ (gs : List Gate) (s : ℕ). get_or (run (values N x) gs) s false) r.1 q
      ∙ copied (values N x) (copies N i) r.0 (signal_of N i) (omega arith)
  signal-value x i h false c = let n = length-values x in let o = outs i h in run-keep (copies N out) (values N x) (signal_of N i) (omega arith)

  signal-out : (i : ℕ) → i < out → get_or (outgoing N).outputs i 0 ≡ out_signal N i
  unfolding outgoing
  signal-out i h = places-at 0 out (out_signal N) i h

  outs-length : length (outgoing N).outputs ≡ out
  unfolding outgoing
  outs-length = length-places out (out_signal N)

  pub survives : Survives N (outgoing N)
  unfolding outgoing
  survives = record {
    inputs = refl;
    gates = take_at N.gates (copies N out) (length N.gates) refl;
    outputs = outs-length;
    values = λ x i h. ap₂ (λ (vs : List Bool) (s : ℕ). get_or vs s false) (values-out x) (signal-out i h) ∙ signal-value x i h (needs_copy N i) refl;
  }

  -- ## Every output is a gate of its own

  -- copied or not: from the first gate on, and below the last copy
  out-bounds : (i : ℕ) → i < out → (c : Bool) → needs_copy N i ≡ c
      → (N.inputs ≤ cond c (N.inputs + length (N.gates ++ copies N i)) (signal_of N i))
      × (cond c (N.inputs + length (N.gates ++ copies N i)) (signal_of N i) < N.inputs + length (N.gates ++ copies N out))
  out-bounds i h true c =
      let l = length-copies N i out h c in
      let a = length-append N.gates (copies N i) in
      let b = length-append N.gates (copies N out) in
      (omega arith, omega arith)
  out-bounds i h false c =
      let e = or-false (ltb (signal_of N i) N.inputs) (member (signal_of N i) (take i N.outputs)) c in
      let l = ltb-false (signal_of N i) N.inputs e.0 in
      let o = outs i h in
      let b = length-append N.gates (copies N out) in
      (l, omega arith)

  -- an output without a copy differs from all before it
  first-there : (i j : ℕ) → i < j → j < out → needs_copy N j ≡ false → signal_of N i ≡ signal_of N j → ⊥
  first-there i j h k c e =
      let m = (or-false (ltb (signal_of N j) N.inputs) (member (signal_of N j) (take j N.outputs)) c).1 in
      let n = length-take-le j N.outputs (omega arith) in
      member-e (signal_of N j) (take j N.outputs) m i (omega arith) (get_or-take j N.outputs i 0 h ∙ e)

  outs-apart : (i j : ℕ) → i < j → j < out → (a b : Bool) → needs_copy N i ≡ a → needs_copy N j ≡ b
      → cond a (N.inputs + length (N.gates ++ copies N i)) (signal_of N i) ≡ cond b (N.inputs + length (N.gates ++ copies N j)) (signal_of N j) → ⊥
  outs-apart i j h k true true p q e =
      let l = length-copies N i j h p in
      let x = length-append N.gates (copies N i) in
      let y = length-append N.gates (copies N j) in
      omega arith
  outs-apart i j h k true false p q e = let x = length-append N.gates (copies N i) in let o = outs j k in omega arith
  outs-apart i j h k false true p q e = let y = length-append N.gates (copies N j) in let o = outs i (omega arith) in omega arith
  outs-apart i j h k false false p q e = first-there i j h k q e

  pub apart_out : Different (outgoing N).outputs
  apart_out i j h k e =
      let n = outs-length in
      outs-apart i j h (omega arith) (needs_copy N i) (needs_copy N j) refl refl (sym (signal-out i (omega arith)) ∙ e ∙ signal-out j (omega arith))

  pub bounds-out : (i : ℕ) → i < length (outgoing N).outputs
      → (N.inputs ≤ get_or (outgoing N).outputs i 0) × (get_or (outgoing N).outputs i 0 < N.inputs + length (outgoing N).gates)
  unfolding outgoing
  bounds-out i h =
      let n = outs-length in
      let b = out-bounds i (omega arith) (needs_copy N i) refl in
      let e = signal-out i (omega arith) in
      (subst (λ (s : ℕ). N.inputs ≤ s) (sym e) b.0, subst (λ (s : ℕ). s < N.inputs + length (N.gates ++ copies N out)) (sym e) b.1)

-- ## A network whose outputs are gates of their own goes out as it is

module _ (M : Net) (gates-only : (i : ℕ) → i < length M.outputs → M.inputs ≤ signal_of M i) (apart : Different M.outputs) where
  no_copy : (i : ℕ) → i < length M.outputs → needs_copy M i ≡ false
  no_copy i h =
      let n = length-take-le i M.outputs (omega arith) in
      let m : member (signal_of M i) (take i M.outputs) ≡ false =
      member-i (signal_of M i) (take i M.outputs) (λ j l e. apart j i (omega arith) h (sym (get_or-take i M.outputs j 0 (omega arith)) ∙ e)) in
      rw (le-ltb (signal_of M i) M.inputs (gates-only i h), m)

  no_copies : (i : ℕ) → i ≤ length M.outputs → copies M i ≡ []
  no_copies zero h = refl
  no_copies (suc i) h = rw (no_copy i (omega arith)) (append-nil (copies M i) ∙ no_copies i (omega arith))

  out-same : (i : ℕ) → i < length M.outputs → out_signal M i ≡ signal_of M i
  out-same i h = rw (no_copy i h)

  outgoing-same : M.excluded ≡ replicate excluded_words 0 → outgoing M ≡ M
  unfolding outgoing
  outgoing-same free =
      let p = length M.outputs in
      let gs : M.gates ++ copies M p ≡ M.gates = rw (no_copies p (omega arith)) (append-nil M.gates) in
      let os : places p (out_signal M) ≡ M.outputs = places-ext p (out_signal M) (signal_of M) out-same ∙ places-get M.outputs in
      rw (gs, os, ← free)

-- what has gone out goes out as it is
pub outgoing-twice : (N : Net) → OutsIn N → outgoing (outgoing N) ≡ outgoing N
unfolding outgoing
outgoing-twice N outs = outgoing-same (outgoing N) (λ i h. (bounds-out N outs i h).0) (apart_out N outs) refl
