-- The steps of the loops over outputs and gates. Assumes nothing.
use mathlib.Core.Path.{◌≡◌, sym, ◌∙◌}
use mathlib.Core.List.{List}
use Prim.Native.Nat.{ℕ, suc, ◌+◌, ◌-◌, ◌≤◌, ◌<◌}
use native.Mathlib.Omega.{arith}
use lib.ListN.{length, get_or, take, drop, length-drop}
use lib.Seq.{drop-drop, get_or-drop}
use borrow.Author.Tests.{le-leb, lt-leb}
use Rattle.std.specs.Prelude.{Ok, Err}
use Rattle.network.specs.Answer.{Answer, Done, onward}
use Rattle.network.specs.declared.Session.{Session}
use Rattle.network.specs.declared.Refusal.{Refusal}
use Rattle.network.specs.declared.Refusal.TheVariants.{TrailingBytes}
use Rattle.network.specs.Load.{little_endian, output_record, with_output, read_outputs, form_of, gate_record, with_gate, read_gates}
use Rattle.network.specs.Write.{form_for}
use Rattle.netread.proofs.Steps.{tail-part}
use Rattle.netread.proofs.Records.{on, stop, WholeGate, whole-gate, whole-output}

module _ (rest : List ℕ) (p : ℕ) (u : Session) (at i signals : ℕ) (few : u.n + u.m ≡ signals) where
  output-step : i < p
      → onward (output_record signals (drop at rest)) (read_outputs (p - (i + 1)) (i + 1) (with_output u i (get_or rest (at + 2) 0)) (drop (at + 3) rest))
      ≡ read_outputs (p - i) i u (drop at rest)
  unfolding read_outputs
  output-step h =
      let q : p - i ≡ suc (p - (i + 1)) = omega arith in
      rw (q, few, ← drop-drop 3 at rest, ← get_or-drop at rest 2 0)

  module _ (a : Answer) (e : a ≡ output_record signals (take (length rest - at) (drop at rest))) where
    output-there : output_record signals (drop at rest) ≡ a
    output-there = sym (rw tail-part at e)

    pub output-room : at ≤ length rest → a ≡ Done → at + 3 ≤ length rest
    output-room b z =
        let l = whole-output signals (drop at rest) (output-there ∙ z) in
        let n = length-drop at rest in
        omega arith

    pub output-next : i < p → a ≡ Done
        → read_outputs (p - (i + 1)) (i + 1) (with_output u i (get_or rest (at + 2) 0)) (drop (at + 3) rest) ≡ read_outputs (p - i) i u (drop at rest)
    output-next h z = on (output_record signals (drop at rest)) _ (output-there ∙ z) ∙ output-step h

    pub output-refused : (r : Refusal) → i < p → a ≡ Err r → Err r ≡ read_outputs (p - i) i u (drop at rest)
    output-refused r h z = stop (output_record signals (drop at rest)) r _ (output-there ∙ z) ∙ output-step h

  pub outputs-more : p ≤ i → at < length rest → Err TrailingBytes ≡ read_outputs (p - i) i u (drop at rest)
  unfolding read_outputs
  outputs-more h l =
      let q : p - i ≡ 0 = omega arith in
      let k : 1 ≤ length (drop at rest) = simp length-drop (omega arith) in
      rw (q, le-leb 1 (length (drop at rest)) k)

  pub outputs-done : p ≤ i → length rest ≤ at → Ok u ≡ read_outputs (p - i) i u (drop at rest)
  unfolding read_outputs
  outputs-done h l =
      let q : p - i ≡ 0 = omega arith in
      let k : length (drop at rest) < 1 = simp length-drop (omega arith) in
      rw (q, lt-leb 1 (length (drop at rest)) k)

module _ (rest : List ℕ) (m : ℕ) (u : Session) (at g n : ℕ) (same : u.n ≡ n) where
  -- k of the record that stands at `at`, and the bytes of its table
  abbrev pub arity : ℕ
  arity = get_or (drop at rest) 2 0

  abbrev pub size : ℕ
  size = (form_for arity).bytes

  -- the session with this record
  abbrev pub taken : Session
  taken = with_gate u g arity (take arity (drop 3 (drop at rest))) (little_endian (take size (drop (3 + arity) (drop at rest))))

  gate-step : g < m → form_of (drop at rest) ≡ form_for arity
      → onward (gate_record (n + g) (drop at rest)) (read_gates (m - (g + 1)) (g + 1) taken (drop (at + (3 + arity + size)) rest))
      ≡ read_gates (m - g) g u (drop at rest)
  unfolding read_gates
  gate-step h form =
      let q : m - g ≡ suc (m - (g + 1)) = omega arith in
      rw (q, same, form, ← drop-drop (3 + arity + size) at rest, ← drop-drop size (3 + arity) (drop at rest), ← drop-drop arity 3 (drop at rest))

  module _ (a : Answer) (e : a ≡ gate_record (n + g) (take (length rest - at) (drop at rest))) where
    gate-there : gate_record (n + g) (drop at rest) ≡ a
    gate-there = sym (rw tail-part at e)

    whole : a ≡ Done → WholeGate (drop at rest)
    whole z = whole-gate (n + g) (drop at rest) (gate-there ∙ z)

    -- the record is whole, and what is lent ends with the file
    pub gate-whole : at ≤ length rest → a ≡ Done → WholeGate (take (length rest - at) (drop at rest)) × (at + length (take (length rest - at) (drop at rest)) ≡ length rest)
    gate-whole b z = (rw tail-part (whole z), rw tail-part (simp length-drop (omega arith)))

    pub gate-next : g < m → a ≡ Done
        → read_gates (m - (g + 1)) (g + 1) taken (drop (at + (3 + arity + size)) rest) ≡ read_gates (m - g) g u (drop at rest)
    gate-next h z = on (gate_record (n + g) (drop at rest)) _ (gate-there ∙ z) ∙ gate-step h (whole z).form

    pub gate-refused : (r : Refusal) → g < m → a ≡ Err r → Err r ≡ read_gates (m - g) g u (drop at rest)
    unfolding read_gates
    gate-refused r h z =
        let q : m - g ≡ suc (m - (g + 1)) = omega arith in
        rw (q, same, gate-there ∙ z)

  pub gates-last : m ≤ g → read_outputs u.p 0 u (take (length rest - at) (drop at rest)) ≡ read_gates (m - g) g u (drop at rest)
  unfolding read_gates
  gates-last h =
      let q : m - g ≡ 0 = omega arith in
      rw (q, tail-part)
