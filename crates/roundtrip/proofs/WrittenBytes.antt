-- What is written of a valid session are bytes. Assumes nothing.
use mathlib.Core.Path.{◌≡◌}
use mathlib.Core.Bool.{Bool, true, false, cond}
use mathlib.Core.List.{List, [], ◌∷◌, ◌++◌}
use Prim.Native.Nat.{ℕ, zero, suc, ◌+◌, ◌*◌, ◌/◌, ◌<◌, ◌≤◌}
use native.Mathlib.Omega.{arith}
use native.Mathlib.Nat.{mod-lt}
use lib.ListN.{get_or, take}
use Rattle.bits.specs.Bounds.{most_inputs, gate_places}
use Rattle.bits.specs.Range.{places}
use Rattle.bits.specs.Lists.{Bytes, bytes_in}
use Rattle.network.specs.Answer.{Done}
use Rattle.network.specs.declared.Session.{Session}
use Rattle.network.specs.Bounds.{most_gates, most_outputs}
use Rattle.network.specs.State.{arity_of, fanins_of, state_fault}
use Rattle.network.specs.Load.{set_bytes}
use Rattle.network.specs.Write.{word_bytes, all_zero, header_bytes, excluded_bytes, form_for, gate_bytes, gates_bytes, output_bytes, outputs_bytes, bytes_of}
use Rattle.network.proofs.TestLaws.{count-e}
use Rattle.network.proofs.Valid.{valid-e, net-ok, outputs-ok}
use Rattle.roundtrip.specs.RoundTrip.{WrittenBytes}

abbrev Small : List ℕ → Type 0
Small [] = Unit {0}
Small (b ∷ bs) = (b < 256) × Small bs

small-e : (l : List ℕ) → Small l → Bytes l
small-e [] h i = omega arith
small-e (b ∷ bs) h zero = h.0
small-e (b ∷ bs) h (suc i) = small-e bs h.1 i

small-append : (l m : List ℕ) → Small l → Small m → Small (l ++ m)
small-append [] m h k = k
small-append (b ∷ bs) m h k = (h.0, small-append bs m h.1 k)

small-take : (n : ℕ) (l : List ℕ) → Small l → Small (take n l)
small-take zero l h = tt
small-take (suc n) [] h = tt
small-take (suc n) (b ∷ bs) h = (h.0, small-take n bs h.1)

small-places : (n : ℕ) (p : ℕ → ℕ) → ((i : ℕ) → i < n → p i < 256) → Small (places n p)
small-places zero p h = tt
small-places (suc n) p h = small-append (places n p) (p n ∷ []) (small-places n p (λ i l. h i (omega arith))) (h n (omega arith), tt)

small-number : (c x : ℕ) → Small (bytes_in c x)
small-number zero x = tt
small-number (suc c) x = (mod-lt x (omega arith), small-number c (x / 256))

small-words : (ws : List ℕ) → Small (word_bytes ws)
small-words [] = tt
small-words (w ∷ ws) = small-append (bytes_in 8 w) (word_bytes ws) (small-number 8 w) (small-words ws)

small-either : (b : Bool) (l : List ℕ) → Small l → Small (cond b [] l)
small-either true l h = tt
small-either false l h = h

module _ (s : Session) (valid : state_fault s ≡ Done) where
  small-excluded : Small (excluded_bytes s)
  unfolding excluded_bytes
  small-excluded =
      small-either (all_zero s.excluded) (0x4E ∷ 0x58 ∷ take (set_bytes s.n) (word_bytes s.excluded))
      (omega arith, (omega arith, small-take (set_bytes s.n) (word_bytes s.excluded) (small-words s.excluded)))

  small-gate : (g : ℕ) → g < s.m → Small (gate_bytes s g)
  unfolding gate_bytes
  small-gate g h =
      let n = net-ok s valid in
      let k = n.gate g h in
      let a = n.ins in
      let b = n.most in
      let f = form_for (arity_of s g) in (
        omega arith,
        (
          mod-lt f.opening (omega arith),
          (
            omega (arith, k.few),
            small-append (fanins_of s g) (bytes_in f.bytes (get_or s.current g 0)) (small-places (arity_of s g) (λ r. get_or s.fanins (gate_places * g + r) 0) (λ r l. omega (arith, k.early r l))) (small-number f.bytes (get_or s.current g 0)),
          ),
        ),
      )

  small-gates : (c g : ℕ) → g + c ≤ s.m → Small (gates_bytes s c g)
  small-gates zero g h = tt
  small-gates (suc c) g h = small-append (gate_bytes s g) (gates_bytes s c (g + 1)) (small-gate g (omega arith)) (small-gates c (g + 1) (omega arith))

  small-outputs : (c i : ℕ) → i + c ≤ s.p → Small (outputs_bytes s c i)
  unfolding output_bytes
  small-outputs zero i h = tt
  small-outputs (suc c) i h =
      let n = net-ok s valid in
      let a = n.ins in
      let b = n.most in
      let o = (outputs-ok s valid).each i (omega arith) in
      (omega arith, (omega arith, (omega arith, small-outputs c (i + 1) (omega arith))))

  all_small : Bytes (bytes_of s)
  unfolding bytes_of header_bytes
  all_small =
      let v = valid-e s valid in
      let n = (count-e most_inputs s.n v.inputs).1 in
      let m = (count-e most_gates s.m v.gates).1 in
      let p = (count-e most_outputs s.p v.outs).1 in
      small-e (bytes_of s) (
        omega arith,
        (
          omega arith,
          (
            omega arith,
            (
              omega arith,
              (
                omega arith,
                small-append (excluded_bytes s) (gates_bytes s s.m 0 ++ outputs_bytes s s.p 0) small-excluded
                    (small-append (gates_bytes s s.m 0) (outputs_bytes s s.p 0) (small-gates s.m 0 (omega arith)) (small-outputs s.p 0 (omega arith))),
              ),
            ),
          ),
        ),
      )

pub written-bytes : WrittenBytes
written-bytes s valid = all_small s valid
