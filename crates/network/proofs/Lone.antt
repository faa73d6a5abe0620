-- Rule 4's second sentence: a lone replacement is harmless exactly when it alters only entries of the full table; of one network, and
-- of a session whose outputs are the loaded ones. Assumes nothing.
use mathlib.Core.Path.{◌≡◌, refl, sym, ap, ◌∙◌}
use mathlib.Core.Logic.{◌↔◌}
use mathlib.Core.Bool.{Bool, true, false, not, ◌&&◌, ◌||◌, beq}
use mathlib.Core.List.{List, [], ◌∷◌, ◌++◌}
use Prim.Native.Nat.{ℕ, zero, suc, ◌+◌, ◌-◌, ◌^◌, ◌<◌}
use native.Mathlib.Nat.{not-suc-le-zero}
use native.Mathlib.Omega.{arith}
use lib.Dec.{eqb}
use lib.ListN.{length, get_or, set, length-append}
use borrow.Author.Tests.{eqb-true, eq-eqb, ne_eqb, not-true, not-false}
use Rattle.bits.specs.Range.{◌⇒◌, places, every}
use Rattle.bits.specs.Bit.{bit, differs}
use Rattle.bits.proofs.Ranges.{by_cases, every-e, every-i, length-places, bit-table}
use Rattle.bits.proofs.Logic.{imp-e, imp-i, beq-comm, differs-e}
use Rattle.network.specs.declared.Session.{Session}
use Rattle.network.specs.Answer.{Done}
use Rattle.network.specs.Net.{Gate, Net, arity, is_gate, no_gate, gate, entries, patterns, excluded, excluded_for, entry, run, values, output, entry_of, Replacement, with_table, replace_one, replaced}
use Rattle.network.specs.DontCares.{run_inverted, values_inverted, output_kept, odc, full, harms}
use Rattle.network.specs.Flat.{gates_of, net_of, loaded_net, current_net}
use Rattle.network.specs.State.{state_fault}
use Rattle.network.specs.Calls.{alters, harm_test, verdict_on}
use Rattle.network.specs.Sessions.{NoHarm, LoneHarmless}
use Rattle.network.proofs.FlatGates.{arity-at, length-gates}
use Rattle.network.proofs.Valid.{state-i, net-ok}
use Rattle.network.proofs.Earlier.{Earlier, earlier-net, gates-at, gate-bounds, entry-below, entry-keep}
use Rattle.network.proofs.Said.{said-done}
use Rattle.network.proofs.Harm.{harm-done}
use Rattle.network.proofs.Lists.{verdict-is}

-- ## Values with one table replaced

differs-not : (a b : Bool) → differs a b ≡ true → b ≡ not a
differs-not true b e = not-true b e
differs-not false b e = e

-- past the signal nothing is inverted
inverted-skip : (s : ℕ) (gs : List Gate) (vs : List Bool) → s < length vs → run_inverted s vs gs ≡ run vs gs
inverted-skip s [] vs h = refl
inverted-skip s (g ∷ gs) vs h =
    let b = bit g.table (entry vs g) in
    rw (ne_eqb (length vs) s (omega arith)) (inverted-skip s gs (vs ++ b ∷ []) (omega (arith, length-append vs (b ∷ []))))

-- the table t at gate i of gs: the values stay where t has the old bit, and else are those with the gate inverted
module _ (t : ℕ) where
  abbrev altered : List Gate → List Bool → ℕ → Bool
  altered gs vs i = let g = get_or gs i no_gate in let e = entry (run vs gs) g in differs (bit g.table e) (bit t e)

  abbrev run_with : List Gate → List Bool → ℕ → List Bool
  run_with gs vs i = run vs (set gs i (with_table (get_or gs i no_gate) t))

  lone-run : (gs : List Gate) (vs : List Bool) (j i : ℕ) → length vs ≡ j → i < length gs → Earlier j gs
      → (altered gs vs i ≡ false → run_with gs vs i ≡ run vs gs) × (altered gs vs i ≡ true → run_with gs vs i ≡ run_inverted (j + i) vs gs)
  unfolding entry
  lone-run [] vs j i e h w = absurd (not-suc-le-zero h)
  lone-run (g ∷ gs) vs j zero e h w =
      let b = bit g.table (entry vs g) in
      let q : entry (run vs (g ∷ gs)) g ≡ entry vs g = entry-keep (g ∷ gs) vs g (rw e w.0) in (
        λ k. ap (λ (c : Bool). run (vs ++ c ∷ []) gs) (sym (differs-e b (bit t (entry vs g)) (rw q at k))),
        λ k. ap (λ (c : Bool). run (vs ++ c ∷ []) gs) (differs-not b (bit t (entry vs g)) (rw q at k))
            ∙ sym (rw (eq-eqb (length vs) (j + 0) (omega arith)) (inverted-skip (j + 0) gs (vs ++ not b ∷ []) (omega (arith, length-append vs (not b ∷ []))))),
      )
  lone-run (g ∷ gs) vs j (suc i) e h w =
      let b = bit g.table (entry vs g) in
      let ih = lone-run gs (vs ++ b ∷ []) (suc j) i (omega (arith, length-append vs (b ∷ []))) (omega arith) w.1 in
      (ih.0, λ k. ih.1 k ∙ rw (ne_eqb (length vs) (j + suc i) (omega arith)) (ap (λ (s : ℕ). run_inverted s (vs ++ b ∷ []) gs) (shift j i)))
    where
      shift : (j i : ℕ) → suc j + i ≡ j + suc i
      shift j i = omega arith

-- ## One network

-- the replacement alters only entries of the full table
abbrev pub WithinFull : Net → Replacement → Type 0
WithinFull N r = (t : ℕ) → t < entries N r.signal → alters N r t ≡ true → bit (full N r.signal) t ≡ true

module _ (N : Net) (early : Earlier N.inputs N.gates) (r : Replacement) (w : is_gate N r.signal ≡ true) where
  -- the entry of the gate at the pattern x is altered
  abbrev hit : ℕ → Bool
  hit x = alters N r (entry_of N r.signal x)

  abbrev kept : ℕ → ℕ → Bool
  kept x i = output_kept N r.signal x i

  values-with : (x : ℕ) → (hit x ≡ false → values (replace_one N r) x ≡ values N x) × (hit x ≡ true → values (replace_one N r) x ≡ values_inverted N r.signal x)
  unfolding alters values values_inverted
  values-with x =
      let b = gate-bounds N r.signal w in
      let q : N.inputs + (r.signal - N.inputs) ≡ r.signal = omega arith in
      let both = lone-run r.table N.gates (places N.inputs (bit x)) N.inputs (r.signal - N.inputs) (length-places N.inputs (bit x)) (omega arith) early in
      (both.0, λ k. both.1 k ∙ ap (λ (s : ℕ). run_inverted s (places N.inputs (bit x)) N.gates) q)

  -- an output is harmed where the pattern is not excluded, the entry is altered, and inverting the gate changes the output
  harm-here : (x i : ℕ) → harms N (replace_one N r) x i ≡ not (excluded N x) && (hit x && not (kept x i))
  unfolding harms excluded_for
  harm-here x i =
      by_cases (hit x)
      (λ h. rw ((values-with x).1 h, h, beq-comm (output N x i) (get_or (values_inverted N r.signal x) (get_or N.outputs i 0) false)))
      (λ h. rw ((values-with x).0 h, h, beq_same (output N x i)))
    where
      beq_same : (a : Bool) → beq a a ≡ true
      beq_same true = refl
      beq_same false = refl

  full_at : (t : ℕ) → t < entries N r.signal
      → bit (full N r.signal) t ≡ every (patterns N) (λ x. eqb (entry_of N r.signal x) t ⇒ (excluded N x || odc N r.signal x))
  unfolding full
  full_at t h = bit-table (entries N r.signal) (λ t. every (patterns N) (λ x. eqb (entry_of N r.signal x) t ⇒ (excluded N x || odc N r.signal x))) t h

  keeps : (x i : ℕ) → harms N (replace_one N r) x i ≡ false → excluded N x ≡ false → hit x ≡ true → kept x i ≡ true
  keeps x i e n h = not-false (kept x i) (rw (n, h) at (sym (harm-here x i) ∙ e))

  within : NoHarm N (replace_one N r) (patterns N) → WithinFull N r
  unfolding odc
  within none t h a =
      full_at t h ∙ every-i (patterns N) _ (λ x l. imp-i (eqb (entry_of N r.signal x) t) _ (λ q. by_cases (excluded N x) (λ n. rw n) (λ n. rw n
      (every-i (length N.outputs) (kept x) (λ i j. keeps x i (none x i l j) n (ap (alters N r) (eqb-true (entry_of N r.signal x) t q) ∙ a))))))

  harmless : WithinFull N r → NoHarm N (replace_one N r) (patterns N)
  unfolding odc
  harmless f x i l j =
      harm-here x i ∙ by_cases (excluded N x) (λ n. rw n) (λ n. by_cases (hit x) (λ h. rw (n, h, kept-so n h)) (λ h. rw (n, h)))
    where
      t : ℕ
      t = entry_of N r.signal x

      kept-so : excluded N x ≡ false → hit x ≡ true → kept x i ≡ true
      kept-so n h =
          let below : t < entries N r.signal = entry-below (values N x) (gate N r.signal) in
          let o : (excluded N x || odc N r.signal x) ≡ true = imp-e (eqb t t) _ (every-e (patterns N) _ (sym (full_at t below) ∙ f t below h) x l) (eq-eqb t t refl) in
          every-e (length N.outputs) (kept x) (rw n at o) i j

  pub lone : (harm_test N (replaced N (r ∷ [])) ≡ Done) ↔ WithinFull N r
  lone = let d = harm-done N (replace_one N r) in (λ e. within (d.0 e), λ f. d.1 (harmless f))

-- ## A session

-- at every pattern that is not excluded the current outputs are the loaded ones
abbrev pub OutputsLoaded : Session → Type 0
OutputsLoaded s = (x i : ℕ) → x < patterns (loaded_net s) → i < s.p → excluded_for (loaded_net s) i x ≡ false → output (current_net s) x i ≡ output (loaded_net s) x i

module _ (s : Session) where
  loaded-arity : (g : ℕ) → is_gate (loaded_net s) g ≡ true → entries (loaded_net s) g ≡ entries (current_net s) g
  unfolding loaded_net current_net net_of
  loaded-arity g w =
      let l : g - s.n < s.m = omega (arith, gate-bounds (loaded_net s) g w, length-gates s.arity s.fanins s.loaded s.m) in
      ap (λ (k : ℕ). 2 ^ k) (at s.loaded (g - s.n) l ∙ sym (at s.current (g - s.n) l))
    where
      at : (ts : List ℕ) (i : ℕ) → i < s.m → arity (get_or (gates_of s.arity s.fanins ts s.m) i no_gate) ≡ get_or s.arity i 0
      at ts i h = ap arity (gates-at s.arity s.fanins ts s.m i h) ∙ arity-at s.arity s.fanins ts i

  loaded-gate : (g : ℕ) → is_gate (current_net s) g ≡ is_gate (loaded_net s) g
  unfolding loaded_net current_net net_of is_gate
  loaded-gate g = rw (length-gates s.arity s.fanins s.current s.m, length-gates s.arity s.fanins s.loaded s.m)

  module _ (valid : state_fault s ≡ Done) (same : OutputsLoaded s) where
    harm-same : (M : Net) (x i : ℕ) → x < patterns (loaded_net s) → i < s.p → harms (loaded_net s) M x i ≡ harms (current_net s) M x i
    unfolding harms excluded_for excluded loaded_net current_net net_of
    harm-same M x i l h = by_cases (excluded (loaded_net s) x) (λ e. rw e) (λ e. rw (e, same x i l h e))

    judged : (M : Net) → (harm_test (loaded_net s) M ≡ Done) ↔ (harm_test (current_net s) M ≡ Done)
    unfolding loaded_net current_net net_of
    judged M = (
      λ e. (harm-done (current_net s) M).1 (λ x i l h. sym (harm-same M x i l (short i h)) ∙ (harm-done (loaded_net s) M).0 e x i l h),
      λ e. (harm-done (loaded_net s) M).1 (λ x i l h. harm-same M x i l (short i h) ∙ (harm-done (current_net s) M).0 e x i l h),
    )
      where
        short : (i : ℕ) → i < length (places s.p (λ i. get_or s.outputs i 0)) → i < s.p
        short i h = omega (arith, length-places s.p (λ i. get_or s.outputs i 0))

    module _ (r : Replacement) where
      early : Earlier (current_net s).inputs (current_net s).gates
      unfolding current_net net_of
      early = earlier-net s.current (net-ok s valid)

      pub lone-session : LoneHarmless s r
      lone-session w k =
          let l = lone (current_net s) early r (loaded-gate r.signal ∙ w) in
          let j = judged (replace_one (current_net s) r) in
          let q = loaded-arity r.signal w in
          let e = verdict-is s (r ∷ []) (state-i s valid) (w, refl, k, tt) in
          let d = said-done (verdict_on s (r ∷ [])) in (
            λ a t h. l.0 (j.0 (sym e ∙ d.0 a)) t (rw q at h),
            λ f. d.1 (e ∙ j.1 (l.1 (λ t h. f t (rw q h)))),
          )
