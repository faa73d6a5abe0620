-- Open lies inside full, in every session that a load and exchanges give: an exchange that would be accepted is harmless, so each open
-- entry of a gate is one of its full table, and rule 4 holds with the loaded table for what is altered. Assumes nothing.
use mathlib.Core.Path.{◌≡◌, refl, sym, ap, ◌∙◌, subst}
use mathlib.Core.Logic.{◌↔◌}
use mathlib.Core.Bool.{Bool, true, false, not}
use mathlib.Core.List.{List, [], ◌∷◌}
use Prim.Native.Nat.{ℕ, ◌+◌, ◌-◌, ◌<◌}
use native.Mathlib.Decide.{ℕ_discrete, dec_lt}
use native.Mathlib.Omega.{arith}
use lib.Dec.{eqb}
use borrow.Author.Tests.{eq-eqb, ne_eqb, lt-ltb}
use Rattle.bits.specs.Bit.{bit, differs, table_of}
use Rattle.bits.proofs.BitLaws.{bit-above}
use Rattle.bits.proofs.Ranges.{by_cases, bit-table, table-lt}
use Rattle.bits.proofs.Logic.{clash, and-not, differs-i}
use Rattle.network.specs.declared.Session.{Session}
use Rattle.network.specs.Answer.{Done}
use Rattle.network.specs.Net.{Gate, Net, is_gate, gate, entries, Replacement, with_table}
use Rattle.network.specs.DontCares.{full}
use Rattle.network.specs.Compatible.{closed, open_table}
use Rattle.network.specs.Flat.{loaded_net, current_net}
use Rattle.network.specs.Refusals.{said}
use Rattle.network.specs.Calls.{fits, alters, verdict_on}
use Rattle.network.specs.Sessions.{after, answer_by, last_accepted, Inside, InsideOf}
use Rattle.network.proofs.Fresh.{Fresh}
use Rattle.network.proofs.Lone.{lone-session}
use Rattle.network.proofs.Reached.{loaded-fresh}
use Rattle.network.proofs.Exchanges.{accepts, answer-only-because, gate-e, open-bit, after-valid, after-loaded}
use Rattle.network.proofs.Demand3.{KeepsClosed, last-keeps, outputs-loaded, demand3}
use Rattle.network.proofs.Together.{together}

module _ (s : Session) (fresh : Fresh s) (rs : List Replacement) where
  abbrev N : Net
  N = loaded_net s

  -- the session after the exchanges
  abbrev now : Session
  now = after s rs

  -- ## Each open entry is an entry of the full table

  -- rule 4 against the current table
  rule4-now : (r : Replacement) → is_gate N r.signal ≡ true → fits N r ≡ true
      → (said (verdict_on now (r ∷ [])) ≡ []) ↔ ((t : ℕ) → t < entries N r.signal → alters (current_net now) r t ≡ true → bit (full (current_net now) r.signal) t ≡ true)
  rule4-now r =
      subst
      (λ (L : Net). is_gate L r.signal ≡ true → fits L r ≡ true
      → (said (verdict_on now (r ∷ [])) ≡ []) ↔ ((t : ℕ) → t < entries L r.signal → alters (current_net now) r t ≡ true → bit (full (current_net now) r.signal) t ≡ true))
      (after-loaded s fresh rs) (lone-session now (after-valid s fresh rs) (outputs-loaded s fresh rs) r)

  module _ (g : ℕ) (w : is_gate N g ≡ true) where
    -- the gate's current table
    abbrev c : ℕ
    c = (gate (current_net now) g).table

    -- has the loaded bit at each closed entry
    keeps : KeepsClosed N g c
    keeps =
        let b = gate-e s g w in
        let back : s.n + (g - s.n) ≡ g = omega arith in
        let same = (demand3 s fresh rs).tables (g - s.n) (omega arith) in
        let here : gate (current_net now) g ≡ with_table (gate N g) (last_accepted N rs g (gate N g).table) = rw back at same in
        subst (KeepsClosed N g) (sym (ap (λ (h : Gate). h.table) here)) (last-keeps N rs g (gate N g).table (λ t _ _. refl))

    -- the current table with entry t turned
    abbrev turned : ℕ → Replacement
    turned t = record { signal = g; table = table_of (entries N g) (λ u. differs (eqb u t) (bit c u)) }

    turned-at : (t u : ℕ) → u < entries N g → bit (turned t).table u ≡ differs (eqb u t) (bit c u)
    turned-at t u h = bit-table (entries N g) (λ u. differs (eqb u t) (bit c u)) u h

    -- alters no closed entry of the loaded one, where t is open
    turned-accepted : (t : ℕ) → closed N g t ≡ false → answer_by N (turned t) ≡ Done
    unfolding alters
    turned-accepted t o =
        answer-only-because N (turned t)
        (accepts w (lt-ltb _ _ (table-lt (entries N g) (λ u. differs (eqb u t) (bit c u)))) (λ u h. and-not _ _ (λ shut a. other u h shut a (ℕ_discrete u t))))
      where
        other : (u : ℕ) → u < entries N g → closed N g u ≡ true → alters N (turned t) u ≡ true → Dec (u ≡ t) → ⊥
        other u h shut a (yes e) = clash shut (rw e o)
        other u h shut a (no n) =
            let q : bit (turned t).table u ≡ bit c u = turned-at t u h ∙ ap (λ (b : Bool). differs b (bit c u)) (ne_eqb u t n) in
            clash a (differs-i (bit (gate N g).table u) (bit (turned t).table u) (sym (q ∙ keeps u h shut)))

    turned-alters : (t : ℕ) → t < entries N g → alters (current_net now) (turned t) t ≡ true
    unfolding alters
    turned-alters t h = rw (turned-at t t h, eq-eqb t t refl) (differs-not (bit c t))
      where
        differs-not : (b : Bool) → differs b (not b) ≡ true
        differs-not true = refl
        differs-not false = refl

    open_full : (t : ℕ) → t < entries N g → closed N g t ≡ false → bit (full (current_net now) g) t ≡ true
    open_full t h o =
        (rule4-now (turned t) w (lt-ltb _ _ (table-lt (entries N g) (λ u. differs (eqb u t) (bit c u))))).0 ((together s fresh rs).lone (turned t) (ap said (turned-accepted t o))) t h (turned-alters t h)

  pub open-in-full : (g t : ℕ) → is_gate N g ≡ true → bit (open_table N g) t ≡ true → bit (full (current_net now) g) t ≡ true
  unfolding open_table
  open-in-full g t w o = go (dec_lt t (entries N g))
    where
      go : Dec (t < entries N g) → bit (full (current_net now) g) t ≡ true
      go (yes h) = open_full g w t h (sym (open-bit N g t h) ∙ ap not o)
      go (no n) = clash o (bit-above (open_table N g) (entries N g) t (table-lt (entries N g) (λ t. not (closed N g t))) (omega arith))

  -- ## Rule 4, with the loaded table for what is altered

  module _ (r : Replacement) (w : is_gate N r.signal ≡ true) where
    -- outside the full table the current table is the loaded one
    alters-same : (t : ℕ) → t < entries N r.signal → bit (full (current_net now) r.signal) t ≡ false → alters (current_net now) r t ≡ alters N r t
    unfolding alters
    alters-same t h n =
        ap (λ (b : Bool). differs b (bit r.table t)) (keeps r.signal w t h (by_cases (closed N r.signal t) (λ k. k) (λ k. clash (open_full r.signal w t h k) n)))

    within_same : (M L : Net) → ((t : ℕ) → t < entries N r.signal → bit (full (current_net now) r.signal) t ≡ false → alters L r t ≡ alters M r t)
        → ((t : ℕ) → t < entries N r.signal → alters M r t ≡ true → bit (full (current_net now) r.signal) t ≡ true)
        → (t : ℕ) → t < entries N r.signal → alters L r t ≡ true → bit (full (current_net now) r.signal) t ≡ true
    within_same M L same f t h a = by_cases (bit (full (current_net now) r.signal) t) (λ k. k) (λ k. f t h (sym (same t h k) ∙ a))

  pub rule4-loaded : (r : Replacement) → is_gate N r.signal ≡ true → fits N r ≡ true
      → (said (verdict_on now (r ∷ [])) ≡ []) ↔ ((t : ℕ) → t < entries N r.signal → alters N r t ≡ true → bit (full (current_net now) r.signal) t ≡ true)
  rule4-loaded r w f =
      let l = rule4-now r w f in
      let same = alters-same r w in (
        λ e. within_same r w (current_net now) N (λ t h n. sym (same t h n)) (l.0 e),
        λ k. l.1 (within_same r w N (current_net now) same k),
      )

  pub inside : Inside s rs
  inside = record { open_in_full = open-in-full; rule4_loaded = rule4-loaded }

-- ## Of every list of bytes that loads

pub inside_of : InsideOf
inside_of bytes s rs loads = inside s (loaded-fresh bytes s loads) rs
