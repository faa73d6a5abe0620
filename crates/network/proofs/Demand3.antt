-- Demand 3, proved of every session fresh from a load and every list of exchanges, and with it rule 4 in all of these sessions. Assumes nothing.
use mathlib.Core.Path.{◌≡◌, refl, sym, ap, ◌∙◌, subst}
use mathlib.Core.Logic.{◌≢◌}
use mathlib.Core.Bool.{Bool, true, false, cond, ◌&&◌}
use mathlib.Core.List.{List, [], ◌∷◌, ◌++◌, map, map-append}
use Prim.Native.Nat.{ℕ, ◌+◌, ◌-◌, ◌<◌, ◌≤◌}
use native.Mathlib.Omega.{arith}
use lib.Dec.{eqb}
use lib.ListN.{get_or}
use borrow.Author.Tests.{eqb-true, ne_eqb}
use Rattle.bits.specs.Bit.{bit}
use Rattle.bits.proofs.Ranges.{and_l, and_r, and_i, by_cases, length-places, places-at, places-ext}
use Rattle.bits.proofs.Logic.{clash, and-not, differs-e}
use Rattle.network.specs.declared.Session.{Session}
use Rattle.network.specs.declared.Refusal.TheVariants.{NotAGate, TableTooWide, ClosedEntry}
use Rattle.network.specs.Answer.{Answer}
use Rattle.network.specs.Answer.{Done}
use Rattle.std.specs.Prelude.{Ok, Err}
use Rattle.network.specs.Bounds.{most_gates}
use Rattle.network.specs.Net.{Gate, Net, is_gate, gate, entries, patterns, excluded_for, output, Replacement, with_table}
use Rattle.network.specs.Compatible.{closed}
use Rattle.network.specs.Flat.{gate_at, net_of, net_with, loaded_net, current_net}
use Rattle.network.specs.Refusals.{said}
use Rattle.network.specs.State.{state_fault}
use Rattle.network.specs.Calls.{fits, alters, with_current}
use Rattle.network.specs.Sessions.{after, answer_by, took, last_accepted, final_tables, AltersClosed, Exact, Demand3, Demand3Of, Rule4Of}
use Rattle.network.proofs.Fresh.{Fresh}
use Rattle.network.proofs.Valid.{net-ok}
use Rattle.network.proofs.Safe.{KeptGate, output-kept}
use Rattle.network.proofs.Exchanges.{no-gate, too_wide, closes, accepts, no-gate-e, too-wide-e, closes-e, accepts-e, Cause, answer-because, answer-only-because, net-length, net-gate, gates-most, after_is, answers-are, after-valid}
use Rattle.network.proofs.Earlier.{earlier-net}
use Rattle.network.proofs.Lone.{OutputsLoaded, lone-session}
use Rattle.network.proofs.Reached.{loaded-fresh}

-- ## Each answer has exactly its cause

-- the answer of an exchange, from what is said of it
abbrev answer_said : List ℕ → Answer
answer_said [] = Done
answer_said (n ∷ vs) = cond (eqb n 11) (Err NotAGate) (cond (eqb n 12) (Err TableTooWide) (Err (ClosedEntry (get_or vs 0 0))))

module _ (N : Net) (r : Replacement) where
  abbrev altered : ℕ → Bool
  altered t = closed N r.signal t && alters N r t

  -- an entry is closed and altered, or not
  alters-i : (t : ℕ) → t < entries N r.signal → altered t ≡ true → AltersClosed N r t
  alters-i t l e = (l, and_l (closed N r.signal t) (alters N r t) e, and_r (closed N r.signal t) (alters N r t) e)

  alters-not : (t : ℕ) → altered t ≡ false → AltersClosed N r t → ⊥
  alters-not t e a = clash (and_i (closed N r.signal t) (alters N r t) a.1 a.2) e

  not-alters : (t : ℕ) → t < entries N r.signal → (AltersClosed N r t → ⊥) → altered t ≡ false
  not-alters t l f = and-not (closed N r.signal t) (alters N r t) (λ c a. f (l, c, a))

  back : {a : Answer} → Cause N r a → answer_said (said a) ≡ a
  back (no-gate p) = refl
  back (too_wide p q) = refl
  back (closes t p q k) = refl
  back (accepts p q k) = refl

  cause : {l : List ℕ} → said (answer_by N r) ≡ l → Cause N r (answer_said l)
  cause e = subst (Cause N r) (sym (back (answer-because N r)) ∙ ap answer_said e) (answer-because N r)

  closed-cause : (a : Answer) → Cause N r a → is_gate N r.signal ≡ true → fits N r ≡ true → (said a ≡ [] → ⊥) → (t : ℕ) × AltersClosed N r t
  closed-cause _ (no-gate p) w f n = clash w p
  closed-cause _ (too_wide p q) w f n = clash f q
  closed-cause _ (closes t p q k) w f n = (t, alters-i t k.0 k.1)
  closed-cause _ (accepts p q k) w f n = absurd (n refl)

  pub exact : Exact N r
  exact = record {
    no_gate = (λ e. no-gate-e (cause e), λ w. ap said (answer-only-because N r (no-gate w)));
    too_wide = (λ e. too-wide-e (cause e), λ w. ap said (answer-only-because N r (too_wide w.0 w.1)));
    closes = λ t. (
      λ e. let c = closes-e (cause e) in
          (c.0, c.1, alters-i t c.2.0 c.2.1, λ u l. alters-not u (c.2.2 u l)),
      λ w. ap said (answer-only-because N r
          (closes t w.0 w.1 (w.2.0, and_i _ _ w.2.1 w.2.2, λ u l. not-alters u (omega (arith, w.2.0)) (w.3 u l)))),
    );
    accepts = (
      λ e. let c = accepts-e (cause e) in
          (c.0, c.1, λ t a. alters-not t (c.2 t a.0) a),
      λ w. ap said (answer-only-because N r (accepts w.0 w.1 (λ t l. not-alters t l (w.2 t)))),
    );
    refuses = λ w f. (
      closed-cause (answer_by N r) (answer-because N r) w f,
      λ a e. alters-not a.0 ((accepts-e (cause e)).2 a.0 a.1.0) a.1,
    );
  }

-- ## The gates after a list of exchanges

-- a table has the loaded bit at each closed entry of gate k
abbrev pub KeepsClosed : Net → ℕ → ℕ → Type 0
KeepsClosed N k table = (t : ℕ) → t < entries N k → closed N k t ≡ true → bit table t ≡ bit (gate N k).table t

took-keeps : (N : Net) (r : Replacement) (k table : ℕ) (a : Answer) → Cause N r a → KeepsClosed N k table → KeepsClosed N k (took a r k table)
unfolding alters
took-keeps N r k table (Ok _) w keeps = by_cases (eqb r.signal k) (λ e. rw e (new (eqb-true r.signal k e))) (λ e. rw e keeps)
  where
    new : r.signal ≡ k → KeepsClosed N k r.table
    new e = subst (λ (k : ℕ). KeepsClosed N k r.table) e (λ t l c. sym (differs-e _ _ (rw c at ((accepts-e w).2 t l))))
took-keeps N r k table (Err f) w keeps = keeps

pub last-keeps : (N : Net) (rs : List Replacement) (k table : ℕ) → KeepsClosed N k table → KeepsClosed N k (last_accepted N rs k table)
last-keeps N [] k table keeps = keeps
last-keeps N (r ∷ rs) k table keeps = last-keeps N rs k (took (answer_by N r) r k table) (took-keeps N r k table (answer_by N r) (answer-because N r) keeps)

-- tables ts, each the last accepted one
module _ (s : Session) (rs : List Replacement) (ts : List ℕ)
    (last : (g : ℕ) → g < s.m → get_or ts g 0 ≡ last_accepted (loaded_net s) rs (s.n + g) (get_or s.loaded g 0)) where
  gate-last : (k : ℕ) → s.n ≤ k → k < s.n + s.m
      → gate (net_with s ts) k ≡ with_table (gate (loaded_net s) k) (last_accepted (loaded_net s) rs k (gate (loaded_net s) k).table)
  unfolding loaded_net gate_at
  gate-last k a b =
      let g = k - s.n in
      let back : s.n + g ≡ k = omega arith in
      net-gate s ts k a b
      ∙ ap (with_table (gate_at s.arity s.fanins ts g)) (last g (omega arith) ∙ ap (λ (j : ℕ). last_accepted (loaded_net s) rs j (get_or s.loaded g 0)) back)
      ∙ ap (λ (h : Gate). with_table h (last_accepted (loaded_net s) rs k h.table)) (sym (net-gate s s.loaded k a b))

  kept : (k : ℕ) → s.n ≤ k → k < s.n + s.m → KeptGate (closed (loaded_net s) k) (gate (loaded_net s) k) (gate (net_with s ts) k)
  kept k a b =
      rw (gate-last k a b) (record { wires = refl; bits = last-keeps (loaded_net s) rs k (gate (loaded_net s) k).table (λ t _ _. refl) })

  pub outputs-stay : state_fault s ≡ Done → (x i : ℕ) → x < patterns (loaded_net s) → i < s.p → excluded_for (loaded_net s) i x ≡ false
      → output (net_with s ts) x i ≡ output (loaded_net s) x i
  unfolding loaded_net net_of
  outputs-stay valid x i hx hi n =
      sym (output-kept (loaded_net s) (earlier-net s.loaded (net-ok s valid)) (net_with s ts).gates (net-length s ts ∙ sym (net-length s s.loaded))
      (λ k a b. kept k a (omega (arith, net-length s s.loaded))) x hx i (omega (arith, length-places s.p (λ i. get_or s.outputs i 0))) n)

-- ## Two neighbours at different gates may change places

took-swap : (a b : Answer) (q r : Replacement) → q.signal ≢ r.signal → (k t : ℕ) → took b r k (took a q k t) ≡ took a q k (took b r k t)
took-swap (Ok _) (Ok _) q r ne k t =
    by_cases (eqb q.signal k) (λ e. rw (e, ne_eqb r.signal k (λ f. ne (eqb-true q.signal k e ∙ sym f)))) (λ e. rw e)
took-swap (Ok _) (Err f) q r ne k t = refl
took-swap (Err f) b q r ne k t = refl

pub last-append : (N : Net) (qs rs : List Replacement) (k t : ℕ) → last_accepted N (qs ++ rs) k t ≡ last_accepted N rs k (last_accepted N qs k t)
last-append N [] rs k t = refl
last-append N (q ∷ qs) rs k t = last-append N qs rs k (took (answer_by N q) q k t)

last-swap : (N : Net) (before behind : List Replacement) (a b : Replacement) → a.signal ≢ b.signal → (k t : ℕ)
    → last_accepted N (before ++ b ∷ a ∷ behind) k t ≡ last_accepted N (before ++ a ∷ b ∷ behind) k t
last-swap N before behind a b ne k t =
    last-append N before (b ∷ a ∷ behind) k t
    ∙ ap (last_accepted N behind k) (sym (took-swap (answer_by N a) (answer_by N b) a b ne k (last_accepted N before k t)))
    ∙ sym (last-append N before (a ∷ b ∷ behind) k t)

-- ## Demand 3

module _ (s : Session) (fresh : Fresh s) where
  pub final-at : (rs : List Replacement) (g : ℕ) → g < s.m → get_or (final_tables s rs) g 0 ≡ last_accepted (loaded_net s) rs (s.n + g) (get_or s.loaded g 0)
  final-at rs g h = places-at 0 most_gates (λ g. last_accepted (loaded_net s) rs (s.n + g) (get_or s.loaded g 0)) g (omega (arith, gates-most s fresh))

  pub current-is : (rs : List Replacement) → current_net (after s rs) ≡ net_with s (final_tables s rs)
  unfolding current_net
  current-is rs = ap current_net (after_is s fresh rs)

  pub outputs-loaded : (rs : List Replacement) → OutputsLoaded (after s rs)
  unfolding loaded_net current_net
  outputs-loaded rs = subst OutputsLoaded (sym (after_is s fresh rs)) (outputs-stay s rs (final_tables s rs) (final-at rs) fresh.valid)

  swapped : (before behind : List Replacement) (a b : Replacement) → a.signal ≢ b.signal → after s (before ++ b ∷ a ∷ behind) ≡ after s (before ++ a ∷ b ∷ behind)
  swapped before behind a b ne =
      after_is s fresh (before ++ b ∷ a ∷ behind)
      ∙ ap (with_current s) (places-ext most_gates _ _ (λ g _. last-swap (loaded_net s) before behind a b ne (s.n + g) (get_or s.loaded g 0)))
      ∙ sym (after_is s fresh (before ++ a ∷ b ∷ behind))

  pub demand3 : (rs : List Replacement) → Demand3 s rs
  demand3 rs = record {
    answered = answers-are s fresh rs;
    exact = exact (loaded_net s);
    session = after_is s fresh rs;
    tables = λ g h. ap (λ (N : Net). gate N (s.n + g)) (current-is rs) ∙ gate-last s rs (final_tables s rs) (final-at rs) (s.n + g) (omega arith) (omega arith);
    outputs = λ x i hx hi n. ap (λ (N : Net). output N x i) (current-is rs) ∙ outputs-stay s rs (final_tables s rs) (final-at rs) fresh.valid x i hx hi n;
    swap = λ before behind a b e ne. (
      swapped before behind a b ne ∙ ap (after s) (sym e),
      answers-are s fresh rs ∙ ap (map (answer_by (loaded_net s))) e ∙ map-append (answer_by (loaded_net s)) before (a ∷ b ∷ behind),
      answers-are s fresh (before ++ b ∷ a ∷ behind) ∙ map-append (answer_by (loaded_net s)) before (b ∷ a ∷ behind),
    );
  }

-- ## Of every list of bytes that loads

pub demand3-of : Demand3Of
demand3-of bytes s rs loads = demand3 s (loaded-fresh bytes s loads) rs

-- rule 4's second sentence, in every session that a load and exchanges give
pub rule4-of : Rule4Of
rule4-of bytes s rs r loads = let fresh = loaded-fresh bytes s loads in lone-session (after s rs) (after-valid s fresh rs) (outputs-loaded s fresh rs) r
