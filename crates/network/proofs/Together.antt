-- A list of replacements that exchanges would accept is harmless as one replacement: with all of them in place each gate has the table
-- of its last accepted exchange. Assumes nothing.
use mathlib.Core.Path.{◌≡◌, refl, sym, ap, ◌∙◌, subst}
use mathlib.Core.Bool.{Bool, true, false, ◌||◌}
use mathlib.Core.List.{List, [], ◌∷◌, ◌++◌}
use Prim.Native.Nat.{ℕ, suc, ◌+◌, ◌-◌, ◌<◌, ◌≤◌}
use native.Mathlib.Omega.{arith}
use lib.Dec.{eqb}
use lib.ListN.{length, get_or, set, length-set}
use Rattle.bits.proofs.Ranges.{or-false, by_cases, length-places}
use Rattle.bits.proofs.Logic.{beq-i}
use Rattle.network.specs.declared.Session.{Session}
use Rattle.network.specs.Answer.{Answer}
use Rattle.network.specs.Bounds.{most_gates}
use Rattle.network.specs.Net.{Net, is_gate, patterns, excluded_for, output, Replacement, replaced}
use Rattle.network.specs.DontCares.{harms}
use Rattle.network.specs.Flat.{net_of, net_with, loaded_net, current_net, stored_all}
use Rattle.network.specs.Refusals.{said}
use Rattle.network.specs.Tests.{member}
use Rattle.network.specs.Calls.{fits, harm_test, verdict_on}
use Rattle.network.specs.Lists.{Sound}
use Rattle.network.specs.Sessions.{after, answer_by, took, last_accepted, final_tables, NoHarm, Acceptable, picked, Together, TogetherOf}
use Rattle.network.proofs.Fresh.{Fresh}
use Rattle.network.proofs.Valid.{state-i}
use Rattle.network.proofs.Said.{said-done}
use Rattle.network.proofs.Harm.{harm-none}
use Rattle.network.proofs.Lists.{verdict-is}
use Rattle.network.proofs.Reached.{loaded-fresh}
use Rattle.network.proofs.Exchanges.{accepts-e, Cause, answer-because, gate-e, gates-most, set_at, after-valid, after-loaded}
use Rattle.network.proofs.Demand3.{outputs-stay, final-at, current-is, last-append}
use Rattle.network.proofs.Replaced.{replaced-all}

module _ (N : Net) where
  taken : (r : Replacement) → said (answer_by N r) ≡ [] → (is_gate N r.signal ≡ true) × (fits N r ≡ true)
  taken r e = let c = accepts-e (subst (Cause N r) ((said-done (answer_by N r)).0 e) (answer-because N r)) in (c.0, c.1)

  pub acceptable-sound : (named : List ℕ) (rs : List Replacement) → Acceptable N named rs → Sound N named rs
  acceptable-sound named [] a = tt
  acceptable-sound named (r ∷ rs) a = let t = taken r a.0 in (t.0, a.1, t.1, acceptable-sound (r.signal ∷ named) rs a.2)

  -- a part of the list is acceptable, where fewer gates are named before it
  part-acceptable : (named more : List ℕ) (p : ℕ → Bool) (rs : List Replacement) → ((k : ℕ) → member k more ≡ false → member k named ≡ false)
      → Acceptable N more rs → Acceptable N named (picked p rs)
  part-acceptable named more p [] f a = tt
  part-acceptable named more p (r ∷ rs) f a =
      by_cases (p 0)
      (λ e. rw e (a.0, f r.signal a.1, part-acceptable (r.signal ∷ named) (r.signal ∷ more) (λ i. p (suc i)) rs (λ k. either (eqb r.signal k) (member k more) (member k named) (f k)) a.2))
      (λ e. rw e (part-acceptable named (r.signal ∷ more) (λ i. p (suc i)) rs (λ k m. f k (or-false (eqb r.signal k) (member k more) m).1) a.2))
    where
      either : (e x y : Bool) → (x ≡ false → y ≡ false) → (e || x) ≡ false → (e || y) ≡ false
      either true x y f h = h
      either false x y f h = f h

module _ (s : Session) where
  -- place by place, the tables stored are the last accepted ones
  stored_last : (named : List ℕ) (rs : List Replacement) (ts : List ℕ) → s.m ≤ length ts → Acceptable (loaded_net s) named rs
      → (g : ℕ) → get_or (stored_all s.n rs ts) g 0 ≡ last_accepted (loaded_net s) rs (s.n + g) (get_or ts g 0)
  stored_last named [] ts l a g = refl
  stored_last named (r ∷ rs) ts l a g =
      let b = gate-e s r.signal (taken (loaded_net s) r a.0).0 in
      stored_last (r.signal ∷ named) rs (set ts (r.signal - s.n) r.table) (omega (arith, length-set ts (r.signal - s.n) r.table)) a.2 g
      ∙ ap (last_accepted (loaded_net s) rs (s.n + g)) (set_at s.n r.signal r.table ts b.0 (omega arith) g)
      ∙ ap (λ (x : Answer). last_accepted (loaded_net s) rs (s.n + g) (took x r (s.n + g) (get_or ts g 0))) (sym ((said-done (answer_by (loaded_net s) r)).0 a.0))

module _ (s : Session) (fresh : Fresh s) (es : List Replacement) where
  abbrev N : Net
  N = loaded_net s

  abbrev ts : List ℕ
  ts = final_tables s es

  -- the session after the exchanges
  abbrev now : Session
  now = after s es

  long : s.m ≤ length ts
  long = omega (arith, gates-most s fresh, length-places most_gates (λ g. last_accepted N es (s.n + g) (get_or s.loaded g 0)))

  outputs-length : length N.outputs ≡ s.p
  unfolding loaded_net net_of
  outputs-length = length-places s.p (λ i. get_or s.outputs i 0)

  module _ (rs : List Replacement) (a : Acceptable N [] rs) where
    last-all : (g : ℕ) → g < s.m → get_or (stored_all s.n rs ts) g 0 ≡ last_accepted N (es ++ rs) (s.n + g) (get_or s.loaded g 0)
    last-all g h =
        stored_last s [] rs ts long a g ∙ ap (last_accepted N rs (s.n + g)) (final-at s fresh es g h)
        ∙ sym (last-append N es rs (s.n + g) (get_or s.loaded g 0))

    all-in-place : replaced (current_net now) rs ≡ net_with s (stored_all s.n rs ts)
    all-in-place = ap (λ (C : Net). replaced C rs) (current-is s fresh es) ∙ replaced-all s [] rs ts long (acceptable-sound N [] rs a)

    output-same : (x i : ℕ) → x < patterns N → i < s.p → excluded_for N i x ≡ false → output (replaced (current_net now) rs) x i ≡ output N x i
    output-same x i hx hi n = ap (λ (M : Net). output M x i) all-in-place ∙ outputs-stay s (es ++ rs) (stored_all s.n rs ts) last-all fresh.valid x i hx hi n

    no-harm : NoHarm N (replaced (current_net now) rs) (patterns N)
    unfolding harms
    no-harm x i hx hi =
        by_cases (excluded_for N i x) (λ e. rw e)
        (λ e. rw (e, output-same x i hx (omega (arith, outputs-length)) e, beq-i (output N x i) (output N x i) refl))

    harmless : said (verdict_on now rs) ≡ []
    harmless =
        let same = after-loaded s fresh es in
        ap said
        (verdict-is now rs (state-i now (after-valid s fresh es)) (subst (λ (L : Net). Sound L [] rs) (sym same) (acceptable-sound N [] rs a))
        ∙ ap (λ (L : Net). harm_test L (replaced (current_net now) rs)) same)
        ∙ (harm-none N (replaced (current_net now) rs)).1 no-harm

  pub together : Together s es
  together = record {
    whole = harmless;
    part = λ rs p a. harmless (picked p rs) (part-acceptable N [] [] p rs (λ k e. e) a);
    lone = λ r e. harmless (r ∷ []) (e, refl, tt);
    empty = harmless [] tt;
  }

-- ## Of every list of bytes that loads

pub together-of : TogetherOf
together-of bytes s es loads = together s (loaded-fresh bytes s loads) es
