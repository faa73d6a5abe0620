-- What a list of exchanges gives, in a session fresh from a load: each answer and its cause, and the session at the end. Assumes nothing.
use mathlib.Core.Path.{◌≡◌, refl, sym, ap, ap₂, ◌∙◌, subst}
use mathlib.Core.Bool.{Bool, true, false, not, cond, ◌&&◌}
use mathlib.Core.List.{List, [], ◌∷◌, map}
use Prim.Native.Nat.{ℕ, ◌+◌, ◌-◌, ◌^◌, ◌<◌, ◌≤◌}
use native.Mathlib.Decide.{ℕ_discrete}
use native.Mathlib.Omega.{arith}
use lib.Dec.{eqb, leb}
use lib.ListN.{length, get_or, set, length-set}
use lib.Seq.{get_or-set_same, get_or-set_other}
use borrow.Author.Tests.{eq-eqb, ne_eqb, le-leb, lt-ltb}
use Rattle.std.specs.Prelude.{Option}
use Rattle.std.specs.Prelude.{Some, None}
use Rattle.bits.specs.Range.{places, smallest}
use Rattle.bits.specs.Bit.{bit}
use Rattle.bits.proofs.Ranges.{and_i, by_cases, length-places, places-ext, bit-table}
use Rattle.bits.proofs.Logic.{not-not}
use Rattle.bits.proofs.Search.{Smallest, smallest-is, smallest-eq, smallest-ext}
use Rattle.network.specs.declared.Session.{Session}
use Rattle.network.specs.declared.Refusal.{Refusal}
use Rattle.network.specs.declared.Refusal.TheVariants.{NotAGate, TableTooWide, ClosedEntry, BitPastEnd}
use Rattle.std.specs.Prelude.{Result, Ok, Err}
use Rattle.network.specs.Answer.{Answer, Done, answer_of, giving, given_or}
use Rattle.network.specs.Bounds.{most_gates}
use Rattle.network.specs.Net.{Net, arity, is_gate, gate, entries, Replacement}
use Rattle.network.specs.Compatible.{closed, open_table, open_tables}
use Rattle.network.specs.Flat.{gate_at, net_of, net_with, loaded_net}
use Rattle.network.specs.Tests.{refuse_if, or_else, first, width_test}
use Rattle.network.specs.State.{arity_of, state_fault}
use Rattle.network.specs.Valid.{Sized, Shaped, Narrow}
use Rattle.network.specs.Calls.{gate_test, fits, table_test, alters, entry_found, closed_test, with_current, exchange_tests, held_closed, exchange_answer, exchanged, exchange_of}
use Rattle.network.specs.Sessions.{next, after, answers, answer_by, took, last_accepted, final_tables}
use Rattle.network.proofs.Slots.{sized-current}
use Rattle.network.proofs.Fresh.{Fresh}
use Rattle.network.proofs.FlatGates.{per-gate-at, arity-at, length-gates}
use Rattle.network.proofs.TestLaws.{count-e}
use Rattle.network.proofs.Valid.{Valid, valid-e, valid-i, state-i}
use Rattle.network.proofs.Earlier.{gates-at, gate-bounds}
use Rattle.network.proofs.Slots.{places-get}

-- ## Answers: each has exactly its cause, where shut tells the closed entries

-- an entry that is shut and altered
abbrev Altered : Net → (ℕ → Bool) → Replacement → Option ℕ → Type 0
Altered N shut r = Smallest (entries N r.signal) (λ t. shut t && alters N r t)

-- why an answer is given
pub data Because (N : Net) (shut : ℕ → Bool) (r : Replacement) : Answer → Type 0 where
  no-gate : is_gate N r.signal ≡ false → Because N shut r (Err NotAGate)
  too_wide : is_gate N r.signal ≡ true → fits N r ≡ false → Because N shut r (Err TableTooWide)
  closes : (t : ℕ) → is_gate N r.signal ≡ true → fits N r ≡ true → Altered N shut r (Some t) → Because N shut r (Err (ClosedEntry t))
  accepts : is_gate N r.signal ≡ true → fits N r ≡ true → Altered N shut r None → Because N shut r Done

module _ (N : Net) (shut : ℕ → Bool) (r : Replacement) where
  pub because : Because N shut r (first (exchange_tests N shut r))
  unfolding gate_test table_test closed_test
  because =
      go (is_gate N r.signal) (fits N r) (smallest (entries N r.signal) (λ t. shut t && alters N r t)) refl refl
      (smallest-is (entries N r.signal) (λ t. shut t && alters N r t))
    where
      go : (a b : Bool) (c : Option ℕ) → is_gate N r.signal ≡ a → fits N r ≡ b → Altered N shut r c
          → Because N shut r (or_else (refuse_if (not a) NotAGate) (or_else (refuse_if (not b) TableTooWide) (or_else (entry_found c) Done)))
      go false b c p q w = no-gate p
      go true false c p q w = too_wide p q
      go true true None p q w = accepts p q w
      go true true (Some t) p q w = closes t p q w

  pub only-because : {a : Answer} → Because N shut r a → first (exchange_tests N shut r) ≡ a
  unfolding gate_test table_test closed_test
  only-because (no-gate p) = rw p
  only-because (too_wide p q) = rw (p, q)
  only-because (closes t p q w) = rw (p, q, smallest-eq (entries N r.signal) (λ t. shut t && alters N r t) (Some t) w)
  only-because (accepts p q w) = rw (p, q, smallest-eq (entries N r.signal) (λ t. shut t && alters N r t) None w)

module _ {N : Net} {shut : ℕ → Bool} {r : Replacement} where
  pub no-gate-e : Because N shut r (Err NotAGate) → is_gate N r.signal ≡ false
  no-gate-e (no-gate p) = p

  pub too-wide-e : Because N shut r (Err TableTooWide) → (is_gate N r.signal ≡ true) × (fits N r ≡ false)
  too-wide-e (too_wide p q) = (p, q)

  pub closes-e : {t : ℕ} → Because N shut r (Err (ClosedEntry t)) → (is_gate N r.signal ≡ true) × (fits N r ≡ true) × Altered N shut r (Some t)
  closes-e (closes u p q w) = (p, q, w)

  pub accepts-e : Because N shut r Done → (is_gate N r.signal ≡ true) × (fits N r ≡ true) × Altered N shut r None
  accepts-e (accepts p q w) = (p, q, w)

-- the answer goes by the closed entries of the gate that is named, and by nothing else
answer-ext : (N : Net) (f h : ℕ → Bool) (r : Replacement) → (is_gate N r.signal ≡ true → (t : ℕ) → t < entries N r.signal → f t ≡ h t)
    → first (exchange_tests N f r) ≡ first (exchange_tests N h r)
unfolding gate_test closed_test
answer-ext N f h r same =
    by_cases (is_gate N r.signal)
    (λ w. ap (λ (c : Option ℕ). first (gate_test N r.signal ∷ table_test N r ∷ entry_found c ∷ []))
    (smallest-ext (entries N r.signal) (λ t. f t && alters N r t) (λ t. h t && alters N r t) (λ t l. ap (λ b. b && alters N r t) (same w t l))))
    (λ w. rw w)

-- why the loaded network N alone gives an answer
abbrev pub Cause : Net → Replacement → Answer → Type 0
Cause N r = Because N (closed N r.signal) r

pub answer-because : (N : Net) (r : Replacement) → Cause N r (answer_by N r)
unfolding answer_by
answer-because N r = because N (closed N r.signal) r

pub answer-only-because : (N : Net) (r : Replacement) {a : Answer} → Cause N r a → answer_by N r ≡ a
unfolding answer_by
answer-only-because N r w = only-because N (closed N r.signal) r w

-- ## The networks of a session with the tables ts

module _ (s : Session) (ts : List ℕ) where
  pub net-length : length (net_with s ts).gates ≡ s.m
  unfolding net_of
  net-length = length-gates s.arity s.fanins ts s.m

  -- signal k is a gate
  pub net-gate : (k : ℕ) → s.n ≤ k → k < s.n + s.m → gate (net_with s ts) k ≡ gate_at s.arity s.fanins ts (k - s.n)
  unfolding net_of
  net-gate k a b = gates-at s.arity s.fanins ts s.m (k - s.n) (omega arith)

  pub net-arity : (k : ℕ) → s.n ≤ k → k < s.n + s.m → arity (gate (net_with s ts) k) ≡ arity_of s (k - s.n)
  net-arity k a b = ap arity (net-gate k a b) ∙ arity-at s.arity s.fanins ts (k - s.n)

  -- exchanges leave the loaded network
  pub loaded-stays : loaded_net (with_current s ts) ≡ loaded_net s
  unfolding loaded_net
  loaded-stays = refl

pub loaded-length : (s : Session) → length (loaded_net s).gates ≡ s.m
unfolding loaded_net
loaded-length s = net-length s s.loaded

pub loaded-inputs : (s : Session) → (loaded_net s).inputs ≡ s.n
unfolding loaded_net net_of
loaded-inputs s = refl

pub gate-e : (s : Session) (k : ℕ) → is_gate (loaded_net s) k ≡ true → (s.n ≤ k) × (k < s.n + s.m)
gate-e s k w =
    let b = gate-bounds (loaded_net s) k w in
    (omega (arith, loaded-inputs s), omega (arith, loaded-inputs s, loaded-length s))

pub gate-i : (s : Session) (k : ℕ) → s.n ≤ k → k < s.n + s.m → is_gate (loaded_net s) k ≡ true
unfolding is_gate loaded_net net_of
gate-i s k a b = and_i (leb s.n k) _ (le-leb s.n k a) (lt-ltb k _ (omega (arith, net-length s s.loaded)))

-- a table that fits its gate passes the session's test
fits-e : (s : Session) (r : Replacement) → is_gate (loaded_net s) r.signal ≡ true → fits (loaded_net s) r ≡ true
    → width_test (2 ^ arity_of s (r.signal - s.n)) r.table ≡ Done
unfolding loaded_net net_of
fits-e s r w f =
    let b = gate-e s r.signal w in
    ap (λ (k : ℕ). width_test (2 ^ k) r.table) (sym (net-arity s s.loaded r.signal b.0 b.1))
    ∙ ap (λ b. refuse_if (not b) BitPastEnd) f

-- ## The open tables

pub open_at : (N : Net) (g : ℕ) → g < most_gates → g < length N.gates → get_or (open_tables N) g 0 ≡ open_table N (N.inputs + g)
unfolding open_tables
open_at N = per-gate-at (length N.gates) (λ g. open_table N (N.inputs + g))

pub open-bit : (N : Net) (k t : ℕ) → t < entries N k → not (bit (open_table N k) t) ≡ closed N k t
unfolding open_table
open-bit N k t h = ap not (bit-table (entries N k) (λ t. not (closed N k t)) t h) ∙ not-not (closed N k t)

-- ## One exchange

-- tables with which the session s is valid
pub record ValidTables (s : Session) (ts : List ℕ) : Type 0 where
  pub sized : length ts ≡ most_gates
  pub valid : state_fault (with_current s ts) ≡ Done

module _ (s : Session) (fresh : Fresh s) where
  pub gates-most : s.m ≤ most_gates
  gates-most = (count-e most_gates s.m (valid-e s fresh.valid).gates).1

  -- the open tables that the session holds are those of rule 7
  held-closed : (k : ℕ) → is_gate (loaded_net s) k ≡ true → (t : ℕ) → t < entries (loaded_net s) k → held_closed s k t ≡ closed (loaded_net s) k t
  held-closed k w t h =
      let b = gate-e s k w in
      let back : s.n + (k - s.n) ≡ k = omega arith in
      ap (λ (ts : List ℕ). not (bit (get_or ts (k - s.n) 0) t)) fresh.held
      ∙ ap (λ (u : ℕ). not (bit u t)) (open_at (loaded_net s) (k - s.n) (omega (arith, gates-most)) (omega (arith, loaded-length s)))
      ∙ ap (λ (j : ℕ). not (bit (open_table (loaded_net s) j) t)) (ap (λ (n : ℕ). n + (k - s.n)) (loaded-inputs s) ∙ back)
      ∙ open-bit (loaded_net s) k t h

  answer-is : (ts : List ℕ) (r : Replacement) → ValidTables s ts → exchange_answer (with_current s ts) r ≡ answer_by (loaded_net s) r
  unfolding exchange_answer answer_by loaded_net
  answer-is ts r fine =
      ap (λ (a : Answer). or_else a (first (exchange_tests (loaded_net s) (held_closed s r.signal) r))) (state-i (with_current s ts) fine.valid)
      ∙ answer-ext (loaded_net s) (held_closed s r.signal) (closed (loaded_net s) r.signal) r (held-closed r.signal)

  -- an accepted table fits, so that the session stays valid
  pub stored-valid : (ts : List ℕ) (r : Replacement) → is_gate (loaded_net s) r.signal ≡ true → fits (loaded_net s) r ≡ true → ValidTables s ts
      → ValidTables s (set ts (r.signal - s.n) r.table)
  stored-valid ts r w f fine = record {
    sized = length-set ts (r.signal - s.n) r.table ∙ fine.sized;
    valid = valid-i _ (record {
      inputs = v.inputs;
      gates = v.gates;
      outs = v.outs;
      set-fine = v.set-fine;
      gate = λ g l. record {
        arity-fine = (v.gate g l).arity-fine;
        fanins-fine = (v.gate g l).fanins-fine;
        loaded-fine = (v.gate g l).loaded-fine;
        current-fine = width g l (ℕ_discrete g (r.signal - s.n));
      };
      output = v.output;
    });
  }
    where
      v : Valid (with_current s ts)
      v = valid-e (with_current s ts) fine.valid

      width : (g : ℕ) → g < s.m → Dec (g ≡ r.signal - s.n) → width_test (2 ^ arity_of s g) (get_or (set ts (r.signal - s.n) r.table) g 0) ≡ Done
      width g l (yes e) = rw (e, get_or-set_same ts (r.signal - s.n) r.table 0 (omega (arith, gates-most))) (fits-e s r w f)
      width g l (no n) = rw (get_or-set_other ts (r.signal - s.n) g r.table 0 n) (v.gate g l).current-fine

-- one table stored, place by place
pub set_at : (n k t : ℕ) (ts : List ℕ) → n ≤ k → k - n < length ts → (g : ℕ) → get_or (set ts (k - n) t) g 0 ≡ cond (eqb k (n + g)) t (get_or ts g 0)
set_at n k t ts a h g = go (ℕ_discrete g (k - n))
  where
    go : Dec (g ≡ k - n) → get_or (set ts (k - n) t) g 0 ≡ cond (eqb k (n + g)) t (get_or ts g 0)
    go (yes e) = rw (eq-eqb k (n + g) (omega arith), e) (get_or-set_same ts (k - n) t 0 h)
    go (no d) = rw (ne_eqb k (n + g) (λ e. d (omega arith))) (get_or-set_other ts (k - n) g t 0 d)

answer-given : (a : Answer) (t : Session) → answer_of (giving a t) ≡ a
answer-given (Ok _) t = refl
answer-given (Err r) t = refl

-- an exchange with the answer a in the session that s and the tables ts make
record Turn (s : Session) (ts : List ℕ) (r : Replacement) (a : Answer) : Type 0 where
  next : List ℕ
  gives : exchanged a (with_current s ts) r ≡ giving a (with_current s next)
  stays : given_or (with_current s ts) (exchanged a (with_current s ts) r) ≡ with_current s next
  fine : ValidTables s next
  tables : (g : ℕ) → get_or next g 0 ≡ took a r (s.n + g) (get_or ts g 0)

turn : (s : Session) → Fresh s → (ts : List ℕ) (r : Replacement) (a : Answer) → Cause (loaded_net s) r a → ValidTables s ts → Turn s ts r a
turn s fresh ts r (Ok _) w fine =
    let c = accepts-e w in
    let b = gate-e s r.signal c.0 in
    record {
      next = set ts (r.signal - s.n) r.table;
      gives = refl;
      stays = refl;
      fine = stored-valid s fresh ts r c.0 c.1 fine;
      tables = set_at s.n r.signal r.table ts b.0 (omega (arith, gates-most s fresh));
    }
turn s fresh ts r (Err f) w fine = record { next = ts; gives = refl; stays = refl; fine = fine; tables = λ g. refl }

-- ## A list of exchanges

-- the tables after them, where they were ts
abbrev lasting : Session → List Replacement → List ℕ → List ℕ
lasting s rs ts = places most_gates (λ g. last_accepted (loaded_net s) rs (s.n + g) (get_or ts g 0))

-- what the exchanges rs come to in the session that s and the tables ts make
record Comes (s : Session) (ts : List ℕ) (rs : List Replacement) : Type 0 where
  session : after (with_current s ts) rs ≡ with_current s (lasting s rs ts)
  answered : answers (with_current s ts) rs ≡ map (answer_by (loaded_net s)) rs
  valid : state_fault (after (with_current s ts) rs) ≡ Done

module _ (s : Session) (fresh : Fresh s) where
  exchange-is : (ts : List ℕ) (r : Replacement) → ValidTables s ts → exchange_of (with_current s ts) r ≡ exchanged (answer_by (loaded_net s) r) (with_current s ts) r
  unfolding exchange_of
  exchange-is ts r fine = ap (λ (a : Answer). exchanged a (with_current s ts) r) (answer-is s fresh ts r fine)

  comes : (rs : List Replacement) (ts : List ℕ) → ValidTables s ts → Comes s ts rs
  comes [] ts fine = record { session = ap (with_current s) (sym (subst (λ (c : ℕ). places c (λ g. get_or ts g 0) ≡ ts) fine.sized (places-get ts))); answered = refl; valid = fine.valid }
  comes (r ∷ rs) ts fine =
      let t = turn s fresh ts r (answer_by (loaded_net s) r) (answer-because (loaded_net s) r) fine in
      let i = exchange-is ts r fine in
      let q : next (with_current s ts) r ≡ with_current s t.next = ap (λ (e : Result Session Refusal). given_or (with_current s ts) e) i ∙ t.stays in
      let w : answer_of (exchange_of (with_current s ts) r) ≡ answer_by (loaded_net s) r = ap answer_of (i ∙ t.gives) ∙ answer-given (answer_by (loaded_net s) r) _ in
      let rest = comes rs t.next t.fine in
      record {
        session =
            ap (λ (e : Session). after e rs) q ∙ rest.session
            ∙ ap (with_current s) (places-ext most_gates _ _ (λ g _. ap (last_accepted (loaded_net s) rs (s.n + g)) (t.tables g)));
        answered = ap₂ (λ (a : Answer) (l : List Answer). a ∷ l) w (ap (λ (e : Session). answers e rs) q ∙ rest.answered);
        valid = ap (λ (e : Session). state_fault (after e rs)) q ∙ rest.valid;
      }

  fresh-is : s ≡ with_current s s.loaded
  fresh-is = ap (with_current s) fresh.same

  from-fresh : (rs : List Replacement) → Comes s s.loaded rs
  from-fresh rs = comes rs s.loaded (record { sized = fresh.tables; valid = ap state_fault (sym fresh-is) ∙ fresh.valid })

  pub after_is : (rs : List Replacement) → after s rs ≡ with_current s (final_tables s rs)
  after_is rs = ap (λ (s : Session). after s rs) fresh-is ∙ (from-fresh rs).session

  pub answers-are : (rs : List Replacement) → answers s rs ≡ map (answer_by (loaded_net s)) rs
  answers-are rs = ap (λ (s : Session). answers s rs) fresh-is ∙ (from-fresh rs).answered

  pub after-valid : (rs : List Replacement) → state_fault (after s rs) ≡ Done
  after-valid rs = ap (λ (s : Session). state_fault (after s rs)) fresh-is ∙ (from-fresh rs).valid

  pub after-loaded : (rs : List Replacement) → loaded_net (after s rs) ≡ loaded_net s
  after-loaded rs = ap loaded_net (after_is rs) ∙ loaded-stays s (final_tables s rs)

  -- the open table that it holds is that of rule 7
  pub after_open : (rs : List Replacement) (g : ℕ) → is_gate (loaded_net s) g ≡ true → get_or (after s rs).open_tables (g - (after s rs).n) 0 ≡ open_table (loaded_net s) g
  after_open rs g w =
      let b = gate-e s g w in
      let back : (loaded_net s).inputs + (g - s.n) ≡ g = omega (arith, loaded-inputs s) in
      ap (λ (t : Session). get_or t.open_tables (g - t.n) 0) (after_is rs)
      ∙ ap (λ (ts : List ℕ). get_or ts (g - s.n) 0) fresh.held
      ∙ open_at (loaded_net s) (g - s.n) (omega (arith, gates-most s fresh)) (omega (arith, loaded-length s))
      ∙ ap (open_table (loaded_net s)) back

  -- exchanges leave the lengths of a session's arrays
  pub after-sized : (rs : List Replacement) → Sized s → Sized (after s rs)
  after-sized rs z =
      let n = length-places most_gates (λ g. last_accepted (loaded_net s) rs (s.n + g) (get_or s.loaded g 0)) in
      subst Sized (sym (after_is rs)) (sized-current s (final_tables s rs) n z)

  pub after-shaped : (rs : List Replacement) → Shaped s → Shaped (after s rs)
  after-shaped rs shape = record { sized = after-sized rs shape.sized; wide = rw (after_is rs) shape.wide }

  -- and what it holds in bytes
  pub after-narrow : (rs : List Replacement) → Narrow s → Narrow (after s rs)
  after-narrow rs narrow =
      subst Narrow (sym (after_is rs)) (record { counts = narrow.counts; arities = narrow.arities; slots = narrow.slots; outs = narrow.outs })
