-- After a load and any list of exchange calls: the tables that a call gives are 01's, a verdict call goes by rule 4, and it finds
-- harmless together what exchange calls would accept each for itself. Over words that hold a session as a reader leaves it, and so of every file that loads.
-- Assumes nothing.
use mathlib.Core.Path.{◌≡◌, sym, ap, ◌∙◌}
use mathlib.Core.Logic.{◌↔◌}
use mathlib.Core.Bool.{true}
use mathlib.Core.List.{List, [], ◌∷◌}
use Prim.Native.Nat.{ℕ, ◌/◌, ◌%◌, ◌^◌, ◌≤◌}
use lib.ListN.{length, get_or}
use Rattle.bits.specs.Lists.{overwritten}
use Rattle.network.specs.declared.Session.{Session}
use Rattle.network.specs.Net.{Net, is_gate, Replacement, signals, new_tables}
use Rattle.network.specs.DontCares.{sdc, cdc, full}
use Rattle.network.specs.Flat.{loaded_net, current_net}
use Rattle.network.specs.Refusals.{said}
use Rattle.network.specs.Calls.{verdict_of, verdict_on, gate_tables, room_test}
use Rattle.network.specs.Sessions.{after, answer_by, Acceptable, picked, Together}
use Rattle.network.proofs.TestLaws.{clear-e}
use Rattle.network.proofs.Exchanges.{after-loaded, after_open}
use Rattle.network.proofs.Together.{together}
use Rattle.network.proofs.Inside.{rule4-loaded}
use Rattle.promises.specs.Boundary.{Left, number_for, table_words, tables_call, verdict_call, verdict_call_on, exchange_call}
use Rattle.promises.specs.Promises.{Asked, words_after, asked_answer, roomy, Holds}
use Rattle.promises.specs.AfterCalls.{AcceptableCalls, AfterCalls, AfterCallsOf}
use Rattle.promises.proofs.Names.{number-said, zero-done}
use Rattle.promises.proofs.Demand2Calls.{verdict-left, demand2-calls}
use Rattle.promises.proofs.Demand3Calls.{Ready, demand3-calls, call-after, loaded-ready, blif-ready}

-- ## An exchange that is accepted

-- an exchange call gives 0 only where the exchange is accepted
accepted : (N : Net) (a : Asked) → number_for (asked_answer N a) ≡ 0 → said (answer_by N a.exchange) ≡ []
accepted N a k = ap said (clear-e (room_test 1 a.out ∷ answer_by N a.exchange ∷ []) (zero-done (asked_answer N a) k)).1.0

-- ## A verdict that is harmless

-- a verdict call gives 0 exactly where the engine's verdict says nothing
verdict-zero : {ws : List ℕ} {s : Session} → Holds ws s → (gs ts v : List ℕ) → 2 ≤ length v → ((verdict_call ws gs ts v).number ≡ 0) ↔ (said (verdict_of s gs ts) ≡ [])
verdict-zero {ws} {s} h gs ts v l =
    let a = verdict_of s gs ts in
    let is : (verdict_call ws gs ts v).number ≡ number_for a =
    ap (λ (x : Left). x.number) (verdict-left ws gs ts v h.passes l) ∙ ap (λ (t : Session). number_for (verdict_of t gs ts)) h.session in (
      λ k. ap said (zero-done a (sym is ∙ k)),
      λ e. is ∙ number-said a ∙ ap (λ (x : List ℕ). get_or x 0 0) e,
    )

-- ## The tables of a gate

tables-words : {ws : List ℕ} {t : Session} → Holds ws t → (g : ℕ) (out : List ℕ) → is_gate (loaded_net t) g ≡ true → 5 ≤ length out
    → tables_call ws g out ≡ record { number = 0; buffer = []; out = overwritten (table_words (gate_tables t g)) out }
tables-words {ws} {t} h g out w l =
    let is = h.session in
    (demand2-calls.tables ws g out h.passes (ap (λ (u : Session). is_gate (loaded_net u) g) is ∙ w) l).2
    ∙ ap (λ (u : Session). record { number = 0; buffer = []; out = overwritten (table_words (gate_tables u g)) out }) is

-- ## After the calls

module _ {ws : List ℕ} {s : Session} (at : Ready ws s) (list : List Asked) where
  abbrev rs : List Replacement
  rs = roomy list

  holds : Holds (words_after ws list) (after s rs)
  holds = (demand3-calls at list).holds

  abbrev all : Together s rs
  all = together s at.fresh rs

  -- a verdict call returns 0 where the engine finds nothing
  harmless : (qs : List Replacement) (v : List ℕ) → 2 ≤ length v → said (verdict_on (after s rs) qs) ≡ [] → (verdict_call_on (words_after ws list) qs v).number ≡ 0
  harmless qs v l = (verdict-zero holds (signals qs) (new_tables qs) v l).1

  accepted-after : (r : Replacement) (o : List ℕ) → (exchange_call (words_after ws list) r o).number ≡ 0 → said (answer_by (loaded_net s) r) ≡ []
  accepted-after r o k = let a : Asked = record { exchange = r; out = o } in accepted (loaded_net s) a (sym (call-after at list a) ∙ k)

  acceptable : (named : List ℕ) (qs : List Replacement) → AcceptableCalls (words_after ws list) named qs → Acceptable (loaded_net s) named qs
  acceptable named [] a = tt
  acceptable named (r ∷ qs) a = (accepted-after r a.0.0 a.0.1, a.1, acceptable (r.signal ∷ named) qs a.2)

  pub after-calls : AfterCalls ws s list
  after-calls = record {
    tables = λ g out w l. let C = current_net (after s rs) in
        tables-words holds g out (ap (λ (N : Net). is_gate N g) (after-loaded s at.fresh rs) ∙ w) l
        ∙ ap (λ (o : ℕ). record { number = 0; buffer = []; out = overwritten (sdc C g % 2 ^ 64 ∷ sdc C g / 2 ^ 64 ∷ cdc C g ∷ full C g ∷ o ∷ []) out }) (after_open s at.fresh rs g w);
    rule4 = λ r v w f l. let h = verdict-zero holds (r.signal ∷ []) (r.table ∷ []) v l in
        let k = rule4-loaded s at.fresh rs r w f in
        (λ e. k.0 (h.0 e), λ e. h.1 (k.1 e));
    together = λ qs v l a. harmless qs v l (all.whole qs (acceptable [] qs a));
    part = λ qs p v l a. harmless (picked p qs) v l (all.part qs p (acceptable [] qs a));
    lone = λ r o v l k. harmless (r ∷ []) v l (all.lone r (accepted-after r o k));
    empty = λ v l. harmless [] v l all.empty;
  }

pub after-calls-of : AfterCallsOf
after-calls-of = record {
  load = λ file session list z. after-calls (loaded-ready file session z) list;
  read_blif = λ text session list z. after-calls (blif-ready text session z) list;
}
