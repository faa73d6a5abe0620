-- Calls on the words that a load, or a BLIF text read, and any list of exchange calls left. Assumes nothing.
use Rattle.std.specs.Prelude.{◌≡◌, ◌↔◌, Bool, true, false, List, [], ◌∷◌, ℕ, ◌/◌, ◌%◌, ◌^◌, ◌<◌, ◌≤◌, length}
use Rattle.bits.specs.Lists.{overwritten}
use Rattle.bits.specs.Bit.{bit}
use Rattle.network.specs.declared.Session.{Session}
use Rattle.network.specs.Net.{is_gate, entries, Replacement}
use Rattle.network.specs.DontCares.{sdc, cdc, full}
use Rattle.network.specs.Compatible.{open_table}
use Rattle.network.specs.Flat.{loaded_net, current_net}
use Rattle.network.specs.Tests.{member}
use Rattle.network.specs.Load.{session_of, load_of}
use Rattle.network.specs.Calls.{fits, alters}
use Rattle.network.specs.Sessions.{after, picked}
use Rattle.blif.specs.Read.{read_blif_of}
use Rattle.promises.specs.Boundary.{load_call, read_blif_call, tables_call, verdict_call, verdict_call_on, exchange_call}
use Rattle.promises.specs.Promises.{Asked, words_after, roomy}

-- each of the pairs would be accepted by an exchange call on these words, and no gate stands twice among them and the named ones
abbrev pub AcceptableCalls : List ℕ → (named : List ℕ) → List Replacement → Type 0
AcceptableCalls ws named [] = Unit {0}
AcceptableCalls ws named (r ∷ rs) =
    ((out : List ℕ) × ((exchange_call ws r out).number ≡ 0)) × (member r.signal named ≡ false) × AcceptableCalls ws (r.signal ∷ named) rs

pub record AfterCalls (ws : List ℕ) (s : Session) (list : List Asked) : Type 0 where
  -- the tables are 01's: SDC, CDC and full table of the current network, the open table of the loaded one
  pub tables : (g : ℕ) (out : List ℕ) → is_gate (loaded_net s) g ≡ true → 5 ≤ length out
      → let C = current_net (after s (roomy list)) in
      tables_call (words_after ws list) g out
      ≡ record { number = 0; buffer = []; out = overwritten (sdc C g % 2 ^ 64 ∷ sdc C g / 2 ^ 64 ∷ cdc C g ∷ full C g ∷ open_table (loaded_net s) g ∷ []) out }
  -- rule 4: a lone replacement is found harmless exactly when it alters, of the loaded table, only entries of the full table
  pub rule4 : (r : Replacement) (v : List ℕ) → is_gate (loaded_net s) r.signal ≡ true → fits (loaded_net s) r ≡ true → 2 ≤ length v
      → ((verdict_call_on (words_after ws list) (r ∷ []) v).number ≡ 0)
      ↔ ((t : ℕ) → t < entries (loaded_net s) r.signal → alters (loaded_net s) r t ≡ true
      → bit (full (current_net (after s (roomy list))) r.signal) t ≡ true)
  -- what exchange calls would accept, each for itself, one verdict call finds harmless together
  pub together : (rs : List Replacement) (v : List ℕ) → 2 ≤ length v
      → AcceptableCalls (words_after ws list) [] rs → (verdict_call_on (words_after ws list) rs v).number ≡ 0
  -- and so every part of it
  pub part : (rs : List Replacement) (p : ℕ → Bool) (v : List ℕ) → 2 ≤ length v
      → AcceptableCalls (words_after ws list) [] rs → (verdict_call_on (words_after ws list) (picked p rs) v).number ≡ 0
  -- the list of one: what an exchange call accepts, a verdict call finds harmless
  pub lone : (r : Replacement) (out v : List ℕ) → 2 ≤ length v
      → (exchange_call (words_after ws list) r out).number ≡ 0 → (verdict_call_on (words_after ws list) (r ∷ []) v).number ≡ 0
  -- nothing at all is harmless
  pub empty : (v : List ℕ) → 2 ≤ length v → (verdict_call (words_after ws list) [] [] v).number ≡ 0

pub record AfterCallsOf : Type 0 where
  pub load : (file session : List ℕ) (list : List Asked) → (load_call file session).number ≡ 0
      → AfterCalls (load_call file session).buffer (session_of (load_of file)) list
  pub read_blif : (text session : List ℕ) (list : List Asked) → (read_blif_call text session).number ≡ 0
      → AfterCalls (read_blif_call text session).buffer (session_of (read_blif_of text)) list
