-- What each call gives where 10 refuses it, and what exchange gives by its answer. Assumes nothing.
use mathlib.Core.Path.{◌≡◌, sym, ◌∙◌}
use mathlib.Core.List.{List}
use Prim.Native.Nat.{ℕ}
use Rattle.std.specs.Prelude.{Ok, Err}
use Rattle.network.specs.Answer.{Answer, Done}
use Rattle.network.specs.declared.Session.{Session}
use Rattle.network.specs.declared.Refusal.{Refusal}
use Rattle.network.specs.Net.{Replacement}
use Rattle.network.specs.State.{state_test}
use Rattle.network.specs.Calls.{stored, exchange_answer, exchange_of, tables_of, counts_of}
use Rattle.answers.proofs.Given.{filling}

-- ## Exchange, and what 10 leaves of a buffer

pub exchange-refused : (s : Session) (r : Replacement) {a : Answer} {f : Refusal} → a ≡ exchange_answer s r → a ≡ Err f → Err f ≡ exchange_of s r
unfolding exchange_of
exchange-refused s r e k = rw (sym e ∙ k)

pub exchange-done : (s : Session) (r : Replacement) {a : Answer} → a ≡ exchange_answer s r → a ≡ Done → Ok (stored s r) ≡ exchange_of s r
unfolding exchange_of
exchange-done s r e k = rw (sym e ∙ k)

-- a call that fills a lent buffer with `new`
pub filling-invalid : (s : Session) (new buffer : List ℕ) {r : Refusal} → state_test s ≡ Err r → filling s new buffer ≡ record { answer = Err r; buffer = buffer }
filling-invalid s new buffer e = rw e

-- ## Tables

pub tables-invalid : (s : Session) (k : ℕ) {r : Refusal} → state_test s ≡ Err r → Err r ≡ tables_of s k
unfolding tables_of
tables-invalid s k e = rw e

-- ## Counts

pub counts-invalid : (s : Session) {r : Refusal} → state_test s ≡ Err r → Err r ≡ counts_of s
unfolding counts_of
counts-invalid s e = rw e
