-- Verdict and exchange: what their answers name, and what the calls answer by their tests. Assumes nothing.
use mathlib.Core.Path.{◌≡◌, refl, sym, ap, ◌∙◌}
use mathlib.Core.List.{List, [], ◌∷◌}
use Prim.Native.Nat.{ℕ, ◌≤◌}
use native.Mathlib.Omega.{arith}
use lib.ListN.{length}
use Rattle.std.specs.Prelude.{Ok, Err}
use Rattle.network.specs.Answer.{Answer, Done, answer_of, giving, given_or}
use Rattle.network.specs.declared.Session.{Session}
use Rattle.network.specs.declared.Refusal.{Refusal}
use Rattle.network.specs.Net.{Replacement, replaced}
use Rattle.network.specs.Flat.{loaded_net, current_net}
use Rattle.network.specs.Refusals.{values_of}
use Rattle.network.specs.Tests.{first}
use Rattle.network.specs.State.{state_test}
use Rattle.network.specs.Calls.{room_test, harm_test, held_closed, exchange_tests, exchange_answer, lengths_test, pairs, pairs_test, verdict_of}
use Rattle.network.proofs.TestLaws.{alone, refused-done, given-same}
use Rattle.network.proofs.ByTest.{closed-by, harm-by, lengths-by, pairs-by}
use Rattle.packed.specs.Packed.{session_in, words_test, unpack_of}
use Rattle.promises.proofs.Tested.{room-e}
use Rattle.promises.proofs.Names.{NamesMost, named-room, names-first, names-room, names-state, names-words, names-gate, names_table}

-- ## What the answers name

pub names-exchange : (s : Session) (r : Replacement) → NamesMost 1 (exchange_answer s r)
unfolding exchange_answer
names-exchange s r =
    let N = loaded_net s in
    let shut = held_closed s r.signal in
    names-first 1 (state_test s ∷ exchange_tests N shut r)
    (names-state 1 s, (names-gate 1 N r.signal, (names_table 1 N r, (closed-by (NamesMost 1) N shut r (λ t. omega arith) (omega arith), tt))))

pub names-verdict : (s : Session) (gs ts : List ℕ) → NamesMost 2 (verdict_of s gs ts)
unfolding verdict_of
names-verdict s gs ts =
    let N = loaded_net s in
    let rs = pairs gs ts in
    let M = replaced (current_net s) rs in
    names-first 2 (state_test s ∷ lengths_test gs ts ∷ pairs_test N [] rs ∷ harm_test N M ∷ []) (
      names-state 2 s,
      (
        lengths-by (NamesMost 2) gs ts (omega arith) (λ e. omega arith),
        (pairs-by (NamesMost 2) N [] rs (omega arith) (omega arith) (omega arith) (omega arith), (harm-by (NamesMost 2) N M (λ x i. omega arith) (omega arith), tt)),
      ),
    )

-- ## What the calls answer: the words, the room of `out`, then their own test

module _ (ws out : List ℕ) (needed : ℕ) (y : Answer) where
  abbrev tests : List Answer
  tests = words_test ws ∷ room_test needed out ∷ y ∷ []

  pub answer-unpack : {r : Refusal} → Err r ≡ unpack_of ws → Err r ≡ first (words_test ws ∷ room_test needed out ∷ y ∷ [])
  unfolding unpack_of
  answer-unpack {r} e = go (words_test ws) e
    where
      go : (w : Answer) → Err r ≡ giving w (session_in ws) → Err r ≡ first (w ∷ room_test needed out ∷ y ∷ [])
      go (Ok _) e = refused-done r (ap answer_of e)
      go (Err f) e = ap answer_of e

  pub words-pass : {s : Session} → Ok s ≡ unpack_of ws → (words_test ws ≡ Done) × (s ≡ session_in ws)
  unfolding unpack_of
  words-pass {s} e = go (words_test ws) e
    where
      go : (w : Answer) → Ok s ≡ giving w (session_in ws) → (w ≡ Done) × (s ≡ session_in ws)
      go (Ok _) e = (refl, given-same e)
      go (Err f) e = refused-done f (ap answer_of (sym e))

  pub answer-room : {s : Session} {r : Refusal} → Ok s ≡ unpack_of ws → Err r ≡ room_test needed out → Err r ≡ first (words_test ws ∷ room_test needed out ∷ y ∷ [])
  answer-room e q = rw ((words-pass e).0, ← q)

  pub answer-last : {s : Session} {v : Answer} → Ok s ≡ unpack_of ws → Done ≡ room_test needed out → v ≡ y → v ≡ first (words_test ws ∷ room_test needed out ∷ y ∷ [])
  answer-last e q h = h ∙ rw ((words-pass e).0, ← q) (alone y)

  -- where the answer names values there is room for them
  pub named-fit : {r : Refusal} → NamesMost needed y → Err r ≡ first (words_test ws ∷ room_test needed out ∷ y ∷ []) → length (values_of r) ≤ length out
  named-fit {r} n e = go (words_test ws) refl (room_test needed out) refl e
    where
      go : (w : Answer) → words_test ws ≡ w → (m : Answer) → room_test needed out ≡ m → Err r ≡ first (w ∷ m ∷ y ∷ []) → length (values_of r) ≤ length out
      go (Err f) p m q e = named-room out (p ∙ sym e) (names-words 0 ws) (omega arith)
      go (Ok _) p (Err f) q e = named-room out (q ∙ sym e) (names-room 0 needed out) (omega arith)
      go (Ok _) p (Ok _) q e = named-room out (alone y ∙ sym e) n (room-e needed out q)

-- an answer that gives k
pub giving-err : {a : Answer} {r : Refusal} (k : ℕ) → Err r ≡ a → Err r ≡ giving a k
giving-err k e = rw (← e) refl

pub giving-ok : (a : Answer) (g k : ℕ) → Ok g ≡ giving a k → (a ≡ Done) × (g ≡ k)
giving-ok (Ok _) g k e = (refl, ap (given_or 0) e)
giving-ok (Err r) g k e = refused-done r (ap answer_of (sym e))

pub giving-refused : (a : Answer) (k : ℕ) {r : Refusal} → Err r ≡ giving a k → Err r ≡ a
giving-refused (Ok _) k {r} e = refused-done r (ap answer_of e)
giving-refused (Err f) k e = ap answer_of e
