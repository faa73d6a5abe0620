-- What a call leaves, by its answer; and what the tests of a call on lent words tell. Assumes nothing.
use mathlib.Core.Path.{◌≡◌, refl, sym, ap, subst, ◌∙◌}
use mathlib.Core.List.{List, [], ◌∷◌}
use Prim.Native.Nat.{ℕ, ◌≤◌}
use native.Mathlib.Omega.{arith}
use lib.ListN.{length}
use Rattle.bits.specs.Lists.{overwritten}
use Rattle.std.specs.Prelude.{Result, Ok, Err}
use Rattle.network.specs.Answer.{Answer, Done, answer_of, giving}
use Rattle.network.specs.Load.{session_of}
use Rattle.network.specs.declared.Session.{Session}
use Rattle.network.specs.declared.Refusal.{Refusal}
use Rattle.network.specs.Refusals.{number_of, values_of}
use Rattle.network.specs.Tests.{first}
use Rattle.network.specs.State.{state_test}
use Rattle.network.specs.Calls.{room_test}
use Rattle.network.proofs.TestLaws.{clear-e, alone, stopped, went_on}
use Rattle.packed.specs.Packed.{session_words, session_in, words_test, unpack_of}
use Rattle.promises.specs.Boundary.{Left, left, number_for, Work, on_session}
use Rattle.promises.proofs.Tested.{room-e, words_long, words-state}
use Rattle.promises.proofs.Names.{NamesMost, names-first, names-room, names-words}

-- ## What a call leaves

abbrev pub Leaves : Left → (number : ℕ) (buffer out : List ℕ) → Type 0
Leaves x number buffer out = record { number = number; buffer = buffer; out = out } ≡ x

module _ {a : Answer} (given new buffer out : List ℕ) where
  pub refused-with : {r : Refusal} {k : ℕ} {o : List ℕ} → a ≡ Err r → k ≡ number_of r → o ≡ overwritten (values_of r) out → Leaves (left a given new buffer out) k buffer o
  refused-with e p q = rw (e, p, q)

  -- a refusal that names nothing changes nothing
  pub refused : {r : Refusal} {k : ℕ} → a ≡ Err r → NamesMost 0 a → k ≡ number_of r → Leaves (left a given new buffer out) k buffer out
  refused {r} e h p = refused-with e p (rw (none (values_of r) (rw e at h)))
    where
      none : (l : List ℕ) → length l ≤ 0 → l ≡ []
      none [] n = refl
      none (x ∷ l) n = let z : ⊥ = omega arith in absurd z

  pub done : {b o : List ℕ} → a ≡ Done → b ≡ overwritten new buffer → o ≡ overwritten given out → Leaves (left a given new buffer out) 0 b o
  done e p q = rw (e, p, q)

-- what a call leaves once the tests of the words and of the room refuse nothing
abbrev pub worked : Work → (buffer out : List ℕ) → Left
worked w buffer out = left (first w.tests) w.given w.new buffer out

-- ## The tests of the words and of the room

-- neither what was tested before the room is refused, nor the room
pub room-passed : {a : Answer} (x : Answer) (needed : ℕ) (buffer : List ℕ) → a ≡ first (x ∷ room_test needed buffer ∷ []) → a ≡ Done → (x ≡ Done) × (needed ≤ length buffer)
room-passed x needed buffer f h =
    let c = clear-e (x ∷ room_test needed buffer ∷ []) (sym f ∙ h) in
    (c.0, room-e needed buffer c.1.0)

module _ (ws : List ℕ) {l : Result Session Refusal} (e : l ≡ unpack_of ws) where
  -- tests of what the words hold are tests of what was unpacked
  same_tests : (f : Session → List Answer) → first (answer_of l ∷ f (session_of l)) ≡ first (words_test ws ∷ f (session_in ws))
  unfolding unpack_of
  same_tests f = rw e (go (words_test ws))
    where
      go : (w : Answer) → first (answer_of (giving w (session_in ws)) ∷ f (session_of (giving w (session_in ws)))) ≡ first (w ∷ f (session_in ws))
      go (Ok _) = refl
      go (Err r) = refl

  words-fine : answer_of l ≡ Done → words_test ws ≡ Done
  words-fine h = alone (words_test ws) ∙ sym (same_tests (λ s. [])) ∙ rw h

  held : answer_of l ≡ Done → session_of l ≡ session_in ws
  unfolding unpack_of
  held h = ap session_of e ∙ rw (words-fine h)

-- `a` is the answer of the words and of the room
module _ (work : Session → Work) (ws buffer out : List ℕ) {l : Result Session Refusal} {a : Answer}
    (e : l ≡ unpack_of ws) (f : a ≡ first (answer_of l ∷ room_test (work (session_of l)).room out ∷ [])) where
  abbrev tests : Session → List Answer
  tests s = room_test (work s).room out ∷ []

  pub down : {r : Refusal} {k : ℕ} → a ≡ Err r → k ≡ number_of r → Leaves (on_session work ws buffer out) k buffer out
  down h p =
      let s = session_in ws in
      let x = f ∙ same_tests ws e tests in
      let y = stopped (words_test ws ∷ tests s) (work s).tests x h in
      let n = names-first 0 (words_test ws ∷ tests s) (names-words 0 ws, (names-room 0 (work s).room out, tt)) in
      refused (work s).given (work s).new buffer out (sym y ∙ h) (rw (← y, x) n) p

  -- what is known where it is Done
  pub record Open : Type 0 where
    pub valid : state_test (session_of l) ≡ Done
    pub long : session_words ≤ length ws
    pub room : (work (session_of l)).room ≤ length out
    pub holds : session_of l ≡ session_in ws
    pub leaves : {k : ℕ} {b o : List ℕ} → Leaves (worked (work (session_of l)) buffer out) k b o → Leaves (on_session work ws buffer out) k b o

  pub opens : a ≡ Done → Open
  opens h =
      let c = room-passed (answer_of l) (work (session_of l)).room out f h in
      let q = held ws e c.0 in
      let s = session_in ws in
      let w = words-fine ws e c.0 in
      record {
        valid = rw q (words-state ws w);
        long = words_long ws w;
        room = c.1;
        holds = q;
        leaves = λ {k} {b} {o} v.
            subst (λ x. Leaves (left x (work s).given (work s).new buffer out) k b o) (went_on (words_test ws ∷ tests s) (work s).tests (f ∙ same_tests ws e tests) h) (rw q at v);
      }

-- ## What a call leaves that hands on by `?`

pub told-err : {x : Left} {a : Answer} {r : Refusal} {b o : List ℕ} → a ≡ Err r → Leaves x (number_of r) b o → Leaves x (number_for a) b o
told-err h q = rw h q

module _ (work : Session → Work) (ws buffer out : List ℕ) where
  -- the words hold no session
  pub unpack-stops : {r : Refusal} → Err r ≡ unpack_of ws → Leaves (on_session work ws buffer out) (number_of r) buffer out
  unpack-stops e = down work ws buffer out e refl refl refl

  module _ {s : Session} (e : Ok s ≡ unpack_of ws) where
    pub room-stops : {r : Refusal} → Err r ≡ room_test (work s).room out → Leaves (on_session work ws buffer out) (number_of r) buffer out
    room-stops q = down work ws buffer out e (q ∙ alone (room_test (work s).room out)) refl refl

    pub room-opens : (q : Done ≡ room_test (work s).room out) → Open work ws buffer out e (q ∙ alone (room_test (work s).room out))
    room-opens q = opens work ws buffer out e (q ∙ alone (room_test (work s).room out)) refl
