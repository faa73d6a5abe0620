-- What writing a BLIF text leaves: by the tests of the copies and of `out`, then by the answer of the text's room. Assumes nothing.
use mathlib.Core.Path.{◌≡◌, refl, sym, ap, ◌∙◌}
use mathlib.Core.List.{List, [], ◌∷◌}
use Prim.Native.Nat.{ℕ, ◌≤◌}
use native.Mathlib.Omega.{arith}
use lib.ListN.{length}
use Rattle.bits.specs.Lists.{overwritten}
use Rattle.std.specs.Prelude.{Result, Ok, Err}
use Rattle.network.specs.Answer.{Answer, Done}
use Rattle.network.specs.declared.Session.{Session}
use Rattle.network.specs.declared.Refusal.{Refusal}
use Rattle.network.specs.declared.Refusal.{Refusal}
use Rattle.network.specs.Refusals.{number_of}
use Rattle.network.specs.Tests.{or_else, first}
use Rattle.network.specs.State.{state_test}
use Rattle.network.specs.Calls.{room_test, filled, with_length}
use Rattle.network.proofs.TestLaws.{alone, stopped, went_on}
use Rattle.blif.specs.Write.{blif_text, copies_test, write_blif_of}
use Rattle.bliftrip.proofs.Ends.{copies-by}
use Rattle.promises.specs.Boundary.{left, write_blif_work}
use Rattle.promises.proofs.Tested.{room-i}
use Rattle.promises.proofs.Names.{NamesMost, names-first, names-room}
use Rattle.promises.proofs.Leaves.{Leaves, refused, worked, room-passed}
use Rattle.promises.proofs.Fills.{fills, written, unwritten}

-- of `out` nothing is asked at first
pub unasked : (out : List ℕ) → Done ≡ room_test 0 out
unasked out = sym (room-i 0 out (omega arith))

-- the copies are counted before `out` is asked for
pub in-turn : (s : Session) (out : List ℕ) {x y : Answer} → x ≡ copies_test s → y ≡ room_test 1 out → or_else x (or_else y Done) ≡ first (copies_test s ∷ room_test 1 out ∷ [])
in-turn s out e f = rw (e, f)

-- filling hands on its answer
answer-filled : (a : Answer) (new buffer : List ℕ) → (filled a new buffer).answer ≡ a
answer-filled (Ok _) new buffer = refl
answer-filled (Err r) new buffer = refl

module _ (s : Session) (text out : List ℕ) {a : Answer} (f : a ≡ first (copies_test s ∷ room_test 1 out ∷ [])) where
  abbrev new : List ℕ
  new = blif_text s

  abbrev room : Answer
  room = room_test (length new) text

  -- 3, or 9 for `out`
  pub early : {r : Refusal} {k : ℕ} → a ≡ Err r → k ≡ number_of r → Leaves (worked (write_blif_work text out s) text out) k text out
  early h p =
      let tests = copies_test s ∷ room_test 1 out ∷ [] in
      let y = stopped tests (room ∷ []) f h in
      let n = names-first 0 tests (copies-by (NamesMost 0) (omega arith) (omega arith) s, (names-room 0 1 out, tt)) in
      refused (length new ∷ []) new text out (sym y ∙ h) (rw (← y, f) n) p

  module _ (h : a ≡ Done) (v : state_test s ≡ Done) {w : Result ℕ Refusal} {b : List ℕ} (q : record { answer = w; buffer = b } ≡ write_blif_of s text) where
    passed : (copies_test s ≡ Done) × (1 ≤ length out)
    passed = room-passed (copies_test s) 1 out f h

    -- what is left to test is the text's room
    by-room : record { answer = w; buffer = b } ≡ with_length (length new) (filled (first (room ∷ [])) new text)
    unfolding write_blif_of
    by-room = q ∙ rw (v, passed.0)

    same : fills (first (room ∷ [])) (length new ∷ []) new text out ≡ worked (write_blif_work text out s) text out
    same =
        ap (λ (x : Answer). left (first (x ∷ [])) (length new ∷ []) new text out) (answer-filled (first (room ∷ [])) new text)
        ∙ ap (λ (x : Answer). left x (length new ∷ []) new text out) (sym (alone (first (room ∷ []))) ∙ went_on (copies_test s ∷ room_test 1 out ∷ []) (room ∷ []) f h)

    pub given : {n : ℕ} {o : List ℕ} → w ≡ Ok n → o ≡ overwritten (n ∷ []) out → Leaves (worked (write_blif_work text out s) text out) 0 b o
    given e p = written (first (room ∷ [])) new text out by-room e p ∙ same

    pub short : {r : Refusal} {k : ℕ} → w ≡ Err r → k ≡ number_of r → Leaves (worked (write_blif_work text out s) text out) k b out
    short e p = unwritten (first (room ∷ [])) new text out by-room (names-first 0 (room ∷ []) (names-room 0 (length new) text, tt)) e p ∙ same
