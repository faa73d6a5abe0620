-- The tests of a call on lent words: what holds of each refusal, and of what is left where they pass, holds of the answer. And what
-- words that pass have. Assumes nothing.
use mathlib.Core.Path.{◌≡◌}
use mathlib.Core.Bool.{not}
use mathlib.Core.List.{List, [], ◌∷◌}
use Prim.Native.Nat.{ℕ, ◌≤◌}
use native.Mathlib.Omega.{arith}
use lib.Dec.{ltb}
use lib.ListN.{length, take}
use borrow.Author.Tests.{le-ltb, ltb-false}
use Rattle.std.specs.Prelude.{Err}
use Rattle.network.specs.Answer.{Answer, Done}
use Rattle.network.specs.declared.Session.{Session}
use Rattle.network.specs.declared.Refusal.TheVariants.{BufferTooShort, InvalidState}
use Rattle.network.specs.Bounds.{most_gates, most_outputs, fanin_places, excluded_words}
use Rattle.network.specs.Tests.{first}
use Rattle.network.specs.State.{state_test}
use Rattle.network.specs.Valid.{Sized}
use Rattle.network.specs.Calls.{filled, room_test}
use Rattle.network.proofs.ByTest.{Before, if-by, room_by, state-by}
use Rattle.network.proofs.TestLaws.{passed, Clear, clear-e, clear-i}
use Rattle.packed.specs.Packed.{arity_start, fanins_start, outputs_start, excluded_start, loaded_start, current_start, open_start, session_words, byte_words, session_in, all_bytes, bytes_test, words_test}
use Rattle.packed.proofs.Reading.{length_part}
use Rattle.promises.specs.Boundary.{Work}

pub room-i : (needed : ℕ) (buffer : List ℕ) → needed ≤ length buffer → room_test needed buffer ≡ Done
room-i needed buffer h = rw (le-ltb (length buffer) needed h)

pub room-e : (needed : ℕ) (buffer : List ℕ) → room_test needed buffer ≡ Done → needed ≤ length buffer
room-e needed buffer e = ltb-false (length buffer) needed (passed (ltb (length buffer) needed) BufferTooShort e)

-- ## The tests of a call

-- the words of a session: 9, 10
pub words-by : (Q : Answer → Type 0) (ws : List ℕ) → Q (Err BufferTooShort) → Q (Err InvalidState) → (words_test ws ≡ Done → Q Done) → Q (words_test ws)
unfolding words_test bytes_test
words-by Q ws short bad q =
    let s = session_in ws in
    let bytes = not (all_bytes (take byte_words ws)) in
    room_by (Before Q (first (bytes_test ws ∷ state_test s ∷ []))) session_words ws short
    (λ l. if-by (Before Q (first (state_test s ∷ []))) bytes InvalidState bad
    (λ b. state-by (Before Q Done) s bad
    (λ v. q (clear-i (room_test session_words ws ∷ bytes_test ws ∷ state_test s ∷ []) (room-i session_words ws l, (rw b, (v, tt)))))))

-- a call on a session: its words, the room of `out`, then its own tests
pub session-by : (Q : Answer → Type 0) (ws out : List ℕ) (w : Work) → Q (Err BufferTooShort) → Q (Err InvalidState)
    → (words_test ws ≡ Done → w.room ≤ length out → Q (first w.tests)) → Q (first (words_test ws ∷ room_test w.room out ∷ w.tests))
session-by Q ws out w short bad q =
    words-by (Before Q (first (room_test w.room out ∷ w.tests))) ws short bad (λ v. room_by (Before Q (first w.tests)) w.room out short (q v))

-- a call that fills a buffer with `new`: a session is tested once more before the buffer's room
abbrev pub fill_answer : Session → (new buffer : List ℕ) → Answer
fill_answer s new buffer = (filled (first (state_test s ∷ room_test (length new) buffer ∷ [])) new buffer).answer

module _ (Q : Answer → Type 0) (new buffer : List ℕ) where
  -- Q of the answer that filling hands on
  abbrev pub Filling : Answer → Type 0
  Filling a = Q (filled a new buffer).answer

  pub fill-by : (s : Session) → Q (Err InvalidState) → Q (Err BufferTooShort) → (length new ≤ length buffer → Q Done) → Q (fill_answer s new buffer)
  fill-by s bad short q =
      state-by (Before Filling (first (room_test (length new) buffer ∷ []))) s bad (λ v. room_by (Before Filling Done) (length new) buffer short q)

-- ## Words that pass hold a session

module _ (ws : List ℕ) (e : words_test ws ≡ Done) where
  words-clear : Clear (room_test session_words ws ∷ bytes_test ws ∷ state_test (session_in ws) ∷ [])
  unfolding words_test
  words-clear = clear-e (room_test session_words ws ∷ bytes_test ws ∷ state_test (session_in ws) ∷ []) e

  pub words_long : session_words ≤ length ws
  words_long = room-e session_words ws words-clear.0

  pub words-state : state_test (session_in ws) ≡ Done
  words-state = words-clear.1.1.0

  pub words-sized : Sized (session_in ws)
  unfolding session_in
  words-sized =
      let l = words_long in
      record {
        words = length_part ws excluded_start excluded_words (omega arith);
        arities = length_part ws arity_start most_gates (omega arith);
        slots = length_part ws fanins_start fanin_places (omega arith);
        loads = length_part ws loaded_start most_gates (omega arith);
        currents = length_part ws current_start most_gates (omega arith);
        opens = length_part ws open_start most_gates (omega arith);
        outs = length_part ws outputs_start most_outputs (omega arith);
      }
