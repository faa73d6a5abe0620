-- Packing and unpacking are inverse. A session that is packed and read back is the same session, whatever words stand behind it;
-- words that are read as a session and packed again are the same words. So to pack the session that `unpack` gave changes no word, and
-- `unpack` gives back every valid session that was packed. Assumes nothing.
use mathlib.Core.Path.{◌≡◌, refl, sym, ap, ◌∙◌}
use mathlib.Core.List.{List, [], ◌∷◌, ◌++◌}
use Prim.Native.Nat.{ℕ, ◌+◌, ◌-◌, ◌≤◌, ◌<◌}
use native.Mathlib.Omega.{arith}
use lib.Dec.{ltb}
use lib.ListN.{length, get_or, take, drop, set, length-append, length-set, take-append-drop}
use lib.Seq.{length-take-le, get_or-set_other, drop-set-lt}
use borrow.Author.Tests.{ltb-false}
use Rattle.bits.specs.Lists.{overwritten}
use Rattle.bits.proofs.Ranges.{every-i}
use Rattle.std.specs.Prelude.{Ok, Err}
use Rattle.network.specs.Answer.{Answer, Done, answer_of, giving}
use Rattle.network.specs.declared.Session.{Session}
use Rattle.network.specs.declared.Refusal.TheVariants.{BufferTooShort}
use Rattle.network.specs.Bounds.{most_gates, most_outputs, fanin_places, excluded_words}
use Rattle.network.specs.State.{state_test}
use Rattle.network.specs.Valid.{Sized, Narrow}
use Rattle.network.specs.Calls.{with_current, room_test}
use Rattle.network.proofs.TestLaws.{passed, clear-e}
use Rattle.packed.specs.Packed.{bytes_held, words_held, packed_of, session_words, byte_words, session_in, bytes_test, words_test, unpack_of, arity_start, fanins_start, outputs_start, excluded_start, loaded_start, current_start, open_start}
use Rattle.packed.proofs.Reading.{length-bytes, length-words, reads, tested}
use Rattle.packed.proofs.Parts.{cut, join, regroup, three, part-before, part-behind, part-set, fits}

-- ## A session and its words

-- how many words a packed session has
pub packed-length : (s : Session) → Sized s → length (packed_of s) ≡ session_words
unfolding packed_of
packed-length s z =
    let a = length-bytes s z in
    let b = length-words s z in
    let c = length-append (bytes_held s) (words_held s) in
    omega arith

-- read back it is the same, whatever words stand behind it
pub packed-back : (s : Session) (behind : List ℕ) → Sized s → session_in (packed_of s ++ behind) ≡ s
unfolding packed_of
packed-back s behind z =
    let ws = packed_of s ++ behind in
    let opens = s.open_tables ++ behind in
    let current = s.current ++ opens in
    let loaded = s.loaded ++ current in
    let excluded = s.excluded ++ loaded in
    let outputs = s.outputs ++ excluded in
    let fanins = s.fanins ++ outputs in
    let a = cut ws s.arity fanins arity_start most_gates (regroup s.arity s.fanins s.outputs s.excluded s.loaded s.current s.open_tables behind) z.arities in
    let f = cut ws s.fanins outputs fanins_start fanin_places a.1 z.slots in
    let o = cut ws s.outputs excluded outputs_start most_outputs f.1 z.outs in
    let e = cut ws s.excluded loaded excluded_start excluded_words o.1 z.words in
    let l = cut ws s.loaded current loaded_start most_gates e.1 z.loads in
    let c = cut ws s.current opens current_start most_gates l.1 z.currents in
    let u = cut ws s.open_tables behind open_start most_gates c.1 z.opens in
    sym (reads ws a.0 f.0 o.0 e.0 l.0 c.0 u.0)

-- words read as a session and packed again are the same words
pub read_back : (ws : List ℕ) → session_words ≤ length ws → packed_of (session_in ws) ≡ take session_words ws
unfolding packed_of session_in
read_back ws h =
    rw (join ws arity_start most_gates fanin_places, join ws arity_start (most_gates + fanin_places) most_outputs, join ws excluded_start excluded_words most_gates, join ws excluded_start (excluded_words + most_gates) most_gates, join ws excluded_start (excluded_words + most_gates + most_gates) most_gates, join ws arity_start (most_gates + fanin_places + most_outputs) (session_words - byte_words)) (three ws (omega arith))

-- also over other words that have the same words behind a session
read-over : (new ws : List ℕ) → session_words ≤ length new → drop session_words new ≡ drop session_words ws → overwritten (packed_of (session_in new)) ws ≡ new
read-over new ws h e = rw (read_back new h, length-take-le session_words new h, ← e) (take-append-drop session_words new)

-- ## One current table set

current-in : (ws : List ℕ) (g t : ℕ) → g < most_gates → session_in (set ws (current_start + g) t) ≡ with_current (session_in ws) (set (session_in ws).current g t)
unfolding session_in
current-in ws g t h =
    let i = current_start + g in
    rw (
      get_or-set_other ws i 0 t 0 (omega arith),
      get_or-set_other ws i 1 t 0 (omega arith),
      get_or-set_other ws i 2 t 0 (omega arith),
      part-before ws arity_start most_gates i t (omega arith),
      part-before ws fanins_start fanin_places i t (omega arith),
      part-before ws outputs_start most_outputs i t (omega arith),
      part-before ws excluded_start excluded_words i t (omega arith),
      part-before ws loaded_start most_gates i t (omega arith),
      part-set ws current_start most_gates g t h,
      part-behind ws open_start most_gates i t (omega arith),
    )

-- to pack a session with one current table set, over the words that hold it, sets one word
pub current-set : (ws : List ℕ) (g t : ℕ) → session_words ≤ length ws → g < most_gates
    → set ws (current_start + g) t ≡ overwritten (packed_of (with_current (session_in ws) (set (session_in ws).current g t))) ws
current-set ws g t h l =
    let n = length-set ws (current_start + g) t in
    sym (ap (λ (s : Session). overwritten (packed_of s) ws) (sym (current-in ws g t l)) ∙ read-over (set ws (current_start + g) t) ws (omega arith) (drop-set-lt session_words ws (current_start + g) t (omega arith)))

-- ## With the tests

answered : (a : Answer) (s : Session) → answer_of (giving a s) ≡ a
answered (Ok _) s = refl
answered (Err r) s = refl

-- `unpack` answers what the tests of the words say
pub unpack-answer : (ws : List ℕ) → answer_of (unpack_of ws) ≡ words_test ws
unfolding unpack_of
unpack-answer ws = answered (words_test ws) (session_in ws)

-- words that `unpack` accepts are enough for a session
accepted-long : (ws : List ℕ) → answer_of (unpack_of ws) ≡ Done → session_words ≤ length ws
unfolding words_test
accepted-long ws e =
    let t = clear-e (room_test session_words ws ∷ bytes_test ws ∷ state_test (session_in ws) ∷ []) (sym (unpack-answer ws) ∙ e) in
    ltb-false (length ws) session_words (passed (ltb (length ws) session_words) BufferTooShort t.0)

-- to pack the session that `unpack` gave changes no word
pub repacked : (ws : List ℕ) → answer_of (unpack_of ws) ≡ Done → overwritten (packed_of (session_in ws)) ws ≡ ws
repacked ws e = read-over ws ws (accepted-long ws e) refl

-- `unpack` gives back every valid session that was packed, over whatever words
pub unpacks : (s : Session) (ws : List ℕ) → Sized s → Narrow s → state_test s ≡ Done → unpack_of (overwritten (packed_of s) ws) ≡ Ok s
unpacks s ws z b v =
    let behind = drop (length (packed_of s)) ws in
    let new = packed_of s ++ behind in
    let m = packed-length s z in
    let n = length-append (packed_of s) behind in
    sym (tested new s (omega arith) (every-i byte_words (λ i. ltb (get_or new i 0) 256) (fits s behind z b)) (sym (packed-back s behind z)) refl v)
