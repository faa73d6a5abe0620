-- Demand 1 of the calls: each ends in one of its outcomes. Its tests are gone through in their order, and each refusal gives its
-- number. Assumes nothing.
use mathlib.Core.Path.{◌≡◌, refl, sym, ap, ◌∙◌}
use mathlib.Core.Logic.{◌⊎◌, inl, inr, ⊎_elim}
use mathlib.Core.Bool.{Bool, true, false, ◌||◌}
use mathlib.Core.List.{List, [], ◌∷◌, ◌++◌}
use Prim.Native.Nat.{ℕ, zero, suc, ◌+◌, ◌*◌, ◌-◌, ◌≤◌}
use native.Mathlib.Omega.{arith}
use lib.Dec.{eqb}
use borrow.Author.Tests.{eq-eqb}
use lib.ListN.{length, set, length-append, length-set}
use Rattle.bits.specs.Range.{places}
use Rattle.bits.proofs.Ranges.{or_r, length-places}
use Rattle.bits.proofs.Logic.{clash}
use Rattle.std.specs.Prelude.{Result, Err}
use Rattle.network.specs.Answer.{Answer, Done, answer_of}
use Rattle.network.specs.Load.{session_of}
use Rattle.network.specs.declared.Refusal.{Refusal}
use Rattle.network.specs.declared.Session.{Session}
use Rattle.network.specs.declared.Refusal.TheVariants.{BufferTooShort, InvalidState}
use Rattle.network.specs.Net.{Net, Replacement}
use Rattle.network.specs.Compatible.{compatible_count}
use Rattle.network.specs.Flat.{loaded_net}
use Rattle.network.specs.Refusals.{number_of}
use Rattle.network.specs.Tests.{first, member}
use Rattle.network.specs.State.{state_test}
use Rattle.network.specs.Write.{bytes_of}
use Rattle.network.specs.Calls.{harm_test, held_closed, exchange_tests, exchange_answer, lengths_test, pairs, pairs_test, verdict_of, gate_tables, stored, room_test, set_words, pattern_sets_of, write_of}
use Rattle.network.proofs.Slots.{sized-current}
use Rattle.network.proofs.ByTest.{Before, room_by, state-by, gate-by, table-by, closed-by, harm-by, lengths-by, first_by, pairs-by}
use Rattle.blif.specs.Write.{blif_text}
use Rattle.bliftrip.proofs.Ends.{copies-by}
use Rattle.render.specs.Listing.{listing_of, listing_into}
use Rattle.demands.specs.Demands.{all_in_place}
use Rattle.packed.specs.Packed.{packed_of, session_words, session_in, words_test}
use Rattle.packed.proofs.Inverse.{packed-length}
use Rattle.promises.specs.Boundary.{values_for, left, table_words, tables_room, tables_work, all_table_words, verdict_work, exchange_work, write_blif_work, read_answer, read_call, load_call, read_blif_call, listing_call, tables_call, all_tables_call, pattern_sets_call, hidden_call, verdict_call, exchange_call, write_call, write_blif_call}
use Rattle.promises.specs.Promises.{Gives, Refuses, Names, Ends, Demand1Calls}
use Rattle.promises.proofs.Readers.{read-room, Reader, load-reader, blif-reader}
use Rattle.promises.proofs.Tested.{session-by, fill_answer, Filling, fill-by, words_long, words-sized}

-- ## Lengths

pub tables-length : (s : Session) (g : ℕ) → length (all_table_words s g) ≡ tables_room * g
tables-length s zero = refl
tables-length s (suc g) =
    let h = tables-length s g in
    let n = length-append (all_table_words s g) (table_words (gate_tables s (s.n + g))) in
    omega arith

-- the number of patterns in H of each gate
abbrev pub hidden_counts : Session → List ℕ
hidden_counts s = places s.m (λ g. compatible_count (loaded_net s) (s.n + g))

pub hidden-length : (s : Session) → length (hidden_counts s) ≡ s.m
hidden-length s = length-places s.m (λ g. compatible_count (loaded_net s) (s.n + g))

-- with one table set, the session in words takes as many of them
stored-room : (ws : List ℕ) (r : Replacement) → words_test ws ≡ Done → length (packed_of (stored (session_in ws) r)) ≤ length ws
stored-room ws r e =
    let s = session_in ws in
    let l = words_long ws e in
    let z = words-sized ws e in
    let ts = set s.current (r.signal - s.n) r.table in
    let n = packed-length (stored s r) (sized-current s ts (length-set s.current (r.signal - s.n) r.table ∙ z.currents) z) in
    omega arith

-- ## The calls

-- what a call with this answer leaves
abbrev EndsBy : (new buffer given out numbers : List ℕ) → Answer → Type 0
EndsBy new buffer given out numbers a = Ends (left a given new buffer out) new buffer given out numbers

listing-ends : (file text out : List ℕ) → Ends (listing_call file text out) (listing_of file) text (length (listing_of file) ∷ []) out (9 ∷ [])
unfolding listing_call listing_into
listing-ends file text out =
    let new = listing_of file in
    let Q : Answer → Type 0 = EndsBy new text (length new ∷ []) out (9 ∷ []) in
    let short : Q (Err BufferTooShort) = inr (9, refl, refl) in
    room_by (Before Q (first ((listing_into file text).answer ∷ []))) 1 out short
    (λ o. room_by (Filling (Before Q Done) new text) (length new) text short (λ t. inl (t, o, refl)))

module _ (ws : List ℕ) where
  abbrev s : Session
  s = session_in ws

  abbrev N : Net
  N = loaded_net s

  tables_end : (gate : ℕ) (out : List ℕ) → Ends (tables_call ws gate out) [] [] (table_words (gate_tables s gate)) out (9 ∷ 10 ∷ 11 ∷ [])
  unfolding tables_call
  tables_end gate out =
      let Q : Answer → Type 0 = EndsBy [] [] (table_words (gate_tables s gate)) out (9 ∷ 10 ∷ 11 ∷ []) in
      session-by Q ws out (tables_work gate s) (inr (9, refl, refl)) (inr (10, refl, refl))
      (λ v o. gate-by (Before Q Done) N gate (inr (11, refl, refl)) (λ w. inl (omega arith, o, refl)))

  -- with no test of its own, and nothing new in a buffer
  room-ends : (needed : ℕ) (given out : List ℕ) → length given ≡ needed
      → EndsBy [] [] given out (9 ∷ 10 ∷ []) (first (words_test ws ∷ room_test needed out ∷ []))
  room-ends needed given out e =
      session-by (EndsBy [] [] given out (9 ∷ 10 ∷ [])) ws out (record { room = needed; tests = []; given = given; new = [] })
      (inr (9, refl, refl)) (inr (10, refl, refl)) (λ v o. inl (omega arith, omega arith, refl))

  -- that fills a buffer
  fills-end : (room : ℕ) (given new buffer out : List ℕ) → length given ≡ room
      → EndsBy new buffer given out (9 ∷ 10 ∷ []) (first (words_test ws ∷ room_test room out ∷ fill_answer s new buffer ∷ []))
  fills-end room given new buffer out e =
      let Q : Answer → Type 0 = EndsBy new buffer given out (9 ∷ 10 ∷ []) in
      let short : Q (Err BufferTooShort) = inr (9, refl, refl) in
      let bad : Q (Err InvalidState) = inr (10, refl, refl) in
      session-by Q ws out (record { room = room; tests = fill_answer s new buffer ∷ []; given = given; new = new }) short bad
      (λ v o. fill-by (Before Q Done) new buffer s bad short (λ b. inl (b, omega arith, refl)))

  -- 3 before the room of `out`
  write-blif-ends : (text out : List ℕ) → Ends (write_blif_call ws text out) (blif_text s) text (length (blif_text s) ∷ []) out (3 ∷ 9 ∷ 10 ∷ [])
  unfolding write_blif_call
  write-blif-ends text out =
      let new = blif_text s in
      let Q : Answer → Type 0 = EndsBy new text (length new ∷ []) out (3 ∷ 9 ∷ 10 ∷ []) in
      let short : Q (Err BufferTooShort) = inr (9, refl, refl) in
      let rooms = room_test 1 out ∷ room_test (length new) text ∷ [] in
      session-by Q ws out (write_blif_work text out s) short (inr (10, refl, refl))
      (λ v z. copies-by (Before Q (first rooms))
      (room_by (Before Q (first (room_test (length new) text ∷ []))) 1 out short (λ o. room_by (Before Q Done) (length new) text short (λ t. inl (t, o, refl))))
      (inr (3, refl, refl)) s)

  -- verdict and exchange have their tests in one
  verdict-ends : (gs ts out : List ℕ) → let l = verdict_call ws gs ts out in
      Gives l [] [] [] out ⊎ (Refuses l (9 ∷ 10 ∷ 11 ∷ 12 ∷ 15 ∷ 16 ∷ []) [] out ⊎ ((x : ℕ) × (i : ℕ) × Names l 14 (x ∷ i ∷ []) [] out))
  unfolding verdict_call verdict_of
  verdict-ends gs ts out =
      let Q : Answer → Type 0 = λ a. let l = left a [] [] [] out in
      Gives l [] [] [] out ⊎ (Refuses l (9 ∷ 10 ∷ 11 ∷ 12 ∷ 15 ∷ 16 ∷ []) [] out ⊎ ((x : ℕ) × (i : ℕ) × Names l 14 (x ∷ i ∷ []) [] out)) in
      let R = Before Q Done in
      let rs = pairs gs ts in
      let M = all_in_place s rs in
      let ok : Q Done = inl (omega arith, omega arith, refl) in
      let bad : Q (Err InvalidState) = inr (inl (10, refl, refl)) in
      session-by Q ws out (verdict_work gs ts s) (inr (inl (9, refl, refl))) bad
      (λ v o. first_by R ok (state_test s ∷ lengths_test gs ts ∷ pairs_test N [] rs ∷ harm_test N M ∷ []) (
        state-by R s bad (λ u. ok),
        (
          lengths-by R gs ts (inr (inl (15, refl, refl))) (λ e. ok),
          (
            pairs-by R N [] rs (inr (inl (11, refl, refl))) (inr (inl (16, refl, refl))) (inr (inl (12, refl, refl))) ok,
            (harm-by R N M (λ x i. inr (inr (x, i, (o, refl)))) ok, tt),
          ),
        ),
      ))

  exchange-ends : (r : Replacement) (out : List ℕ) → let l = exchange_call ws r out in
      Gives l (packed_of (stored s r)) ws [] out ⊎ (Refuses l (9 ∷ 10 ∷ 11 ∷ 12 ∷ []) ws out ⊎ ((t : ℕ) × Names l 13 (t ∷ []) ws out))
  unfolding exchange_call exchange_answer
  exchange-ends r out =
      let new = packed_of (stored s r) in
      let Q : Answer → Type 0 = λ a. let l = left a [] new ws out in
      Gives l new ws [] out ⊎ (Refuses l (9 ∷ 10 ∷ 11 ∷ 12 ∷ []) ws out ⊎ ((t : ℕ) × Names l 13 (t ∷ []) ws out)) in
      let R = Before Q Done in
      let shut = held_closed s r.signal in
      let bad : Q (Err InvalidState) = inr (inl (10, refl, refl)) in
      session-by Q ws out (exchange_work r s) (inr (inl (9, refl, refl))) bad
      (λ v o.
      let ok : Q Done = inl (stored-room ws r v, omega arith, refl) in
      first_by R ok (state_test s ∷ exchange_tests N shut r) (
        state-by R s bad (λ u. ok),
        (
          gate-by R N r.signal (inr (inl (11, refl, refl))) (λ w. ok),
          (table-by R N r (inr (inl (12, refl, refl))) (λ f. ok), (closed-by R N shut r (λ t. inr (inr (t, (o, refl)))) ok, tt)),
        ),
      ))

-- ## A file or a BLIF text: its refusals, then 9

more_numbers : (x y : ℕ) (ys : List ℕ) → member x ys ≡ true → member x (ys ++ y ∷ []) ≡ true
more_numbers x y [] e = clash e refl
more_numbers x y (z ∷ ys) e = go (eqb z x) (more_numbers x y ys) e
  where
    go : (b : Bool) → (member x ys ≡ true → member x (ys ++ y ∷ []) ≡ true) → (b || member x ys) ≡ true → (b || member x (ys ++ y ∷ [])) ≡ true
    go true f e = refl
    go false f e = f e

last-number : (y : ℕ) (ys : List ℕ) → member y (ys ++ y ∷ []) ≡ true
last-number y [] = rw (eq-eqb y y refl)
last-number y (z ∷ ys) = or_r (eqb z y) (member y (ys ++ y ∷ [])) (last-number y ys)

read-ends : {l : Result Session Refusal} {ns : List ℕ} → Reader l ns → (session : List ℕ) → Ends (read_call l session) (packed_of (session_of l)) session [] [] (ns ++ 9 ∷ [])
read-ends {l} {ns} reads session =
    let Q : Answer → Type 0 = EndsBy (packed_of (session_of l)) session [] [] (ns ++ 9 ∷ []) in
    let room = room_test session_words session in
    let by : (a : Answer) → answer_of l ≡ a → Q (first (a ∷ room ∷ [])) → Q (read_answer l session) = λ a e q. rw e q in
    ⊎_elim
    (λ d. let e = ap answer_of d in
    by Done e (room_by (Before Q Done) session_words session (inr (9, last-number 9 ns, refl)) (λ h. inl (read-room l session (reads.sized e) h, omega arith, refl))))
    (λ f. let e = ap answer_of f.2 in
    by (Err f.0) e (inr (number_of f.0, more_numbers (number_of f.0) 9 ns f.1, rw (sym (ap (λ (a : Answer). values_for a []) e) ∙ reads.none))))
    reads.ends

-- ## All the calls

pub demand1-calls : Demand1Calls
unfolding load_call read_blif_call all_tables_call pattern_sets_call hidden_call write_call pattern_sets_of write_of
demand1-calls = record {
  load = λ bytes. read-ends (load-reader bytes);
  read_blif = λ text. read-ends (blif-reader text);
  listing = listing-ends;
  tables = tables_end;
  all_tables = λ ws out. let s = session_in ws in room-ends ws (tables_room * s.m) (all_table_words s s.m) out (tables-length s s.m);
  pattern_sets = λ ws words. let s = session_in ws in fills-end ws 0 [] (set_words s s.m) words [] refl;
  hidden = λ ws out. let s = session_in ws in room-ends ws s.m (hidden_counts s) out (hidden-length s);
  write = λ ws file out. let s = session_in ws in fills-end ws 1 (length (bytes_of s) ∷ []) (bytes_of s) file out refl;
  write_blif = write-blif-ends;
  verdict = verdict-ends;
  exchange = exchange-ends;
}
