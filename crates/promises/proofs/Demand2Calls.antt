-- Demand 2 of the calls: what each gives where nothing refuses it, verdicts, and a network written and read again. Assumes nothing.
use mathlib.Core.Path.{◌≡◌, refl, sym, ap, ap₂, ◌∙◌, subst}
use mathlib.Core.Logic.{◌⊎◌, ⊎_elim, ◌↔◌}
use mathlib.Core.Bool.{true}
use mathlib.Core.List.{List, [], ◌∷◌}
use Prim.Native.Nat.{ℕ, suc, ◌+◌, ◌-◌, ◌*◌, ◌/◌, ◌%◌, ◌^◌, ◌≤◌, ◌<◌}
use native.Mathlib.Nat.{min-le_left}
use native.Mathlib.Omega.{arith}
use native.Mathlib.Decide.{dec_lt}
use lib.ListN.{length, get_or, take, drop, length-take, get_or-append, get_or-eq_default}
use lib.Seq.{take-append_seam, get_or-take, get_or-drop}
use borrow.Author.Tests.{le-ltb, ne_eqb}
use Rattle.bits.specs.Lists.{overwritten}
use Rattle.bits.specs.Bit.{bit}
use Rattle.bits.proofs.Ranges.{places-at}
use Rattle.bits.proofs.Logic.{clash}
use Rattle.std.specs.Prelude.{Result, Ok, Err}
use Rattle.network.specs.Answer.{Answer, Done, answer_of}
use Rattle.network.specs.declared.Session.{Session}
use Rattle.network.specs.declared.Refusal.{Refusal}
use Rattle.network.specs.declared.Refusal.TheVariants.{BufferTooShort, InvalidState, Harm}
use Rattle.network.specs.Bounds.{most_fanins, excluded_words}
use Rattle.network.specs.Net.{Net, arity, is_gate, gate as gate_of, patterns, Replacement, signals, new_tables}
use Rattle.network.specs.DontCares.{sdc, NeverGiven}
use Rattle.network.specs.Compatible.{compatible_count}
use Rattle.network.specs.Flat.{loaded_net, current_net}
use Rattle.network.specs.Refusals.{number_of, said}
use Rattle.network.specs.Tests.{member, first}
use Rattle.network.specs.State.{arity_of, state_test}
use Rattle.network.specs.Valid.{Shaped}
use Rattle.network.specs.Load.{session_of, load_of}
use Rattle.network.specs.Write.{bytes_of}
use Rattle.network.specs.Calls.{gate_test, harm_test, lengths_test, pairs, pairs_test, verdict_of, verdict_on, gate_tables, filled, room_test, set_words, pattern_sets_of, write_of}
use Rattle.network.specs.Lists.{FirstFault}
use Rattle.network.specs.Sessions.{NoHarm, FirstHarm}
use Rattle.network.proofs.TestLaws.{alone, clear-e, clear-i, count-e}
use Rattle.network.proofs.Valid.{valid-e, state-e}
use Rattle.network.proofs.Exchanges.{net-arity, gate-e}
use Rattle.network.proofs.Harm.{harm-only, harm-none, harm-at}
use Rattle.network.proofs.ByTest.{Before, pairs-by}
use Rattle.network.proofs.Lists.{pairs-back, lengths-fine, signals-back, tables-back, verdict-is, faulted-of}
use Rattle.render.specs.Listing.{listing_of, listing_into}
use Rattle.blif.specs.Write.{outgoing, blif_text, copies_test}
use Rattle.bliftrip.specs.Trip.{Survives}
use Rattle.demands.specs.Demands.{all_in_place, Changes}
use Rattle.demands.proofs.SdcWords.{sdc-entries}
use Rattle.demands.proofs.Demands.{demand2}
use Rattle.roundtrip.proofs.RoundTrip.{round_trip}
use Rattle.packed.specs.Packed.{packed_of, excluded_start, session_words, part, session_in, words_test}
use Rattle.packed.proofs.Inverse.{packed-back}
use Rattle.promises.specs.Boundary.{Left, number_for, left, table_words, tables_room, all_table_words, write_work, read_call, load_call, read_blif_call, listing_call, tables_call, all_tables_call, pattern_sets_call, hidden_call, verdict_call, verdict_call_on, write_call, write_blif_call}
use Rattle.promises.specs.Promises.{Gives, Words, Asks, Demand2Calls}
use Rattle.promises.proofs.Names.{number-said, zero-done, NamesMost}
use Rattle.promises.proofs.Tested.{room-i, room-e, session-by, fill_answer, fill-by, words-state, words-sized}
use Rattle.promises.proofs.Leaves.{refused}
use Rattle.promises.proofs.Readers.{read-room, Reader, load-reader, blif-reader}
use Rattle.promises.proofs.Demand1Calls.{tables-length, hidden_counts, hidden-length, demand1-calls}

-- ## Where no test refuses

gives : {a : Answer} (given new buffer out : List ℕ) → a ≡ Done → length new ≤ length buffer → length given ≤ length out
    → Gives (left a given new buffer out) new buffer given out
gives given new buffer out e b o = (b, o, rw e)

read-gives : {l : Result Session Refusal} {ns : List ℕ} → Reader l ns → (session : List ℕ) → answer_of l ≡ Done → session_words ≤ length session
    → Gives (read_call l session) (packed_of (session_of l)) session [] []
read-gives {l} reads session e h =
    gives [] (packed_of (session_of l)) session [] (clear-i (answer_of l ∷ room_test session_words session ∷ []) (e, (room-i session_words session h, tt)))
    (read-room l session (reads.sized e) h) (omega arith)

listing-gives : (file text out : List ℕ) → 1 ≤ length out → length (listing_of file) ≤ length text
    → Gives (listing_call file text out) (listing_of file) text (length (listing_of file) ∷ []) out
unfolding listing_call listing_into
listing-gives file text out o t =
    let a : (listing_into file text).answer ≡ Done = rw (le-ltb (length text) (length (listing_of file)) t) in
    gives (length (listing_of file) ∷ []) (listing_of file) text out (clear-i (room_test 1 out ∷ (listing_into file text).answer ∷ []) (room-i 1 out o, (a, tt))) t o

module _ (ws : List ℕ) (v : words_test ws ≡ Done) where
  abbrev s : Session
  s = session_in ws

  tables-given : (gate : ℕ) (out : List ℕ) → is_gate (loaded_net s) gate ≡ true → 5 ≤ length out
      → Gives (tables_call ws gate out) [] [] (table_words (gate_tables s gate)) out
  unfolding tables_call gate_test
  tables-given gate out g o =
      let a : gate_test (loaded_net s) gate ≡ Done = rw g in
      gives (table_words (gate_tables s gate)) [] [] out (clear-i (words_test ws ∷ room_test 5 out ∷ gate_test (loaded_net s) gate ∷ []) (v, (room-i 5 out o, (a, tt))))
      (omega arith) o

  -- with no test of its own
  room-given : (needed : ℕ) (given out : List ℕ) → length given ≡ needed → needed ≤ length out
      → Gives (left (first (words_test ws ∷ room_test needed out ∷ [])) given [] [] out) [] [] given out
  room-given needed given out e o =
      gives given [] [] out (clear-i (words_test ws ∷ room_test needed out ∷ []) (v, (room-i needed out o, tt))) (omega arith) (omega arith)

  -- into a buffer
  fill-given : (room : ℕ) (given new buffer out : List ℕ) → length given ≡ room → room ≤ length out → length new ≤ length buffer
      → Gives (left (first (words_test ws ∷ room_test room out ∷ fill_answer s new buffer ∷ [])) given new buffer out) new buffer given out
  fill-given room given new buffer out e o b =
      let a : fill_answer s new buffer ≡ Done =
      ap (λ (x : Answer). (filled x new buffer).answer)
      (clear-i (state_test s ∷ room_test (length new) buffer ∷ []) (words-state ws v, (room-i (length new) buffer b, tt))) in
      gives given new buffer out (clear-i (words_test ws ∷ room_test room out ∷ fill_answer s new buffer ∷ []) (v, (room-i room out o, (a, tt)))) b (omega arith)

write-gives : (ws file out : List ℕ) → words_test ws ≡ Done → 1 ≤ length out → length (bytes_of (session_in ws)) ≤ length file
    → Gives (write_call ws file out) (bytes_of (session_in ws)) file (length (bytes_of (session_in ws)) ∷ []) out
unfolding write_call write_of
write-gives ws file out v o b = fill-given ws v 1 (length (bytes_of (session_in ws)) ∷ []) (bytes_of (session_in ws)) file out refl o b

-- ## Verdicts

-- past the words and the room, the engine's verdict decides
pub verdict-left : (ws gs ts out : List ℕ) → words_test ws ≡ Done → 2 ≤ length out → verdict_call ws gs ts out ≡ left (verdict_of (session_in ws) gs ts) [] [] [] out
unfolding verdict_call
verdict-left ws gs ts out v o =
    let h = verdict_of (session_in ws) gs ts in
    let a : first (words_test ws ∷ room_test 2 out ∷ h ∷ []) ≡ h = rw (v, le-ltb (length out) 2 o) (sym (alone h)) in
    ap (λ (x : Answer). left x [] [] [] out) a

module _ (ws : List ℕ) (rs : List Replacement) (out : List ℕ) (j : Asks ws rs) (o : 2 ≤ length out) where
  abbrev L : Net
  L = loaded_net (session_in ws)

  abbrev M : Net
  M = all_in_place (session_in ws) rs

  is : verdict_on (session_in ws) rs ≡ harm_test L M
  is = verdict-is (session_in ws) rs (words-state ws j.0) j.1

  -- the search for harm decides
  judged : verdict_call_on ws rs out ≡ left (harm_test L M) [] [] [] out
  judged = verdict-left ws (signals rs) (new_tables rs) out j.0 o ∙ ap (λ (x : Answer). left x [] [] [] out) is

  -- what a call that gives nothing leaves, by what it says
  abbrev left_by : List ℕ → Left
  left_by [] = record { number = 0; buffer = []; out = out }
  left_by (n ∷ values) = record { number = n; buffer = []; out = overwritten values out }

  verdict-says : (a : Answer) → left a [] [] [] out ≡ left_by (said a)
  verdict-says (Ok _) = refl
  verdict-says (Err r) = refl

  -- and nothing else leaves that
  says_nothing : (a : Answer) → left a [] [] [] out ≡ left_by [] → said a ≡ []
  says_nothing a e = ap said (zero-done a (ap (λ (l : Left). l.number) e))

  says-harm : (a : Answer) → (a ≡ Done) ⊎ ((y : ℕ) × (k : ℕ) × (a ≡ Err (Harm y k))) → (x i : ℕ) → left a [] [] [] out ≡ left_by (14 ∷ x ∷ i ∷ []) → said a ≡ 14 ∷ x ∷ i ∷ []
  says-harm a only x i e =
      ⊎_elim (λ d. let n : ◌≡◌ {A = ℕ} 0 14 = sym (ap number_for d) ∙ ap (λ (l : Left). l.number) e in absurd (omega arith))
      (λ f.
      let q = sym (ap (λ (b : Answer). left b [] [] [] out) f.2) ∙ e in
      ap said f.2 ∙ ap₂ (λ (y k : ℕ). 14 ∷ y ∷ k ∷ []) (ap (λ (l : Left). get_or l.out 0 0) q) (ap (λ (l : Left). get_or l.out 1 0) q)) only

  harmful-is : ((verdict_call_on ws rs out).number ≡ 14) ↔ ((x : ℕ) × (i : ℕ) × Changes (session_in ws) rs x i)
  harmful-is =
      let h = demand2.harmful (session_in ws) rs (words-state ws j.0, j.1) in
      let n = ap (λ (l : Left). l.number) judged in (
        λ k. ⊎_elim (λ d. let z : ◌≡◌ {A = ℕ} 0 14 = sym (ap number_for d) ∙ sym n ∙ k in absurd (omega arith))
            (λ f. h.0 (f.0, f.1, ap said (is ∙ f.2))) (harm-only L M),
        λ c. let f = h.1 c in
            n ∙ number-said (harm_test L M) ∙ ap (λ (l : List ℕ). get_or l 0 0) (ap said (sym is) ∙ f.2),
      )

  shown-is : (x i : ℕ) → (verdict_call_on ws rs out ≡ record { number = 14; buffer = []; out = overwritten (x ∷ i ∷ []) out }) ↔ FirstHarm L M x i
  shown-is x i = (
    λ e. (harm-at L M x i).0 (says-harm (harm_test L M) (harm-only L M) x i (sym judged ∙ e)),
    λ f. judged ∙ verdict-says (harm_test L M) ∙ ap left_by ((harm-at L M x i).1 f),
  )

  harmless-is : (verdict_call_on ws rs out ≡ record { number = 0; buffer = []; out = out }) ↔ NoHarm L M (patterns L)
  harmless-is = (
    λ e. (harm-none L M).0 (says_nothing (harm_test L M) (sym judged ∙ e)),
    λ f. judged ∙ verdict-says (harm_test L M) ∙ ap left_by ((harm-none L M).1 f),
  )

-- ## Lists that are not judged

faulted-is : (ws : List ℕ) (rs : List Replacement) (f : Refusal) (out : List ℕ) → words_test ws ≡ Done → 2 ≤ length out
    → FirstFault (loaded_net (session_in ws)) rs f → verdict_call_on ws rs out ≡ record { number = number_of f; buffer = []; out = out }
unfolding verdict_of
faulted-is ws rs f out v o w =
    let s = session_in ws in
    let N = loaded_net s in
    let e = (faulted-of N rs f).1 w in
    let names : NamesMost 0 (pairs_test N [] rs) = pairs-by (NamesMost 0) N [] rs (omega arith) (omega arith) (omega arith) (omega arith) in
    let is : verdict_on s rs ≡ Err f = rw (words-state ws v, lengths-fine rs, pairs-back rs, e) in
    verdict-left ws (signals rs) (new_tables rs) out v o
    ∙ ap (λ (x : Answer). left x [] [] [] out) is ∙ sym (refused {a = Err f} [] [] [] out refl (rw e at names) refl)

unequal-is : (ws gs ts out : List ℕ) → (length gs ≡ length ts → ⊥) → words_test ws ≡ Done → 2 ≤ length out
    → verdict_call ws gs ts out ≡ record { number = 15; buffer = []; out = out }
unfolding verdict_of lengths_test
unequal-is ws gs ts out d v o = verdict-left ws gs ts out v o ∙ rw (words-state ws v, ne_eqb (length gs) (length ts) d)

listed-is : (ws gs ts out : List ℕ) → length gs ≡ length ts → verdict_call ws gs ts out ≡ verdict_call_on ws (pairs gs ts) out
listed-is ws gs ts out e = sym (ap₂ (λ (a b : List ℕ). verdict_call ws a b out) (signals-back gs ts e) (tables-back gs ts e))

-- ## A network written and read again

part-wide : (ws : List ℕ) (at c : ℕ) → Words ws → Words (part ws at c)
part-wide ws at c h w = by (dec_lt w c)
  where
    by : Dec (w < c) → get_or (part ws at c) w 0 < 2 ^ 64
    by (yes y) = rw (get_or-take c (drop at ws) w 0 y, get_or-drop at ws w 0) (h (at + w))
    by (no y) =
        let k = length-take c (drop at ws) in
        let m = min-le_left c (length (drop at ws)) in
        rw (get_or-eq_default (part ws at c) 0 {n = w} (omega arith)) (omega arith)

words-shaped : (ws : List ℕ) → Words ws → words_test ws ≡ Done → Shaped (session_in ws)
unfolding session_in
words-shaped ws h v = record { sized = words-sized ws v; wide = part-wide ws excluded_start excluded_words h }

-- 0 shows that no test refused
write-passed : (ws file out : List ℕ) → (write_call ws file out).number ≡ 0
    → (words_test ws ≡ Done) × (1 ≤ length out) × (length (bytes_of (session_in ws)) ≤ length file)
unfolding write_call write_of
write-passed ws file out =
    let s = session_in ws in
    let Q : Answer → Type 0 = λ a. number_for a ≡ 0 → (words_test ws ≡ Done) × (1 ≤ length out) × (length (bytes_of s) ≤ length file) in
    let short : Q (Err BufferTooShort) = λ e. (let z : ⊥ = omega arith in absurd z) in
    let bad : Q (Err InvalidState) = λ e. (let z : ⊥ = omega arith in absurd z) in
    session-by Q ws out (write_work file s) short bad (λ v o. fill-by (Before Q Done) (bytes_of s) file s bad short (λ b e. (v, o, b)))

-- a call that reads leaves words that hold what it read
read-holds : {l : Result Session Refusal} {ns : List ℕ} → Reader l ns → (session : List ℕ) (t : Session) → l ≡ Ok t → session_words ≤ length session
    → ((read_call l session).number ≡ 0) × (session_in (read_call l session).buffer ≡ t)
read-holds {l} reads session t e room =
    let done = ap answer_of e in
    let is = (read-gives reads session done room).2 in
    let same = ap session_of e in
    (ap (λ (x : Left). x.number) is, ap (λ (x : Left). session_in x.buffer) is ∙ packed-back (session_of l) (drop (length (packed_of (session_of l))) session) (reads.sized done) ∙ same)

module _ (ws file out session : List ℕ) (h : Words ws) (e : (write_call ws file out).number ≡ 0) (room : session_words ≤ length session) where
  abbrev again : Left
  again =
      let w = write_call ws file out in
      load_call (take (get_or w.out 0 0) w.buffer) session

  round-trips : (again.number ≡ 0) × (loaded_net (session_in again.buffer) ≡ current_net (session_in ws)) × (current_net (session_in again.buffer) ≡ current_net (session_in ws))
  unfolding load_call
  round-trips =
      let s = session_in ws in
      let bytes = bytes_of s in
      let p = write-passed ws file out e in
      let back = (round_trip s (words-shaped ws h p.0) (state-e s (words-state ws p.0))).1 in
      let t = back.session in
      let read : take (get_or (write_call ws file out).out 0 0) (write_call ws file out).buffer ≡ bytes =
      ap (λ (w : Left). take (get_or w.out 0 0) w.buffer) (write-gives ws file out p.0 p.1 p.2).2 ∙ take-append_seam bytes (drop (length bytes) file) in
      let h = read-holds (load-reader bytes) session t back.reads room in
      let is : again ≡ read_call (load_of bytes) session = ap (λ (b : List ℕ). load_call b session) read in
      let held : session_in again.buffer ≡ t = ap (λ (l : Left). session_in l.buffer) is ∙ h.1 in
      (ap (λ (l : Left). l.number) is ∙ h.0, ap loaded_net held ∙ back.loaded, ap current_net held ∙ back.current)

-- as BLIF text
module _ (ws text out : List ℕ) where
  abbrev blif_tests : List Answer
  blif_tests = words_test ws ∷ room_test 0 out ∷ copies_test (session_in ws) ∷ room_test 1 out ∷ room_test (length (blif_text (session_in ws))) text ∷ []

  abbrev Writes : Type 0
  Writes = (words_test ws ≡ Done) × (copies_test (session_in ws) ≡ Done) × (1 ≤ length out) × (length (blif_text (session_in ws)) ≤ length text)

  write-blif-gives : Writes → Gives (write_blif_call ws text out) (blif_text (session_in ws)) text (length (blif_text (session_in ws)) ∷ []) out
  unfolding write_blif_call
  write-blif-gives p =
      let new = blif_text (session_in ws) in
      gives (length new ∷ []) new text out (clear-i blif_tests (p.0, (room-i 0 out (omega arith), (p.1, (room-i 1 out p.2, (room-i (length new) text p.3, tt)))))) p.3 p.2

  write-blif-passed : (write_blif_call ws text out).number ≡ 0 → Writes
  unfolding write_blif_call
  write-blif-passed e =
      let c = clear-e blif_tests (zero-done (first blif_tests) e) in
      (c.0, c.1.1.0, room-e 1 out c.1.1.1.0, room-e (length (blif_text (session_in ws))) text c.1.1.1.1.0)

  blif-trips : (session : List ℕ) → (write_blif_call ws text out).number ≡ 0 → session_words ≤ length session
      → let w = write_blif_call ws text out in
      let l = read_blif_call (take (get_or w.out 0 0) w.buffer) session in
      let sent = outgoing (current_net (session_in ws)) in
      (l.number ≡ 0) × (loaded_net (session_in l.buffer) ≡ sent) × (current_net (session_in l.buffer) ≡ sent) × Survives (current_net (session_in ws)) sent
      × (blif_text (session_in l.buffer) ≡ blif_text (session_in ws))
  unfolding read_blif_call
  blif-trips session e room =
      let s = session_in ws in
      let bytes = blif_text s in
      let p = write-blif-passed e in
      let trip = demand2.blif_trip s (words-state ws p.0) p.1 in
      let back = trip.0 in
      let read : take (get_or (write_blif_call ws text out).out 0 0) (write_blif_call ws text out).buffer ≡ bytes =
      ap (λ (w : Left). take (get_or w.out 0 0) w.buffer) (write-blif-gives p).2 ∙ take-append_seam bytes (drop (length bytes) text) in
      let h = read-holds (blif-reader bytes) session back.session back.reads room in
      rw read (h.0, ap loaded_net h.1 ∙ back.loaded, ap current_net h.1 ∙ back.current, trip.1, ap blif_text h.1 ∙ back.again)

-- ## The CDC among the words of a gate's tables

-- 0 shows that they stand in out
tables-shown : (ws : List ℕ) (gate : ℕ) (out : List ℕ) → (tables_call ws gate out).number ≡ 0
    → (tables_call ws gate out).out ≡ overwritten (table_words (gate_tables (session_in ws) gate)) out
tables-shown ws gate out z =
    ⊎_elim (λ g. ap (λ (l : Left). l.out) g.2)
    (λ r. let e : r.0 ≡ 0 = sym (ap (λ (l : Left). l.number) r.2) ∙ z in
    clash (ap (λ (n : ℕ). member n (9 ∷ 10 ∷ 11 ∷ [])) (sym e) ∙ r.1) refl)
    (demand1-calls.tables ws gate out)

-- the words of an SDC, at the start of what a call gives
sdc-shown : (ws : List ℕ) (gate e : ℕ) (out : List ℕ) → words_test ws ≡ Done → is_gate (loaded_net (session_in ws)) gate ≡ true → 5 ≤ length out
    → e < 2 ^ suc (arity (gate_of (current_net (session_in ws)) gate))
    → bit (get_or (tables_call ws gate out).out (e / 64) 0) (e % 64) ≡ bit (sdc (current_net (session_in ws)) gate) e
unfolding current_net
sdc-shown ws gate e out v g o h =
    let s = session_in ws in
    let b = gate-e s gate g in
    let k = count-e most_fanins (arity_of s (gate - s.n)) ((valid-e s (state-e s (words-state ws v))).gate (gate - s.n) (omega arith)).arity-fine in
    let few : arity (gate_of (current_net s) gate) ≤ 6 = omega (arith, net-arity s s.current gate b.0 b.1) in
    ap (λ (l : Left). bit (get_or l.out (e / 64) 0) (e % 64)) (tables-given ws v gate out g o).2
    ∙ sdc-entries (current_net s) gate e (drop 2 (overwritten (table_words (gate_tables s gate)) out)) few h

-- ## The counts

module _ (ws out : List ℕ) (v : words_test ws ≡ Done) (r : (session_in ws).m ≤ length out) where
  hidden-gives : Gives (hidden_call ws out) [] [] (hidden_counts (session_in ws)) out
  unfolding hidden_call
  hidden-gives = let s = session_in ws in room-given ws v s.m (hidden_counts s) out (hidden-length s) r

  count-shown : (g : ℕ) → g < (session_in ws).m → get_or (hidden_call ws out).out g 0 ≡ compatible_count (loaded_net (session_in ws)) ((session_in ws).n + g)
  count-shown g l =
      let s = session_in ws in
      ap (λ (x : Left). get_or x.out g 0) hidden-gives.2
      ∙ get_or-append (hidden_counts s) (drop (length (hidden_counts s)) out) 0 g (omega (arith, hidden-length s))
      ∙ places-at 0 s.m (λ i. compatible_count (loaded_net s) (s.n + i)) g l

-- ## All the calls

pub demand2-calls : Demand2Calls
unfolding load_call read_blif_call all_tables_call pattern_sets_call pattern_sets_of
demand2-calls = record {
  load = λ file. read-gives (load-reader file);
  read_blif = λ text. read-gives (blif-reader text);
  listing = listing-gives;
  tables = λ ws gate out v. tables-given ws v gate out;
  all_tables = λ ws out v. let s = session_in ws in room-given ws v (tables_room * s.m) (all_table_words s s.m) out (tables-length s s.m);
  pattern_sets = λ ws words v. let s = session_in ws in fill-given ws v 0 [] (set_words s s.m) words [] refl (omega arith);
  hidden = hidden-gives;
  counts_fit = λ ws out v r. let s = session_in ws in
      let fit = demand2.counts_fit s (words-state ws v) in
      (λ g l. rw (count-shown ws out v r g l) (fit.0 (s.n + g)), fit.1);
  write = write-gives;
  write_blif = λ ws text out v c o t. write-blif-gives ws text out (v, c, o, t);
  sdc_entries = sdc-shown;
  old_files = λ file session h. ap (λ (l : Result Session Refusal). read_call l session) (demand2.old_files.1 file h);
  old_written = λ ws file out v few o b. let e = demand2.old_written (session_in ws) few in
      subst (λ (bs : List ℕ). length bs ≤ length file → Gives (write_call ws file out) bs file (length bs ∷ []) out) e (write-gives ws file out v o) b;
  cdc_exact = λ ws gate out z. let C = current_net (session_in ws) in
      subst (λ (o : List ℕ). NeverGiven C gate (get_or o 2 0)) (sym (tables-shown ws gate out z)) (demand2.cdc_exact C gate);
  cdc_full = λ ws gate t out z. let C = current_net (session_in ws) in
      subst (λ (o : List ℕ). bit (get_or o 2 0) t ≡ true → bit (get_or o 3 0) t ≡ true) (sym (tables-shown ws gate out z)) (demand2.cdc_full C gate t);
  harmful = harmful-is;
  shown = λ ws rs out x i j o. shown-is ws rs out j o x i;
  harmless = harmless-is;
  faulted = faulted-is;
  listed = listed-is;
  unequal = unequal-is;
  round_trip = round-trips;
  blif_trip = blif-trips;
}
