-- Demand 3 of the calls, of any list of exchange calls: over words that hold a session which is fresh, sized and narrow, whatever it
-- was read from; and so of every file that loads and every BLIF text that reads. Assumes nothing.
use mathlib.Core.Path.{◌≡◌, refl, sym, ap, ap₂, ◌∙◌}
use mathlib.Core.Logic.{◌≢◌}
use mathlib.Core.Bool.{cond}
use mathlib.Core.List.{List, [], ◌∷◌, ◌++◌, map, append_assoc}
use Prim.Native.Nat.{ℕ, ◌≤◌}
use native.Mathlib.Omega.{arith}
use lib.Dec.{ltb}
use lib.ListN.{length, drop, length-append, length-drop}
use lib.Seq.{drop_at}
use Rattle.bits.specs.Lists.{overwritten}
use Rattle.bits.proofs.Ranges.{by_cases}
use Rattle.std.specs.Prelude.{Result, Ok, Err}
use Rattle.network.specs.Answer.{Answer, Done, answer_of, given_or}
use Rattle.network.specs.declared.Refusal.{Refusal}
use Rattle.network.specs.declared.Session.{Session}
use Rattle.network.specs.Net.{Net, output, Replacement}
use Rattle.network.specs.Flat.{loaded_net, current_net}
use Rattle.network.specs.Valid.{Sized, Narrow}
use Rattle.network.specs.Tests.{or_else, first}
use Rattle.network.specs.State.{state_test}
use Rattle.network.specs.Load.{session_of, load_of}
use Rattle.network.specs.Write.{bytes_of}
use Rattle.network.specs.Calls.{stored, exchange_answer, exchanged, exchange_of, room_test, filled}
use Rattle.network.specs.Sessions.{next, after, answers, answer_by}
use Rattle.network.proofs.TestLaws.{clear-e}
use Rattle.network.proofs.Fresh.{Fresh}
use Rattle.network.proofs.Valid.{state-i}
use Rattle.network.proofs.Exchanges.{answers-are, after-valid, after-sized, after-narrow}
use Rattle.network.proofs.Reached.{done-whole, loaded-fresh, loaded-sized, loaded-narrow}
use Rattle.network.proofs.Demand3.{demand3}
use Rattle.blif.specs.Read.{read_blif_of}
use Rattle.bliftrip.proofs.SameWords.{blif-words}
use Rattle.packed.specs.Packed.{packed_of, session_words}
use Rattle.packed.proofs.Inverse.{packed-length, packed-back, unpack-answer, repacked, unpacks}
use Rattle.promises.specs.Boundary.{number_for, values_for, Left, left, read_answer, read_call, load_call, read_blif_call, exchange_call}
use Rattle.promises.specs.Promises.{Asked, words_after, heard, asked_answer, asked_left, roomy, Holds, Demand3Calls, Demand3From, Demand3OfCalls}
use Rattle.promises.proofs.Names.{number-said, values-said, zero-done}

-- ## Words laid over others

over-twice : (new old ws : List ℕ) → length new ≡ length old → overwritten new (overwritten old ws) ≡ overwritten new ws
over-twice new old ws e =
    ap (λ (l : List ℕ). new ++ l) (drop_at old (drop (length old) ws) (length new) (sym e) ∙ ap (λ (n : ℕ). drop n ws) (sym e))

over-length : (new ws : List ℕ) → length new ≤ length ws → length (overwritten new ws) ≡ length ws
over-length new ws h = simp (length-append, length-drop) (omega arith)

-- ## Words that hold a session

-- to pack a session over any words gives words that hold it
holds-packed : (s : Session) (ws : List ℕ) → Sized s → Narrow s → state_test s ≡ Done → Holds (overwritten (packed_of s) ws) s
holds-packed s ws z b v = record {
  session = packed-back s (drop (length (packed_of s)) ws) z;
  passes = sym (unpack-answer (overwritten (packed_of s) ws)) ∙ ap (λ (l : Result Session Refusal). (answer_of l)) (unpacks s ws z b v);
}

module _ {ws : List ℕ} {s : Session} (h : Holds ws s) where
  -- and over words that hold it already it changes none
  held_same : overwritten (packed_of s) ws ≡ ws
  held_same = ap (λ (t : Session). overwritten (packed_of t) ws) (sym h.session) ∙ repacked ws (unpack-answer ws ∙ h.passes)

  held-long : length (packed_of s) ≤ length ws
  held-long =
      let e = ap length held_same in
      let n = length-append (packed_of s) (drop (length (packed_of s)) ws) in
      omega arith

-- words that hold a session, as a reader of networks leaves them
pub record Ready (ws : List ℕ) (s : Session) : Type 0 where
  pub fresh : Fresh s
  pub sized : Sized s
  pub narrow : Narrow s
  pub holds : Holds ws s

-- a reader packs its session over the words that it was lent
pub ready : (s : Session) (ws : List ℕ) → Fresh s → Sized s → Narrow s → Ready (overwritten (packed_of s) ws) s
ready s ws fresh z b = record { fresh = fresh; sized = z; narrow = b; holds = holds-packed s ws z b (state-i s fresh.valid) }

-- ## A session in which the network N alone answers every exchange, now and later

record Steady (N : Net) (s : Session) : Type 0 where
  answered : (rs : List Replacement) → answers s rs ≡ map (answer_by N) rs
  sized : (rs : List Replacement) → Sized (after s rs)
  narrow : (rs : List Replacement) → Narrow (after s rs)
  valid : (rs : List Replacement) → state_test (after s rs) ≡ Done

fresh-steady : (s : Session) → Fresh s → Sized s → Narrow s → Steady (loaded_net s) s
fresh-steady s fresh z b = record {
  answered = answers-are s fresh;
  sized = λ rs. after-sized s fresh rs z;
  narrow = λ rs. after-narrow s fresh rs b;
  valid = λ rs. state-i (after s rs) (after-valid s fresh rs);
}

heads : {a b : Answer} {xs ys : List Answer} → a ∷ xs ≡ b ∷ ys → (a ≡ b) × (xs ≡ ys)
heads e = ((cc), (cc))

module _ {N : Net} {s : Session} (y : Steady N s) where
  steady-next : (r : Replacement) → Steady N (next s r)
  steady-next r = record {
    answered = λ rs. (heads (y.answered (r ∷ rs))).1;
    sized = λ rs. y.sized (r ∷ rs);
    narrow = λ rs. y.narrow (r ∷ rs);
    valid = λ rs. y.valid (r ∷ rs);
  }

  steady-answer : (r : Replacement) → exchange_answer s r ≡ answer_by N r
  unfolding exchange_of
  steady-answer r = sym (given (exchange_answer s r)) ∙ (heads (y.answered (r ∷ []))).0
    where
      given : (a : Answer) → answer_of (exchanged a s r) ≡ a
      given (Ok _) = refl
      given (Err f) = refl

  steady-length : length (packed_of s) ≡ session_words
  steady-length = packed-length s (y.sized [])

  steady-holds : (ws : List ℕ) → Holds (overwritten (packed_of s) ws) s
  steady-holds ws = holds-packed s ws (y.sized []) (y.narrow []) (y.valid [])

steady-after : {N : Net} (rs : List Replacement) {s : Session} → Steady N s → Steady N (after s rs)
steady-after [] y = y
steady-after (r ∷ rs) y = steady-after rs (steady-next y r)

after-append : (qs rs : List Replacement) (s : Session) → after (after s qs) rs ≡ after s (qs ++ rs)
after-append [] rs s = refl
after-append (q ∷ qs) rs s = after-append qs rs (next s q)

-- ## One exchange call

-- the exchange that it makes, none where 9 refuses it
abbrev made : Asked → List Replacement
made a = cond (ltb (length a.out) 1) [] (a.exchange ∷ [])

module _ {N : Net} {ws : List ℕ} {s : Session} (h : Holds ws s) (y : Steady N s) where
  -- an exchange with this answer packs the session that it hands on
  packs : (r : Replacement) (a : Answer) → (filled (or_else a Done) (packed_of (stored s r)) ws).buffer ≡ overwritten (packed_of (given_or s (exchanged a s r))) ws
  packs r (Ok _) = refl
  packs r (Err f) = sym (held_same h)

  call-words : (a : Asked) → (filled (asked_answer N a) (packed_of (stored s a.exchange)) ws).buffer ≡ overwritten (packed_of (after s (made a))) ws
  unfolding exchange_of
  call-words a =
      let r = a.exchange in
      by_cases (ltb (length a.out) 1)
      (λ e. rw e (sym (held_same h)))
      (λ e. rw e (packs r (answer_by N r) ∙ ap (λ (b : Answer). overwritten (packed_of (given_or s (exchanged b s r))) ws) (sym (steady-answer y r))))

  -- what it leaves: number and `out` by N alone, and the words of the session after it
  call-left : (a : Asked)
      → exchange_call ws a.exchange a.out
      ≡ record {
        number = number_for (asked_answer N a);
        buffer = overwritten (packed_of (after s (made a))) ws;
        out = overwritten (values_for (asked_answer N a) []) a.out;
      }
  unfolding exchange_call
  call-left a =
      let r = a.exchange in
      ap₂ (λ (b : Answer) (t : Session). left (first (b ∷ room_test 1 a.out ∷ exchange_answer t r ∷ [])) [] (packed_of (stored t r)) ws a.out) h.passes h.session
      ∙ ap (λ (b : Answer). left (first (room_test 1 a.out ∷ b ∷ [])) [] (packed_of (stored s r)) ws a.out) (steady-answer y r)
      ∙ ap (λ (l : List ℕ). record { number = number_for (asked_answer N a); buffer = l; out = overwritten (values_for (asked_answer N a) []) a.out }) (call-words a)

-- number and `out` in 01's numbers
asked-left : (N : Net) (a : Asked) → (number_for (asked_answer N a), overwritten (values_for (asked_answer N a) []) a.out) ≡ asked_left N a
asked-left N a =
    let b = asked_answer N a in
    ap₂ (λ (n : ℕ) (values : List ℕ). (n, overwritten values a.out)) (number-said b) (values-said b)

-- ## A list of exchange calls

record Comes (N : Net) (ws : List ℕ) (s : Session) (list : List Asked) : Type 0 where
  answered : heard ws list ≡ map (asked_left N) list
  words : words_after ws list ≡ overwritten (packed_of (after s (roomy list))) ws

comes : {N : Net} (list : List Asked) {ws : List ℕ} {s : Session} → Holds ws s → Steady N s → Comes N ws s list
comes [] h y = record { answered = refl; words = sym (held_same h) }
comes {N} (a ∷ list) {ws} {s} h y =
    let t = after s (made a) in
    let z = steady-after (made a) y in
    let e = call-left h y a in
    let rest = comes list (steady-holds z ws) z in
    record {
      answered =
          ap (λ (l : Left). (l.number, l.out) ∷ heard l.buffer list) e
          ∙ ap₂ (λ (x : ℕ × List ℕ) (l : List (ℕ × List ℕ)). x ∷ l) (asked-left N a) rest.answered;
      words =
          ap (λ (l : Left). words_after l.buffer list) e
          ∙ rest.words
          ∙ over-twice (packed_of (after t (roomy list))) (packed_of t) ws (steady-length (steady-after (roomy list) z) ∙ sym (steady-length z))
          ∙ ap (λ (u : Session). overwritten (packed_of u) ws) (after-append (made a) (roomy list) s);
    }

-- ## Two neighbours change places

roomy-append : (before behind : List Asked) → roomy (before ++ behind) ≡ roomy before ++ roomy behind
roomy-append [] behind = refl
roomy-append (a ∷ before) behind =
    ap (λ (l : List Replacement). made a ++ l) (roomy-append before behind) ∙ sym (append_assoc (made a) (roomy before) (roomy behind))

swapped : (s : Session) → Fresh s → (before behind : List Asked) (a b : Asked) → a.exchange.signal ≢ b.exchange.signal
    → after s (roomy (before ++ b ∷ a ∷ behind)) ≡ after s (roomy (before ++ a ∷ b ∷ behind))
swapped s fresh before behind a b ne =
    ap (after s) (roomy-append before (b ∷ a ∷ behind)) ∙ turned ∙ ap (after s) (sym (roomy-append before (a ∷ b ∷ behind)))
  where
    -- where one of them has no room the exchanges are the same
    turned : after s (roomy before ++ roomy (b ∷ a ∷ behind)) ≡ after s (roomy before ++ roomy (a ∷ b ∷ behind))
    turned =
        by_cases (ltb (length a.out) 1) (λ e. rw e)
        (λ e. by_cases (ltb (length b.out) 1) (λ f. rw f)
        (λ f. rw (e, f) ((demand3 s fresh (roomy before ++ a.exchange ∷ b.exchange ∷ roomy behind)).swap (roomy before) (roomy behind) a.exchange b.exchange refl ne).0))

-- ## Demand 3 of the calls

module _ {ws : List ℕ} {s : Session} (at : Ready ws s) where
  steady : Steady (loaded_net s) s
  steady = fresh-steady s at.fresh at.sized at.narrow

  words : (list : List Asked) → words_after ws list ≡ overwritten (packed_of (after s (roomy list))) ws
  words list = (comes list at.holds steady).words

  holds : (list : List Asked) → Holds (words_after ws list) (after s (roomy list))
  holds list = rw (words list) (steady-holds (steady-after (roomy list) steady) ws)

  fills : (list : List Asked) → length (packed_of (after s (roomy list))) ≤ length ws
  fills list =
      let k = held-long at.holds in
      let m = steady-length steady in
      let n = steady-length (steady-after (roomy list) steady) in
      omega arith

  pub demand3-calls : (list : List Asked) → Demand3Calls ws s list
  demand3-calls list = record {
    answered = (comes list at.holds steady).answered;
    words = words list;
    long = ap length (words list) ∙ over-length (packed_of (after s (roomy list))) ws (fills list);
    holds = holds list;
    outputs = λ x i hx hi n. ap (λ (u : Session). output (current_net u) x i) (holds list).session ∙ (demand3 s at.fresh (roomy list)).outputs x i hx hi n;
    swap = λ before behind a b e ne. words (before ++ b ∷ a ∷ behind)
        ∙ ap (λ (u : Session). overwritten (packed_of u) ws) (swapped s at.fresh before behind a b ne ∙ ap (λ (l : List Asked). after s (roomy l)) (sym e))
        ∙ sym (words list);
  }

  -- one more call after the list
  pub call-after : (list : List Asked) (a : Asked) → (exchange_call (words_after ws list) a.exchange a.out).number ≡ number_for (asked_answer (loaded_net s) a)
  call-after list a = ap (λ (l : Left). l.number) (call-left (holds list) (steady-after (roomy list) steady) a)

-- ## Of every file that loads and every BLIF text that reads

-- a call that gives 0 read a network, and packed its session over the words that it was lent
read_done : (l : Result Session Refusal) (session : List ℕ) → (read_call l session).number ≡ 0
    → (l ≡ Ok (session_of l)) × ((read_call l session).buffer ≡ overwritten (packed_of (session_of l)) session)
read_done l session z =
    let a = zero-done (read_answer l session) z in
    let c = clear-e (answer_of l ∷ room_test session_words session ∷ []) a in
    (done-whole l c.0, ap (λ (b : Answer). (filled b (packed_of (session_of l)) session).buffer) a)

-- where what it read is as a load gives it
read-ready : (l : Result Session Refusal) (session : List ℕ) → (read_call l session).number ≡ 0 → ((s : Session) → l ≡ Ok s → (bytes : List ℕ) × (load_of bytes ≡ Ok s))
    → Ready (read_call l session).buffer (session_of l)
read-ready l session z loads =
    let s = session_of l in
    let r = read_done l session z in
    let f = loads s r.0 in
    rw r.1 (ready s session (loaded-fresh f.0 s f.1) (loaded-sized f.0 s f.1) (loaded-narrow f.0 s f.1))

pub loaded-ready : (file session : List ℕ) → (load_call file session).number ≡ 0 → Ready (load_call file session).buffer (session_of (load_of file))
unfolding load_call
loaded-ready file session z = read-ready (load_of file) session z (λ s e. (file, e))

pub blif-ready : (text session : List ℕ) → (read_blif_call text session).number ≡ 0 → Ready (read_blif_call text session).buffer (session_of (read_blif_of text))
unfolding read_blif_call
blif-ready text session z = read-ready (read_blif_of text) session z (λ s e. (bytes_of s, blif-words text s e))

from-ready : (l : Result Session Refusal) (c : Left) (list : List Asked) → l ≡ Ok (session_of l) → Ready c.buffer (session_of l) → Demand3From l c list
from-ready l c list e at = (e, at.holds, demand3 (session_of l) at.fresh (roomy list), demand3-calls at list)

pub demand3-of-calls : Demand3OfCalls
unfolding load_call read_blif_call
demand3-of-calls = record {
  load = λ file session list z. from-ready (load_of file) (read_call (load_of file) session) list (read_done (load_of file) session z).0 (loaded-ready file session z);
  read_blif = λ text session list z. from-ready (read_blif_of text) (read_call (read_blif_of text) session) list (read_done (read_blif_of text) session z).0 (blif-ready text session z);
}
