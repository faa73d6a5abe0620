-- How long an answer is. Assumes nothing.
use mathlib.Core.Path.{◌≡◌, refl, sym, ◌∙◌, subst}
use mathlib.Core.Logic.{◌⊎◌, inl, inr}
use mathlib.Core.Bool.{true}
use mathlib.Core.List.{List, [], ◌∷◌, ◌++◌}
use Prim.Native.Nat.{ℕ, zero, suc, ◌+◌, ◌-◌, ◌*◌, ◌<◌, ◌≤◌}
use native.Mathlib.Nat.{pow-le-pow_right}
use native.Mathlib.Omega.{arith}
use lib.Dec.{eqb, ltb}
use lib.ListN.{length, get_or, length-append, length-map}
use borrow.Author.Tests.{lt-ltb}
use Rattle.bits.specs.Bounds.{most_inputs}
use Rattle.bits.specs.Bit.{bit}
use Rattle.bits.proofs.Ranges.{by_cases, length-places}
use Rattle.std.specs.Prelude.{Result, Ok, Err}
use Rattle.network.specs.Answer.{Answer, Done}
use Rattle.network.specs.declared.Session.{Session}
use Rattle.network.specs.declared.Refusal.{Refusal}
use Rattle.network.specs.declared.Refusal.TheVariants.{Truncated, UnexpectedMark, OutOfBounds, FaninNotEarlier, FaninRepeated, BitPastEnd, NotASignal, TrailingBytes, BufferTooShort, InvalidState, NotAGate, TableTooWide, ClosedEntry, Harm, ListsUnequal, GateRepeated, OutsideSubset, BadName}
use Rattle.network.specs.Bounds.{most_fanins, most_entries}
use Rattle.network.specs.Net.{Net, is_gate, entries, Replacement}
use Rattle.network.specs.Flat.{net_of, loaded_net}
use Rattle.network.specs.Refusals.{number_of}
use Rattle.network.specs.Load.{session_of, load_of}
use Rattle.network.specs.Calls.{exchange_answer, pairs_test, refused_at}
use Rattle.network.specs.Lists.{Sound}
use Rattle.network.specs.Sessions.{answer_by}
use Rattle.network.proofs.Lists.{sound-e, few-of}
use Rattle.network.proofs.Fresh.{Fresh}
use Rattle.network.proofs.Valid.{net-ok, outputs-ok}
use Rattle.network.proofs.Exchanges.{no-gate, too_wide, closes, accepts, Cause, answer-because, net-arity, loaded-length, gate-e}
use Rattle.network.proofs.Reached.{loaded-fresh}
use Rattle.text.specs.Numbers.{decimal}
use Rattle.text.proofs.Digits.{length-decimal, length-hex}
use Rattle.tabletext.specs.Digits.{digits}
use Rattle.tabletext.proofs.DigitLaws.{digits-few}
use Rattle.ordertext.specs.Order.{most_order_bytes, Pair, Pairs, is_numeral, signal_named, signal_of, replacement_of, order_of}
use Rattle.ordertext.proofs.Numerals.{numeral-e}
use Rattle.ordertext.proofs.Names.{Short, names-short}
use Rattle.desk.specs.declared.Reply.{Reply}
use Rattle.desk.specs.declared.Reply.TheVariants.{Open, Alone, Harmful, PairRefused, FileRefused}
use Rattle.desk.specs.Reply.{reply_of}
use Rattle.desk.specs.Answer.{open_line, alone_line, line_on, on_lines, lines_on, harm_line, refused_line, reasons, file_line, pair_refused_line, open_text, pair_line, pair_lines, no_pair, answer_for, answer_text}
use Rattle.desk.specs.Promises.{replacements, Comes, most_line_bytes, most_answer_bytes, most_refusal_bytes, AnswerLengthOf}
use Rattle.desk.proofs.Replies.{reply-loaded, answer-loaded}
use Rattle.desk.proofs.Comes.{OfPair, pairs-only, of_pair, fault-gate, pair-reply, comes}

-- ## Numbers

module _ (x : ℕ) where
  decimal-two : x < 100 → length (decimal x) ≤ 2
  unfolding decimal
  decimal-two h = by_cases (ltb x 10) (λ a. rw a (omega arith)) (λ a. rw (a, lt-ltb x 100 h) (omega arith))

  decimal-one : x < 10 → length (decimal x) ≤ 1
  unfolding decimal
  decimal-one h = rw (lt-ltb x 10 h) (omega arith)

-- ## First lines

on-length : (x n : ℕ) → n ≤ most_inputs → length (on_lines x n) ≤ 2 * n
unfolding line_on
on-length x zero h = omega arith
on-length x (suc i) h =
    let r = on-length x i (omega arith) in
    let d = decimal-one i (omega arith) in
    by_cases (bit x i) (λ e. rw (e, length-append (on_lines x i) (0x20 ∷ decimal i)) (omega arith)) (λ e. rw (e, length-append (on_lines x i) []) (omega arith))

lines-length : (x n : ℕ) → n ≤ most_inputs → length (lines_on x n) ≤ 20
lines-length x n h = let r = on-length x n h in by_cases (eqb x 0) (λ e. rw e (omega arith)) (λ e. rw e (omega arith))

harm-length : (n x i : ℕ) → n ≤ most_inputs → i < 10 → length (harm_line n x i) ≤ 68
unfolding harm_line
harm-length n x i h k =
    let a = decimal-one i k in
    let b = length-decimal x in
    let c = lines-length x n h in
    simp length-append (omega arith)

refused-length : (k : ℕ) (reason : List ℕ) → length (refused_line k reason) ≤ length reason + 15
unfolding refused_line
refused-length k reason = let a = length-decimal k in simp length-append (omega arith)

file-length : (r : Refusal) → length (file_line r) ≤ most_answer_bytes
unfolding file_line
file-length r = let a = refused-length (number_of r) (get_or reasons (number_of r - 1) []) in let b = reason-length r in omega arith
  where
    reason-length : (r : Refusal) → length (get_or reasons (number_of r - 1) []) ≤ 100
    reason-length Truncated = omega arith
    reason-length UnexpectedMark = omega arith
    reason-length OutOfBounds = omega arith
    reason-length FaninNotEarlier = omega arith
    reason-length FaninRepeated = omega arith
    reason-length BitPastEnd = omega arith
    reason-length NotASignal = omega arith
    reason-length TrailingBytes = omega arith
    reason-length BufferTooShort = omega arith
    reason-length InvalidState = omega arith
    reason-length NotAGate = omega arith
    reason-length TableTooWide = omega arith
    reason-length (ClosedEntry t) = omega arith
    reason-length (Harm x i) = omega arith
    reason-length ListsUnequal = omega arith
    reason-length GateRepeated = omega arith
    reason-length OutsideSubset = omega arith
    reason-length BadName = omega arith

no-gate-length : (gate : List ℕ) → length gate ≤ most_order_bytes - 2 → length (pair_refused_line NotAGate gate) ≤ most_refusal_bytes
unfolding pair_refused_line refused_line decimal
no-gate-length gate h = simp length-append (omega arith)

pair-refused-length : (r : Refusal) (gate : List ℕ) → length (pair_refused_line r gate) ≤ length gate + 47
unfolding pair_refused_line refused_line
pair-refused-length r gate =
    let a = length-decimal 11 in
    let b = length-decimal 12 in
    let c = length-decimal 16 in
    by_cases (eqb (number_of r) 11) (λ e. rw e (simp length-append (omega arith)))
    (λ e. by_cases (eqb (number_of r) 12) (λ f. rw (e, f) (simp length-append (omega arith))) (λ f. rw (e, f) (simp length-append (omega arith))))

-- ## A line for each pair

line-length : (s : Session) (q : Pair) → length q.gate ≤ 4 → length (open_text (exchange_answer s (replacement_of q))) ≤ 21 → length (pair_line s q) ≤ most_line_bytes
unfolding pair_line
line-length s q h k =
    let d = digits (loaded_net s) in
    let few = digits-few (loaded_net s) in
    let a = length-hex d (get_or s.loaded (signal_of q - s.n) 0) in
    let b = length-hex d q.table in
    simp length-append (omega arith)

-- 13's entry has two digits at the most
open-length : (N : Net) (r : Replacement) (a : Answer) → (is_gate N r.signal ≡ true → entries N r.signal ≤ most_entries) → Cause N r a → length (open_text a) ≤ 21
open-length N r a f (no-gate p) = let d = decimal-two 0 (omega arith) in simp length-append (omega arith)
open-length N r a f (too_wide p q) = let d = decimal-two 0 (omega arith) in simp length-append (omega arith)
open-length N r a f (closes t p q w) = let e = f p in let d = decimal-two t (omega (arith, w.0)) in simp length-append (omega arith)
open-length N r a f (accepts p q w) = omega arith

module _ (s : Session) (fresh : Fresh s) where
  abbrev L : Net
  L = loaded_net s

  pub gate-entries : (k : ℕ) → is_gate L k ≡ true → entries L k ≤ most_entries
  unfolding loaded_net
  gate-entries k w =
      let b = gate-e s k w in
      let g = (net-ok s fresh.valid).gate (k - s.n) (omega arith) in
      pow-le-pow_right (omega arith) (subst (λ (a : ℕ). a ≤ most_fanins) (sym (net-arity s s.loaded k b.0 b.1)) g.few)

  -- a gate's number has four digits at the most
  pub name-length : (q : Pair) → is_gate L (signal_of q) ≡ true → length q.gate ≤ 4
  unfolding signal_named
  name-length q w =
      let b = gate-e s (signal_of q) w in
      let n = net-ok s fresh.valid in
      let i = n.ins in
      let m = n.most in
      by_cases (is_numeral 10 4 q.gate) (λ e. (numeral-e 10 4 q.gate e).1)
      (λ e. let z : signal_named q.gate ≡ 10000 = rw e in absurd (omega arith))

  pairs-length : (named : List ℕ) (ps : List Pair) → Sound L named (replacements ps) → length (pair_lines s ps) ≤ most_line_bytes * length ps
  pairs-length named [] a = omega arith
  pairs-length named (q ∷ ps) a =
      let r = replacement_of q in
      let o = subst (λ (x : Answer). length (open_text x) ≤ 21) (sym (answer-loaded s fresh r)) (open-length L r (answer_by L r) (gate-entries r.signal) (answer-because L r)) in
      let l = line-length s q (name-length q a.0) o in
      let k = pairs-length (signal_of q ∷ named) ps a.3 in
      rw (length-append (pair_line s q) (pair_lines s ps)) (omega arith)

  -- with its first line
  answer-with : (first : List ℕ) (ps : List Pair) → length first ≤ 68 → Sound L [] (replacements ps) → length (first ++ pair_lines s ps) ≤ most_answer_bytes
  answer-with first ps h a =
      let p = pairs-length [] ps a in
      let f = few-of L (replacements ps) a in
      let m = length-map ps replacement_of in
      let g = loaded-length s in
      let n = (net-ok s fresh.valid).most in
      rw (length-append first (pair_lines s ps)) (omega arith)

  pub outputs-few : length L.outputs ≤ 8
  unfolding loaded_net net_of
  outputs-few = let o = (outputs-ok s fresh.valid).most in let l = length-places s.p (λ i. get_or s.outputs i 0) in omega arith

  sound-length : (ps : List Pair) → ((k : ℕ) → length (get_or ps k no_pair).gate ≤ most_order_bytes - 2) → Sound L [] (replacements ps)
      → (q : Reply) → Comes s ps q → length (answer_for q s ps) ≤ most_answer_bytes
  unfolding open_line alone_line
  sound-length ps names a Open c = answer-with open_line ps (omega arith) a
  sound-length ps names a Alone c = answer-with alone_line ps (omega arith) a
  sound-length ps names a (Harmful x i) c = answer-with (harm_line s.n x i) ps (harm-length s.n x i (net-ok s fresh.valid).ins (omega (arith, c.1, outputs-few))) a
  sound-length ps names a (PairRefused r k) c = let n = names k in let l = pair-refused-length r (get_or ps k no_pair).gate in omega arith
  sound-length ps names a (FileRefused r) c = file-length r

-- ## The answer

short-at : (m : ℕ) (ps : List Pair) (k : ℕ) → Short m ps → length (get_or ps k no_pair).gate ≤ m - 2
short-at m [] k h = omega arith
short-at m (p ∷ ps) zero h = omega (arith, h.0)
short-at m (p ∷ ps) (suc k) h = short-at m ps k h.1

module _ (file : List ℕ) (ps : List Pair) (names : (k : ℕ) → length (get_or ps k no_pair).gate ≤ most_order_bytes - 2) where
  abbrev rs : List Replacement
  rs = replacements ps

  by-reply : (m : ℕ) (q : Reply) → reply_of file ps ≡ q → length (answer_for q (session_of (load_of file)) ps) ≤ m → length (answer_text file ps) ≤ m
  unfolding answer_text
  by-reply m q e h = subst (λ (q : Reply). length (answer_for q (session_of (load_of file)) ps) ≤ m) (sym e) h

  -- where a pair is refused: the name is a gate's, or the refusal is 11
  module _ (s : Session) (loads : load_of file ≡ Ok s) where
    abbrev at : ℕ
    at = refused_at (loaded_net s) [] rs

    line-for : (f : Refusal) → (f ≡ NotAGate) ⊎ (is_gate (loaded_net s) (signal_of (get_or ps at no_pair)) ≡ true)
        → length (pair_refused_line f (get_or ps at no_pair).gate) ≤ most_refusal_bytes
    line-for f (inl e) = rw e (no-gate-length (get_or ps at no_pair).gate (names at))
    line-for f (inr w) =
        let n = name-length s (loaded-fresh file s loads) (get_or ps at no_pair) w in
        let l = pair-refused-length f (get_or ps at no_pair).gate in
        omega arith

    refusal-length : (f : Refusal) → pairs_test (loaded_net s) [] rs ≡ Err f → OfPair f → length (answer_text file ps) ≤ most_refusal_bytes
    refusal-length f h o =
        by-reply most_refusal_bytes (PairRefused f at) (reply-loaded file s ps loads ∙ pair-reply s (loaded-fresh file s loads) ps f h o)
        (line-for f (fault-gate (loaded_net s) [] ps f h))

    board-length : (pairs_test (loaded_net s) [] rs ≡ Done) ⊎ ((f : Refusal) × (pairs_test (loaded_net s) [] rs ≡ Err f) × OfPair f × (refused_at (loaded_net s) [] rs < length rs))
        → length (answer_text file ps) ≤ most_answer_bytes
    board-length (inl t) =
        by-reply most_answer_bytes (reply_of file ps) refl
        (rw loads (sound-length s (loaded-fresh file s loads) ps names (sound-e (loaded_net s) [] rs t) (reply_of file ps) (comes file s ps loads)))
    board-length (inr f) = let l = refusal-length f.0 f.1 f.2 in omega arith

  by-load : (l : Result Session Refusal) → load_of file ≡ l → length (answer_text file ps) ≤ most_answer_bytes
  unfolding reply_of
  by-load (Err r) e = by-reply most_answer_bytes (FileRefused r) (rw e) (file-length r)
  by-load (Ok s) e = board-length s e (pairs-only (loaded_net s) [] rs)

-- a name has = and a digit behind it
names-within : (text : List ℕ) (p : Pair) (ps : List Pair) → length text ≤ most_order_bytes → order_of text ≡ Pairs p ps → (k : ℕ) → length (get_or (p ∷ ps) k no_pair).gate ≤ most_order_bytes - 2
names-within text p ps l e k = let h = short-at (length text) (p ∷ ps) k (names-short text p ps e) in omega arith

pub answer-length : AnswerLengthOf
answer-length file text p ps l e =
    let names = names-within text p ps l e in
    record {
      most = by-load file (p ∷ ps) names (load_of file) refl;
      refusal = λ s f loads h. refusal-length file (p ∷ ps) names s loads f h (of_pair (loaded_net s) [] (replacements (p ∷ ps)) f h);
    }
