-- The lines of an answer, cut into the pieces that the functions lay. Assumes nothing.
use mathlib.Core.Path.{◌≡◌, refl, ap, ◌∙◌, subst}
use mathlib.Core.Bool.{false≢true}
use mathlib.Core.List.{List, [], ◌∷◌, ◌++◌, append-nil, append_assoc}
use Prim.Native.Nat.{ℕ, zero, suc, ◌+◌, ◌-◌, ◌^◌, ◌/◌, ◌%◌, ◌<◌, ◌≤◌}
use native.Mathlib.Numerals.{add-one}
use native.Mathlib.Nat.{add-zero}
use native.Mathlib.Omega.{arith}
use lib.ListN.{length, get_or, drop, length-append, drop_of_length-le}
use lib.Seq.{drop-cons}
use borrow.Author.Tests.{eq-eqb, ne_eqb}
use Rattle.bits.specs.Bit.{bit}
use Rattle.std.specs.Prelude.{Result, Ok, Err, MatchResult, is_ok}
use Rattle.network.specs.Answer.{Answer, giving}
use Rattle.network.specs.declared.Session.{Session}
use Rattle.network.specs.declared.Refusal.{Refusal}
use Rattle.network.specs.declared.Refusal.TheVariants.{NotAGate, TableTooWide}
use Rattle.network.specs.Net.{Replacement}
use Rattle.network.specs.Flat.{loaded_net}
use Rattle.network.specs.Refusals.{number_of, values_of}
use Rattle.network.specs.Calls.{exchange_answer, stored, exchange_of}
use Rattle.buffer.specs.Laid.{Room, Laid}
use Rattle.buffer.proofs.Laying.{laid-append, laid-length, pending-start, pending_done}
use Rattle.text.specs.Numbers.{hex, decimal}
use Rattle.text.specs.Ascii.{ascii}
use Rattle.text.specs.Words.{Text}
use Rattle.tabletext.specs.Digits.{digits}
use Rattle.ordertext.specs.declared.Order.{Order}
use Rattle.ordertext.specs.Order.{Pair, signal_named, replacement_of}
use Rattle.ordertext.specs.Reads.{pair_in, count_in, Reads, pairs_given}
use Rattle.ordertext.proofs.Given.{given-length, given-at, given-signal}
use Rattle.desk.specs.declared.Reply.{Reply}
use Rattle.desk.specs.Answer.{line_on, on_lines, lines_on, harm_line, refused_line, reasons, file_line, pair_refused_line, open_text, pair_line, pair_lines, no_pair, answer_for}
use Rattle.answertext.specs.Prints.{entry_of, Shown, AllShown, Prints}
use Rattle.answertext.proofs.Pieces.{joined}

-- ## Pieces in a row

pub two : (a b : Text) → a ++ b ≡ joined (a ∷ b ∷ [])
two a b = simp append-nil

pub three : (a b c : Text) → a ++ b ++ c ≡ joined (a ∷ b ∷ c ∷ [])
three a b c = simp (append_assoc, append-nil)

-- nothing to lay
pub nothing-laid : (b : Text) (at : ℕ) (text : Text) → text ≡ [] → Laid b at text b at
nothing-laid b at text e = pending_done (pending-start b text at) e

-- ## The inputs that are on

pub on_some : (x i : ℕ) → x / 2 ^ i % 2 ≡ 1 → line_on x i ≡ ascii " " ++ decimal i
unfolding line_on bit
on_some x i e = rw (eq-eqb (x / 2 ^ i % 2) 1 e)

pub on_none : (x i : ℕ) → (x / 2 ^ i % 2 ≡ 1 → ⊥) → line_on x i ≡ []
unfolding line_on bit
on_none x i e = rw (ne_eqb (x / 2 ^ i % 2) 1 e)

pub lines_none : (x n : ℕ) → x ≡ 0 → lines_on x n ≡ ascii " none"
lines_none x n e = rw (eq-eqb x 0 e)

pub lines-some : (x n : ℕ) → (x ≡ 0 → ⊥) → lines_on x n ≡ on_lines x n
lines-some x n e = rw (ne_eqb x 0 e)

on-grows : (x i d : ℕ) → length (on_lines x i) ≤ length (on_lines x (i + d))
on-grows x i zero = rw (add-zero i) (omega arith)
on-grows x i (suc d) =
    let q : i + suc d ≡ suc (i + d) = omega arith in
    let n = length-append (on_lines x (i + d)) (line_on x (i + d)) in
    let h = on-grows x i d in
    rw q (omega arith)

module _ {b₀ b : Text} {at a : ℕ} (x n i : ℕ) (l : Laid b₀ at (on_lines x i) b a) where
  pub on_room : i < n → Room b₀ at (on_lines x n) → Room b a (line_on x i)
  on_room h r =
      let k = on-grows x (suc i) (n - suc i) in
      let q : suc i + (n - suc i) ≡ n = omega arith in
      let m = subst (λ (j : ℕ). length (on_lines x (suc i)) ≤ length (on_lines x j)) q k in
      let s = length-append (on_lines x i) (line_on x i) in
      let p = l.behind in
      let e = laid-length l in
      omega arith

  pub on-next : {b₁ : Text} {r : ℕ} → Laid b a (line_on x i) b₁ r → Laid b₀ at (on_lines x (i + 1)) b₁ r
  on-next w = rw add-one (laid-append l w)

  pub on-done : i ≡ n → (x ≡ 0 → ⊥) → Laid b₀ at (lines_on x n) b a
  on-done e z = rw (lines-some x n z) (rw e at l)

-- ## First lines

abbrev pub harm_pieces : (n x i : ℕ) → List Text
harm_pieces n x i = (ascii "no: output " ++ decimal i) ∷ (ascii " changes at pattern " ++ decimal x) ∷ ascii ", lines on:" ∷ lines_on x n ∷ ascii "\n" ∷ []

pub harm-pieces : (n x i : ℕ) → harm_line n x i ≡ joined (harm_pieces n x i)
unfolding harm_line
harm-pieces n x i = row (ascii "no: output ") (decimal i) (ascii " changes at pattern ") (decimal x) (ascii ", lines on:") (lines_on x n) (ascii "\n")
  where
    row : (a b c d e f g : Text) → a ++ b ++ c ++ d ++ e ++ f ++ g ≡ joined ((a ++ b) ∷ (c ++ d) ∷ e ∷ f ∷ g ∷ [])
    row a b c d e f g = simp (append_assoc, append-nil)

abbrev pub file_pieces : Refusal → (k : ℕ) → List Text
file_pieces r k = (ascii "refused " ++ decimal k) ∷ ascii ": " ∷ get_or reasons (number_of r - 1) [] ∷ ascii "\n" ∷ []

pub file-pieces : (r : Refusal) (k : ℕ) → k ≡ number_of r → file_line r ≡ joined (file_pieces r k)
unfolding file_line refused_line
file-pieces r k e = rw e (row (ascii "refused ") (decimal (number_of r)) (ascii ": ") (get_or reasons (number_of r - 1) []) (ascii "\n"))
  where
    row : (a b c d e : Text) → a ++ b ++ c ++ d ++ e ≡ joined ((a ++ b) ∷ c ∷ d ∷ e ∷ [])
    row a b c d e = simp (append_assoc, append-nil)

pub no-gate-line : (name : Text) → pair_refused_line NotAGate name ≡ ascii "refused 11: " ++ name ++ ascii " is no gate\n"
unfolding pair_refused_line refused_line decimal
no-gate-line name = simp append_assoc

pub wide-line : (name : Text) → pair_refused_line TableTooWide name ≡ ascii "refused 12: the table of gate " ++ name ++ ascii " is too wide\n"
unfolding pair_refused_line refused_line decimal
wide-line name = simp append_assoc

pub twice-line : (r : Refusal) (name : Text) → (r ≡ NotAGate → ⊥) → (r ≡ TableTooWide → ⊥) → pair_refused_line r name ≡ ascii "refused 16: gate " ++ name ++ ascii " is named twice\n"
unfolding pair_refused_line refused_line decimal
twice-line r name g w = grind (arith, append_assoc)

-- ## A line for each pair

abbrev pub closed_pieces : (t : ℕ) → List Text
closed_pieces t = (ascii ": entry " ++ decimal t) ∷ ascii " is closed\n" ∷ []

pub closed-pieces : (a : Answer) (r : Refusal) (t : ℕ) → a ≡ Err r → t ≡ get_or (values_of r) 0 0 → open_text a ≡ joined (closed_pieces t)
closed-pieces a r t e h = rw (e, h) (two (ascii ": entry " ++ decimal (get_or (values_of r) 0 0)) (ascii " is closed\n"))

pub entry-few : (a : Answer) (r : Refusal) (t : ℕ) → a ≡ Err r → t ≡ get_or (values_of r) 0 0 → entry_of a < 10000 → t < 10000
entry-few a r t e h l = rw h (rw e at l)

abbrev pub pair_pieces : (name : Text) (c old table : ℕ) → Answer → List Text
pair_pieces name c old table a = (ascii "gate " ++ name ++ ascii " from ") ∷ hex c old ∷ ascii " to " ∷ hex c table ∷ open_text a ∷ []

pair_row : (a b c d e f g : Text) → a ++ b ++ c ++ d ++ e ++ f ++ g ≡ joined ((a ++ b ++ c) ∷ d ∷ e ∷ f ∷ g ∷ [])
pair_row a b c d e f g = simp (append_assoc, append-nil)

-- without the session that it gives, an exchange's result is its answer
answer-left : {T : Type 0} (a : Answer) (v : T) (y : Answer) (P : T → Type 0) → MatchResult (giving a v) P (λ r. y ≡ Err r) → is_ok y ≡ is_ok (giving a v) → y ≡ a
answer-left (Ok _) v (Ok _) P m k = refl
answer-left (Ok _) v (Err r) P m k = absurd (false≢true k)
answer-left (Err r) v y P m k = m

pub exchange-answer : (s : Session) (r : Replacement) {x : Result Session Refusal} {y : Answer} (P : Session → Type 0) → x ≡ exchange_of s r
    → MatchResult x P (λ r. y ≡ Err r) → is_ok y ≡ is_ok x → y ≡ exchange_answer s r
unfolding exchange_of
exchange-answer s r {x} {y} P e m k = answer-left (exchange_answer s r) (stored s r) y P (rw e at m) (rw e at k)

module _ (s : Session) (name : Text) (gate table c : ℕ) (y : Answer) (g : gate ≡ signal_named name) (d : c ≡ digits (loaded_net s))
    (e : y ≡ exchange_answer s (record { signal = gate; table = table })) where
  pub pair-pieces : pair_line s (record { gate = name; table = table }) ≡ joined (pair_pieces name c (get_or s.loaded (gate - s.n) 0) table y)
  unfolding pair_line
  pair-pieces =
      rw (e, g, d)
      (pair_row (ascii "gate ") name (ascii " from ") (hex (digits (loaded_net s)) (get_or s.loaded (signal_named name - s.n) 0)) (ascii " to ")
      (hex (digits (loaded_net s)) table)
      (open_text (exchange_answer s (record { signal = signal_named name; table = table }))))

  pub pair-entry : Shown s (record { signal = gate; table = table }) → entry_of y < 10000
  pair-entry h = rw e h.entry

-- ## The lines of all pairs

module _ (s : Session) (ps : List Pair) (i : ℕ) where
  pub pairs_next : i < length ps → pair_lines s (drop i ps) ≡ pair_line s (get_or ps i no_pair) ++ pair_lines s (drop (i + 1) ps)
  pairs_next h = rw (drop-cons ps i no_pair h, add-one)

  pub pairs-done : length ps ≤ i → pair_lines s (drop i ps) ≡ []
  pairs-done h = rw (drop_of_length-le ps {i = i} h)

module _ (text : Text) (o : Order) (r : Reads text o) (s : Session) (i : ℕ) (h : i < count_in o.case) where
  pub given-shown : AllShown s (pairs_given text o) → Shown s (record { signal = get_or o.gates i 0; table = get_or o.tables i 0 })
  given-shown a =
      let l = given-length text o r in
      rw (given-signal text o r i h) (subst (λ (p : Pair). Shown s (replacement_of p)) (given-at text o r no_pair i h) (a.each i (omega arith)))

  pub given-line : pair_lines s (drop i (pairs_given text o)) ≡ pair_line s (pair_in text o i) ++ pair_lines s (drop (i + 1) (pairs_given text o))
  given-line =
      let l = given-length text o r in
      pairs_next s (pairs_given text o) i (omega arith) ∙ ap (λ (p : Pair). pair_line s p ++ pair_lines s (drop (i + 1) (pairs_given text o))) (given-at text o r no_pair i h)

-- ## The answer by its reply

-- what a reply says of the bounds
pub prints : (reply : Reply) (s : Session) (ps : List Pair) (q : Reply) → reply ≡ q → Prints s ps reply → Prints s ps q
prints reply s ps q e h = subst (Prints s ps) e h

pub answer-is : (reply : Reply) (s : Session) (ps : List Pair) (q : Reply) → reply ≡ q → answer_for reply s ps ≡ answer_for q s ps
answer-is reply s ps q e = ap (λ (x : Reply). answer_for x s ps) e
