-- `put_answer`: by the reply, a first line and the pairs' lines, or a first line alone. Assumes nothing.
use mathlib.Core.Path.{◌≡◌, ap, ◌∙◌}
use mathlib.Core.List.{List, [], ◌∷◌, ◌++◌}
use Prim.Native.Nat.{ℕ, ◌<◌}
use native.Mathlib.Omega.{arith}
use lib.ListN.{length}
use Rattle.network.specs.declared.Refusal.{Refusal}
use Rattle.network.specs.declared.Session.{Session}
use Rattle.buffer.specs.Laid.{Room}
use Rattle.text.specs.Words.{Text}
use Rattle.ordertext.specs.declared.Order.{Order}
use Rattle.ordertext.specs.Order.{Pair}
use Rattle.ordertext.specs.Reads.{pair_in, count_in, pairs_given, Reads}
use Rattle.ordertext.proofs.Given.{given-length, given-at}
use Rattle.desk.specs.declared.Reply.{Reply}
use Rattle.desk.specs.declared.Reply.TheVariants.{Open, Alone, Harmful, PairRefused, FileRefused}
use Rattle.desk.specs.Answer.{open_line, alone_line, harm_line, pair_refused_line, pair_lines, no_pair, answer_for}
use Rattle.answertext.specs.Prints.{Prints}
use Rattle.answertext.proofs.Pieces.{Due, due, due-room, due-next, due-done}
use Rattle.answertext.proofs.Printed.{two, prints, answer-is}
use Rattle.answertext.proofs.put_answer.Goals as goal

module _ (reply : Reply) (s : Session) (text : Text) (o : Order) where
  abbrev given : List Pair
  given = pairs_given text o

  answer-by : (q : Reply) → reply ≡ q → answer_for reply s given ≡ answer_for q s given
  answer-by q e = answer-is reply s given q e

  bounds-by : (q : Reply) → reply ≡ q → Prints s given reply → Prints s given q
  bounds-by q e h = prints reply s given q e h

  -- ## A first line, and the pairs' lines

  module _ (b : Text) (h : Room b 0 (answer_for reply s given)) where
    abbrev Left : List Text → Type 0
    Left ls = Due b 0 (answer_for reply s given) b 0 ls

    both : (first : Text) → answer_for reply s given ≡ first ++ pair_lines s given → Left (first ∷ pair_lines s given ∷ [])
    both first e = due b 0 (first ∷ pair_lines s given ∷ []) (e ∙ two first (pair_lines s given)) h

    open-first : reply ≡ Open → Left (open_line ∷ pair_lines s given ∷ [])
    open-first e = both open_line (answer-by Open e)

    alone-first : reply ≡ Alone → Left (alone_line ∷ pair_lines s given ∷ [])
    alone-first e = both alone_line (answer-by Alone e)

    harm-first : (x i : ℕ) → reply ≡ Harmful x i → Left (harm_line s.n x i ∷ pair_lines s given ∷ [])
    harm-first x i e = both (harm_line s.n x i) (answer-by (Harmful x i) e)

  -- ## A pair that is refused

  module _ (r : Refusal) (k : ℕ) (e : reply ≡ PairRefused r k) (a : Reads text o) (h : Prints s given reply) where
    refused-in : k < count_in o.case
    refused-in =
        let l : k < length given = bounds-by (PairRefused r k) e h in
        let n = given-length text o a in
        omega arith

    refused-line : answer_for reply s given ≡ pair_refused_line r (pair_in text o k).gate
    refused-line = answer-by (PairRefused r k) e ∙ ap (λ (p : Pair). pair_refused_line r p.gate) (given-at text o a no_pair k refused-in)

-- ## Needs

pub copy-a-requires : goal.copy-a-requires
unfolding open_line
copy-a-requires c = let x = c.args in due-room (open-first x.reply x.s x.text.now x.o x.buf.now c.requires.2 c.in-Open.is)

pub put_pairs-requires : goal.put_pairs-requires
unfolding open_line
put_pairs-requires c =
    let x = c.args in
    let e = c.in-Open.is in (
      c.requires.0,
      bounds-by x.reply x.s x.text.now x.o Open e c.requires.1,
      due-room (due-next (open-first x.reply x.s x.text.now x.o x.buf.now c.requires.2 e) c.copy-a.ensures),
    )

pub copy-a-requires-in-Alone : goal.copy-a-requires-in-Alone
unfolding alone_line
copy-a-requires-in-Alone c = let x = c.args in due-room (alone-first x.reply x.s x.text.now x.o x.buf.now c.requires.2 c.in-Alone.is)

pub put_pairs-requires-in-Alone : goal.put_pairs-requires-in-Alone
unfolding alone_line
put_pairs-requires-in-Alone c =
    let x = c.args in
    let e = c.in-Alone.is in (
      c.requires.0,
      bounds-by x.reply x.s x.text.now x.o Alone e c.requires.1,
      due-room (due-next (alone-first x.reply x.s x.text.now x.o x.buf.now c.requires.2 e) c.copy-a-in-Alone.ensures),
    )

pub put_harm-a-requires : goal.put_harm-a-requires
put_harm-a-requires c =
    let x = c.args in
    let g = c.in-Harmful in
    let h = bounds-by x.reply x.s x.text.now x.o (Harmful g.pattern g.output) g.is c.requires.1 in
    (h.0, h.1, h.2, due-room (harm-first x.reply x.s x.text.now x.o x.buf.now c.requires.2 g.pattern g.output g.is))

pub put_pairs-requires-in-Harmful : goal.put_pairs-requires-in-Harmful
put_pairs-requires-in-Harmful c =
    let x = c.args in
    let g = c.in-Harmful in (
      c.requires.0,
      (bounds-by x.reply x.s x.text.now x.o (Harmful g.pattern g.output) g.is c.requires.1).3,
      due-room (due-next (harm-first x.reply x.s x.text.now x.o x.buf.now c.requires.2 g.pattern g.output g.is) c.put_harm-a.ensures),
    )

pub name-name-requires : goal.name-name-requires
name-name-requires c =
    let x = c.args in
    let g = c.in-PairRefused in
    (c.requires.0, refused-in x.reply x.s x.text.now x.o g.refusal g.pair g.is c.requires.0 c.requires.1)

pub put_pair_refused-requires : goal.put_pair_refused-requires
put_pair_refused-requires c =
    let x = c.args in
    let g = c.in-PairRefused in
    rw c.name-name.ensures (rw (refused-line x.reply x.s x.text.now x.o g.refusal g.pair g.is c.requires.0 c.requires.1) at c.requires.2)

pub put_file_refused-requires : goal.put_file_refused-requires
put_file_refused-requires c =
    let x = c.args in
    let g = c.in-FileRefused in
    rw (answer-by x.reply x.s x.text.now x.o (FileRefused g.r) g.is) at c.requires.2

pub returns-in-Open : goal.returns-in-Open
unfolding open_line
returns-in-Open c =
    let x = c.args in
    due-done (due-next (due-next (open-first x.reply x.s x.text.now x.o x.buf.now c.requires.2 c.in-Open.is) c.copy-a.ensures) c.put_pairs.ensures)

pub returns-in-Alone : goal.returns-in-Alone
unfolding alone_line
returns-in-Alone c =
    let x = c.args in
    due-done (due-next (due-next (alone-first x.reply x.s x.text.now x.o x.buf.now c.requires.2 c.in-Alone.is) c.copy-a-in-Alone.ensures) c.put_pairs-in-Alone.ensures)

pub returns-in-Harmful : goal.returns-in-Harmful
returns-in-Harmful c =
    let x = c.args in
    let g = c.in-Harmful in
    due-done (due-next (due-next (harm-first x.reply x.s x.text.now x.o x.buf.now c.requires.2 g.pattern g.output g.is) c.put_harm-a.ensures) c.put_pairs-in-Harmful.ensures)

pub returns-in-PairRefused : goal.returns-in-PairRefused
returns-in-PairRefused c =
    let x = c.args in
    let g = c.in-PairRefused in
    rw (refused-line x.reply x.s x.text.now x.o g.refusal g.pair g.is c.requires.0 c.requires.1) (rw c.name-name.ensures at c.put_pair_refused.ensures)

pub returns-in-FileRefused : goal.returns-in-FileRefused
returns-in-FileRefused c =
    let x = c.args in
    let g = c.in-FileRefused in
    rw (answer-by x.reply x.s x.text.now x.o (FileRefused g.r) g.is) c.put_file_refused.ensures
