-- What was judged can be printed, and is the answer. Assumes nothing.
use mathlib.Core.Path.{◌≡◌, sym, ap, subst, ◌∙◌}
use mathlib.Core.Bool.{true}
use mathlib.Core.List.{List}
use Prim.Native.Nat.{ℕ, ◌≤◌}
use native.Mathlib.Omega.{arith}
use lib.ListN.{length}
use Rattle.buffer.specs.Laid.{Room, Laid}
use Rattle.buffer.proofs.Laying.{laid-length}
use Rattle.network.specs.declared.Session.{Session}
use Rattle.network.specs.Load.{session_of, load_of}
use Rattle.ordertext.specs.declared.Order.{Order}
use Rattle.ordertext.specs.Order.{most_pairs, Pair, order_of, pairs_of}
use Rattle.ordertext.specs.Reads.{count_in, pairs_given, Reads}
use Rattle.ordertext.proofs.Given.{given-few, given-pairs, given-length}
use Rattle.desk.specs.Reply.{reply_of, grants}
use Rattle.desk.specs.Answer.{answer_for, answer_text}
use Rattle.desk.specs.Promises.{most_answer_bytes}
use Rattle.judging.specs.declared.Judged.{Judged}
use Rattle.judging.specs.Judged.{replacements_in, judged_of, Placeable}
use Rattle.judging.proofs.Judging.{given}
use Rattle.answertext.specs.declared.Answered.{Answered}
use Rattle.answertext.specs.Prints.{Prints}
use Rattle.answertext.specs.Answers.{Asks, Answers}
use Rattle.answertext.proofs.Bounds.{prints-of, room_of}

module _ (file text : List ℕ) (o : Order) (a : Asks text o) (j : Judged) (e : j ≡ judged_of file (replacements_in o)) where
  abbrev ps : List Pair
  ps = pairs_of (order_of text)

  pairs-are : pairs_given text o ≡ ps
  pairs-are = given-pairs text o a.reads

  reply-is : j.reply ≡ reply_of file ps
  reply-is = ap (λ (j : Judged). j.reply) e ∙ (given file text o a.reads).reply

  session-is : j.session ≡ (session_of (load_of file))
  unfolding judged_of
  session-is = ap (λ (j : Judged). j.session) e

  room : (buffer : List ℕ) → most_answer_bytes ≤ length buffer → Room buffer 0 (answer_text file ps)
  room buffer h =
      let n = sym (given-length text o a.reads) ∙ ap length pairs-are in
      let k = a.some in
      room_of file text buffer a.short (omega arith) h

  pub ready : (buffer : List ℕ) → most_answer_bytes ≤ length buffer
      → Reads text o × Prints j.session (pairs_given text o) j.reply × Room buffer 0 (answer_for j.reply j.session (pairs_given text o))
  unfolding answer_text
  ready buffer h = (a.reads, rw (pairs-are, reply-is, session-is) (prints-of file ps), rw (pairs-are, reply-is, session-is) (room buffer h))

  pub answered : {before after : List ℕ} {n : ℕ} → most_answer_bytes ≤ length before → Laid before 0 (answer_for j.reply j.session (pairs_given text o)) after n
      → Answers file ps before after (record { size = n; reply = j.reply; session = j.session })
  unfolding answer_text
  answered {before} {after} {n} h l =
      let w : Laid before 0 (answer_text file ps) after n = rw (pairs-are, reply-is, session-is) at l in
      let long = laid-length w in
      let r = room before h in
      let size = w.behind in
      record { laid = w; within = omega arith; reply = reply-is; session = session-is }

-- a granted order's board can be written
pub grantable : (file text : List ℕ) (o : Order) {before after : List ℕ} {r : Answered} → Asks text o → Answers file (pairs_of (order_of text)) before after r
    → grants r.reply ≡ true → (count_in o.case ≤ most_pairs) × Placeable r.session (replacements_in o)
grantable file text o {before} {after} {r} a w g =
    (given-few text o a.reads, subst (λ (s : Session). Placeable s (replacements_in o)) (sym w.session) ((given file text o a.reads).placeable (ap grants (sym w.reply) ∙ g)))
