-- The answer to an order that was read, on a board's file. Assumes nothing.
use Rattle.std.specs.Prelude.{◌≡◌, List, ℕ, ◌≤◌, length}
use Rattle.buffer.specs.Laid.{Laid}
use Rattle.network.specs.Load.{session_of, load_of}
use Rattle.ordertext.specs.declared.Order.{Order}
use Rattle.ordertext.specs.Order.{most_order_bytes, Pair}
use Rattle.ordertext.specs.Reads.{count_in, Reads}
use Rattle.desk.specs.Reply.{reply_of}
use Rattle.desk.specs.Answer.{answer_text}
use Rattle.answertext.specs.declared.Answered.{Answered}

-- o is the order of the text, and has a pair
pub record Asks (text : List ℕ) (o : Order) : Type 0 where
  pub reads : Reads text o
  pub short : length text ≤ most_order_bytes
  pub some : 1 ≤ count_in o.case

-- the text stands at the start of the buffer, and all else in it is as before
pub record Answers (file : List ℕ) (ps : List Pair) (before after : List ℕ) (r : Answered) : Type 0 where
  pub laid : Laid before 0 (answer_text file ps) after r.size
  pub within : r.size ≤ length after
  pub reply : r.reply ≡ reply_of file ps
  pub session : r.session ≡ (session_of (load_of file))
