-- What judging an order on a board's file gives, and when its new board can be written. Assumes nothing.
use Rattle.std.specs.Prelude.{◌≡◌, true, List, map, ℕ, ◌≤◌, length, take}
use Rattle.bits.specs.Lists.{overwritten}
use Rattle.network.specs.Answer.{Done}
use Rattle.network.specs.declared.Session.{Session}
use Rattle.network.specs.Bounds.{most_gates}
use Rattle.network.specs.Net.{Replacement, signals}
use Rattle.network.specs.State.{state_fault}
use Rattle.network.specs.Load.{session_of, load_of}
use Rattle.network.specs.Write.{bytes_of}
use Rattle.network.specs.Calls.{pairs}
use Rattle.replacements.specs.Pair.{GatesIn}
use Rattle.ordertext.specs.declared.Order.{Order}
use Rattle.ordertext.specs.Order.{replacement_of, order_of, pairs_of}
use Rattle.ordertext.specs.Reads.{count_in, Reads}
use Rattle.desk.specs.Reply.{reply_for, reply_of, grants, placed, board_of}
use Rattle.judging.specs.declared.Judged.{Judged}

-- the pairs that an order holds
abbrev pub replacements_in : Order → List Replacement
replacements_in o = pairs (take (count_in o.case) o.gates) (take (count_in o.case) o.tables)

unfoldable pub judged_of : (file : List ℕ) → List Replacement → Judged
judged_of file rs = record { reply = reply_for (load_of file) rs; session = session_of (load_of file) }

-- with all these tables current the session is valid; each has a place
pub record Placeable (s : Session) (rs : List Replacement) : Type 0 where
  pub valid : state_fault (placed s rs) ≡ Done
  pub gates : GatesIn s.n most_gates (signals rs)

-- the file of the session with these tables current stands at the start of the buffer, and all else in it is as before
pub record Put (s : Session) (rs : List Replacement) (before after : List ℕ) (size : ℕ) : Type 0 where
  pub long : size ≡ length (bytes_of (placed s rs))
  pub bytes : after ≡ overwritten (bytes_of (placed s rs)) before
  pub within : size ≤ length after

-- of an order that was read, on the board of a file: these are its pairs, a granted one can be done, and what is written is the new board
pub record Given (file text : List ℕ) (o : Order) : Type 0 where
  pub pairs : replacements_in o ≡ map replacement_of (pairs_of (order_of text))
  pub reply : (judged_of file (replacements_in o)).reply ≡ reply_of file (pairs_of (order_of text))
  pub placeable : grants (reply_of file (pairs_of (order_of text))) ≡ true → Placeable (session_of (load_of file)) (replacements_in o)
  pub board : bytes_of (placed (session_of (load_of file)) (replacements_in o)) ≡ board_of file (pairs_of (order_of text))

abbrev pub GivenOf : Type 0
GivenOf = (file text : List ℕ) (o : Order) → Reads text o → Given file text o
