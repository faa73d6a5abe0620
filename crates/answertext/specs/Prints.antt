-- What the code that prints is given. Assumes nothing.
use Rattle.std.specs.Prelude.{List, ℕ, ◌+◌, ◌<◌, ◌≤◌, length, get_or}
use Rattle.bits.specs.Bounds.{most_inputs}
use Rattle.std.specs.Prelude.{Ok, Err}
use Rattle.network.specs.Answer.{Answer}
use Rattle.network.specs.declared.Session.{Session}
use Rattle.network.specs.Bounds.{most_gates}
use Rattle.network.specs.Net.{Replacement}
use Rattle.network.specs.Refusals.{values_of}
use Rattle.network.specs.Load.{session_of, load_of}
use Rattle.network.specs.Calls.{exchange_answer}
use Rattle.buffer.specs.Laid.{Room}
use Rattle.text.specs.Words.{Text}
use Rattle.ordertext.specs.Order.{most_order_bytes, Pair, replacement_of, order_of, pairs_of}
use Rattle.desk.specs.declared.Reply.{Reply}
use Rattle.desk.specs.declared.Reply.TheVariants.{Open, Alone, Harmful, PairRefused, FileRefused}
use Rattle.desk.specs.Reply.{reply_of}
use Rattle.desk.specs.Promises.{most_answer_bytes}
use Rattle.desk.specs.Answer.{no_pair, answer_text}

-- the entry that an exchange's answer names
abbrev pub entry_of : Answer → ℕ
entry_of (Ok _) = 0
entry_of (Err r) = get_or (values_of r) 0 0

-- a pair that can have a line: its gate has a place in the arrays, and 13's entry at most four digits
pub record Shown (s : Session) (r : Replacement) : Type 0 where
  pub from : s.n ≤ r.signal
  pub below : r.signal < s.n + most_gates
  pub entry : entry_of (exchange_answer s r) < 10000

pub record AllShown (s : Session) (ps : List Pair) : Type 0 where
  pub gates : s.m ≤ most_gates
  pub each : (i : ℕ) → i < length ps → Shown s (replacement_of (get_or ps i no_pair))

-- the bounds within which an answer is printed
abbrev pub Prints : Session → List Pair → Reply → Type 0
Prints s ps Open = AllShown s ps
Prints s ps Alone = AllShown s ps
Prints s ps (Harmful x i) = (s.n ≤ most_inputs) × (x < 10000) × (i < 10000) × AllShown s ps
Prints s ps (PairRefused r k) = k < length ps
Prints s ps (FileRefused r) = Unit {0}

-- every reply that comes has these bounds
abbrev pub PrintsOf : Type 0
PrintsOf = (file : List ℕ) (ps : List Pair) → Prints (session_of (load_of file)) ps (reply_of file ps)

-- the answer to an order has room in most_answer_bytes
abbrev pub RoomOf : Type 0
RoomOf = (file text buffer : Text) → length text ≤ most_order_bytes → 1 ≤ length (pairs_of (order_of text)) → most_answer_bytes ≤ length buffer
    → Room buffer 0 (answer_text file (pairs_of (order_of text)))
