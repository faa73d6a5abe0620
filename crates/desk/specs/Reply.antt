-- What an order on a board is answered. Assumes nothing.
use Rattle.std.specs.Prelude.{Bool, true, false, cond, List, [], map, ℕ}
use Rattle.std.specs.Prelude.{Result, Ok, Err}
use Rattle.network.specs.Answer.{Answer}
use Rattle.network.specs.declared.Session.{Session}
use Rattle.network.specs.declared.Refusal.{Refusal}
use Rattle.network.specs.declared.Refusal.TheVariants.{Truncated, UnexpectedMark, OutOfBounds, FaninNotEarlier, FaninRepeated, BitPastEnd, NotASignal, TrailingBytes, BufferTooShort, InvalidState, NotAGate, TableTooWide, ClosedEntry, Harm, ListsUnequal, GateRepeated, OutsideSubset, BadName}
use Rattle.network.specs.Net.{Replacement}
use Rattle.network.specs.Flat.{loaded_net, stored_all}
use Rattle.network.specs.Tests.{is_done}
use Rattle.network.specs.Load.{session_of, load_of}
use Rattle.network.specs.Write.{bytes_of}
use Rattle.network.specs.Calls.{with_current, exchange_answer, refused_at, verdict_on}
use Rattle.text.specs.Words.{all}
use Rattle.ordertext.specs.Order.{Pair, replacement_of}
use Rattle.desk.specs.declared.Reply.{Reply}
use Rattle.desk.specs.declared.Reply.TheVariants.{Open, Alone, Harmful, PairRefused, FileRefused}

-- each pair would be accepted as an exchange
unfoldable pub all_open : Session → List Replacement → Bool
all_open s rs = all (λ r. is_done (exchange_answer s r)) rs

-- a verdict's refusal, where pair k is the first that is refused: 14, or 11, 16 or 12 of that pair; no other comes
abbrev pub refused_reply : Refusal → (k : ℕ) → Reply
refused_reply (Harm x i) k = Harmful x i
refused_reply NotAGate k = PairRefused NotAGate k
refused_reply GateRepeated k = PairRefused GateRepeated k
refused_reply TableTooWide k = PairRefused TableTooWide k
refused_reply Truncated k = FileRefused Truncated
refused_reply UnexpectedMark k = FileRefused UnexpectedMark
refused_reply OutOfBounds k = FileRefused OutOfBounds
refused_reply FaninNotEarlier k = FileRefused FaninNotEarlier
refused_reply FaninRepeated k = FileRefused FaninRepeated
refused_reply BitPastEnd k = FileRefused BitPastEnd
refused_reply NotASignal k = FileRefused NotASignal
refused_reply TrailingBytes k = FileRefused TrailingBytes
refused_reply BufferTooShort k = FileRefused BufferTooShort
refused_reply InvalidState k = FileRefused InvalidState
refused_reply (ClosedEntry t) k = FileRefused (ClosedEntry t)
refused_reply ListsUnequal k = FileRefused ListsUnequal
refused_reply OutsideSubset k = FileRefused OutsideSubset
refused_reply BadName k = FileRefused BadName

-- the reply by a verdict, where k pairs stand before the first that is refused, and opens tells whether each would be accepted
abbrev pub reply_with : Answer → (k : ℕ) → (opens : Bool) → Reply
reply_with (Ok _) k opens = cond opens Open Alone
reply_with (Err r) k opens = refused_reply r k

-- the reply by the verdict on all pairs at once
abbrev pub reply_by : Answer → Session → List Replacement → Reply
reply_by v s rs = reply_with v (refused_at (loaded_net s) [] rs) (all_open s rs)

-- on a loaded board
unfoldable pub reply_on : Session → List Replacement → Reply
reply_on s rs = reply_by (verdict_on s rs) s rs

abbrev pub reply_for : Result Session Refusal → List Replacement → Reply
reply_for (Ok s) rs = reply_on s rs
reply_for (Err r) rs = FileRefused r

-- on a board's file
unfoldable pub reply_of : (file : List ℕ) → List Pair → Reply
reply_of file ps = reply_for (load_of file) (map replacement_of ps)

abbrev pub grants : Reply → Bool
grants Open = true
grants Alone = true
grants (Harmful x i) = false
grants (PairRefused r k) = false
grants (FileRefused r) = false

-- ## The new board

-- the session with all ordered tables current
abbrev pub placed : Session → List Replacement → Session
placed s rs = with_current s (stored_all s.n rs s.current)

unfoldable pub board_of : (file : List ℕ) → List Pair → List ℕ
board_of file ps = bytes_of (placed (session_of (load_of file)) (map replacement_of ps))
