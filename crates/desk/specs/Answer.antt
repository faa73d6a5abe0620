-- The text of an answer. Assumes nothing.
use Rattle.std.specs.Prelude.{cond, List, [], ◌∷◌, ◌++◌, ℕ, zero, suc, ◌-◌, eqb, get_or}
use Rattle.bits.specs.Bit.{bit}
use Rattle.std.specs.Prelude.{Ok, Err}
use Rattle.network.specs.Answer.{Answer}
use Rattle.network.specs.declared.Session.{Session}
use Rattle.network.specs.declared.Refusal.{Refusal}
use Rattle.network.specs.Flat.{loaded_net}
use Rattle.network.specs.Refusals.{number_of, values_of}
use Rattle.network.specs.Load.{session_of, load_of}
use Rattle.network.specs.Calls.{exchange_answer}
use Rattle.text.specs.Numbers.{hex, decimal}
use Rattle.text.specs.Ascii.{ascii}
use Rattle.text.specs.Words.{Text}
use Rattle.tabletext.specs.Digits.{digits}
use Rattle.ordertext.specs.Order.{Pair, signal_of, replacement_of}
use Rattle.desk.specs.declared.Reply.{Reply}
use Rattle.desk.specs.declared.Reply.TheVariants.{Open, Alone, Harmful, PairRefused, FileRefused}
use Rattle.desk.specs.Reply.{reply_of}

-- ## First lines

unfoldable pub open_line : Text
open_line = ascii "yes: open, also together with any other order open on this board\n"

unfoldable pub alone_line : Text
alone_line = ascii "yes: alone, with no other order; ask the next on the changed board\n"

-- input i, where its bit is one
unfoldable pub line_on : (x i : ℕ) → Text
line_on x i = cond (bit x i) (0x20 ∷ decimal i) []

-- of the first n inputs, those whose bit is one
abbrev pub on_lines : ℕ → (n : ℕ) → Text
on_lines x zero = []
on_lines x (suc i) = on_lines x i ++ line_on x i

abbrev pub lines_on : ℕ → (n : ℕ) → Text
lines_on x n = cond (eqb x 0) (ascii " none") (on_lines x n)

unfoldable pub harm_line : (n x i : ℕ) → Text
harm_line n x i = ascii "no: output " ++ decimal i ++ ascii " changes at pattern " ++ decimal x ++ ascii ", lines on:" ++ lines_on x n ++ ascii "\n"

unfoldable pub refused_line : (k : ℕ) → Text → Text
refused_line k reason = ascii "refused " ++ decimal k ++ ascii ": " ++ reason ++ ascii "\n"

-- of 1 to 8
abbrev pub reasons : List Text
reasons =
    ascii "the file ends too soon"
    ∷ ascii "no network file, or a record out of place"
    ∷ ascii "a count is out of bounds"
    ∷ ascii "a fan-in is no earlier signal"
    ∷ ascii "a gate lists a fan-in twice"
    ∷ ascii "a bit is set past the end of a table or set"
    ∷ ascii "an output is no signal"
    ∷ ascii "bytes follow the last record"
    ∷ []

unfoldable pub file_line : Refusal → Text
file_line r = refused_line (number_of r) (get_or reasons (number_of r - 1) [])

-- 11, 12, else 16
unfoldable pub pair_refused_line : Refusal → (gate : Text) → Text
pair_refused_line r gate =
    cond (eqb (number_of r) 11) (refused_line 11 (gate ++ ascii " is no gate"))
    (cond (eqb (number_of r) 12) (refused_line 12 (ascii "the table of gate " ++ gate ++ ascii " is too wide"))
    (refused_line 16 (ascii "gate " ++ gate ++ ascii " is named twice")))

-- ## A line for each pair

-- what would be answered to the exchange
abbrev pub open_text : Answer → Text
open_text (Ok _) = ascii ": open\n"
open_text (Err r) = ascii ": entry " ++ decimal (get_or (values_of r) 0 0) ++ ascii " is closed\n"

-- tables as in the listing
unfoldable pub pair_line : Session → Pair → Text
pair_line s p =
    ascii "gate " ++ p.gate
    ++ ascii " from " ++ hex (digits (loaded_net s)) (get_or s.loaded (signal_of p - s.n) 0)
    ++ ascii " to " ++ hex (digits (loaded_net s)) p.table
    ++ open_text (exchange_answer s (replacement_of p))

abbrev pub pair_lines : Session → List Pair → Text
pair_lines s [] = []
pair_lines s (p ∷ ps) = pair_line s p ++ pair_lines s ps

-- ## The answer

abbrev pub no_pair : Pair
no_pair = record { gate = []; table = 0 }

abbrev pub answer_for : Reply → Session → List Pair → Text
answer_for Open s ps = open_line ++ pair_lines s ps
answer_for Alone s ps = alone_line ++ pair_lines s ps
answer_for (Harmful x i) s ps = harm_line s.n x i ++ pair_lines s ps
answer_for (PairRefused r k) s ps = pair_refused_line r (get_or ps k no_pair).gate
answer_for (FileRefused r) s ps = file_line r

unfoldable pub answer_text : (file : List ℕ) → List Pair → Text
answer_text file ps = answer_for (reply_of file ps) (session_of (load_of file)) ps
