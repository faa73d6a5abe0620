-- Cases of orders on small boards, each computed and held against what is stated. Assumes nothing.
use Rattle.std.specs.Prelude.{List, [], ◌∷◌, ◌++◌, map, ℕ, replicate, take, drop}
use Rattle.network.specs.declared.Session.{Session}
use Rattle.network.specs.Load.{session_of, load_of}
use Rattle.network.specs.Refusals.{said}
use Rattle.network.specs.Examples.{twin_bytes, twin_session, or_six_session, held}
use Rattle.network.specs.Cases.{numbers}
use Rattle.text.specs.Ascii.{ascii}
use Rattle.text.specs.Words.{Text}
use Rattle.ordertext.specs.Order.{replacement_of, order_of, pairs_of}
use Rattle.desk.specs.Reply.{reply_on, board_of}
use Rattle.desk.specs.Answer.{open_line, alone_line, answer_for, answer_text}
use Rattle.desk.specs.Promises.{most_answer_bytes, most_refusal_bytes}

-- the answer on a loaded board
abbrev pub asked : Session → Text → Text
asked s order = let ps = pairs_of (order_of order) in answer_for (reply_on s (map replacement_of ps)) s ps

-- the twin with gate 3 an exclusive or, and the twin with pattern 1 excluded
abbrev pub xor_bytes : List ℕ
xor_bytes = take 22 twin_bytes ++ 0x06 ∷ 0x00 ∷ 0x4E ∷ 0x4F ∷ 0x03 ∷ []

abbrev pub xor_session : Session
xor_session = held 1 3 1 [] (1 ∷ 1 ∷ 2 ∷ []) (replicate 12 0 ++ 1 ∷ 2 ∷ []) (0x2 ∷ 0x2 ∷ 0x6 ∷ []) (0x0 ∷ 0x0 ∷ 0x6 ∷ []) (3 ∷ [])

abbrev pub twin1_bytes : List ℕ
twin1_bytes = take 5 twin_bytes ++ 0x4E ∷ 0x58 ∷ 0x02 ∷ drop 5 twin_bytes

abbrev pub twin1_session : Session
twin1_session = held 1 3 1 (2 ∷ []) (1 ∷ 1 ∷ 2 ∷ []) (replicate 12 0 ++ 1 ∷ 2 ∷ []) (0x2 ∷ 0x2 ∷ 0xE ∷ []) (0x2 ∷ 0x2 ∷ 0xE ∷ []) (3 ∷ [])

-- a gate with table 0 over three lines
abbrev pub three_lines_bytes : List ℕ
three_lines_bytes = 0x4E ∷ 0x49 ∷ 0x03 ∷ 0x01 ∷ 0x01 ∷ 0x4E ∷ 0x47 ∷ 0x03 ∷ 0x00 ∷ 0x01 ∷ 0x02 ∷ 0x00 ∷ 0x00 ∷ 0x4E ∷ 0x4F ∷ 0x03 ∷ []

abbrev pub three_lines_session : Session
three_lines_session = held 3 1 1 [] (3 ∷ []) (0 ∷ 1 ∷ 2 ∷ []) (0x0 ∷ []) (0x0 ∷ []) (3 ∷ [])

-- the sessions are those of the files
abbrev pub loads : List (List ℕ × List ℕ)
loads =
    (said (load_of xor_bytes) ++ numbers (session_of (load_of xor_bytes)), numbers xor_session)
    ∷ (said (load_of twin1_bytes) ++ numbers (session_of (load_of twin1_bytes)), numbers twin1_session)
    ∷ (said (load_of three_lines_bytes) ++ numbers (session_of (load_of three_lines_bytes)), numbers three_lines_session)
    ∷ []

abbrev pub harmed : Text
harmed = ascii "no: output 0 changes at pattern 1, lines on: 0\n"

abbrev pub answered : List (List ℕ × List ℕ)
answered =
    (asked twin_session (ascii " 1=0"), open_line ++ ascii "gate 1 from 0002 to 0000: open\n")
    ∷ (asked twin_session (ascii " 2=0"), alone_line ++ ascii "gate 2 from 0002 to 0000: entry 1 is closed\n")
    ∷ (asked twin_session (ascii " 1=0 2=0"), harmed ++ ascii "gate 1 from 0002 to 0000: open\ngate 2 from 0002 to 0000: entry 1 is closed\n")
    ∷ (asked twin_session (ascii " 1=0 3=C"), open_line ++ ascii "gate 1 from 0002 to 0000: open\ngate 3 from 000e to 000c: open\n")
    ∷ (asked twin_session (ascii " 2=0 3=c"), harmed ++ ascii "gate 2 from 0002 to 0000: entry 1 is closed\ngate 3 from 000e to 000c: open\n")
    ∷ (asked twin_session (ascii " 2=0 3=a"), alone_line ++ ascii "gate 2 from 0002 to 0000: entry 1 is closed\ngate 3 from 000e to 000a: entry 2 is closed\n")
    ∷ (asked twin_session (ascii " 1=3"), ascii "no: output 0 changes at pattern 0, lines on: none\ngate 1 from 0002 to 0003: entry 0 is closed\n")
    -- the gate as typed
    ∷ (asked twin_session (ascii " 01=3"), ascii "no: output 0 changes at pattern 0, lines on: none\ngate 01 from 0002 to 0003: entry 0 is closed\n")
    ∷ (asked xor_session (ascii " 1=1"), ascii "no: output 0 changes at pattern 0, lines on: none\ngate 1 from 0002 to 0001: entry 0 is closed\n")
    ∷ (asked xor_session (ascii " 1=1 2=1"), alone_line ++ ascii "gate 1 from 0002 to 0001: entry 0 is closed\ngate 2 from 0002 to 0001: entry 0 is closed\n")
    ∷ (asked twin1_session (ascii " 1=0 2=0"), open_line ++ ascii "gate 1 from 0002 to 0000: open\ngate 2 from 0002 to 0000: open\n")
    -- one line on, before two
    ∷ (asked three_lines_session (ascii " 3=18"), ascii "no: output 0 changes at pattern 4, lines on: 2\ngate 3 from 0000 to 0018: entry 3 is closed\n")
    -- a gate of six fan-ins on the board: sixteen digits at every gate
    ∷ (asked or_six_session (ascii " 7=ffffffff00000000"), open_line ++ ascii "gate 7 from fffffffffffffffe to ffffffff00000000: open\n")
    ∷ (asked or_six_session (ascii " 6=0"), alone_line ++ ascii "gate 6 from 0000000000000002 to 0000000000000000: entry 1 is closed\n")
    ∷ (asked or_six_session (ascii " 7=0"), harmed ++ ascii "gate 7 from fffffffffffffffe to 0000000000000000: entry 32 is closed\n")
    ∷ []

abbrev pub refused : List (List ℕ × List ℕ)
refused =
    (asked twin_session (ascii " 0=0"), ascii "refused 11: 0 is no gate\n")
    ∷ (asked twin_session (ascii " 1=0 1=0"), ascii "refused 16: gate 1 is named twice\n")
    ∷ (asked twin_session (ascii " 1=4"), ascii "refused 12: the table of gate 1 is too wide\n")
    ∷ (asked twin_session (ascii " 1=4 1=0"), ascii "refused 12: the table of gate 1 is too wide\n")
    ∷ (asked twin_session (ascii " 1=0 1=4"), ascii "refused 16: gate 1 is named twice\n")
    ∷ (asked twin_session (ascii " abc=0"), ascii "refused 11: abc is no gate\n")
    ∷ (asked twin_session (ascii " 1=2=0"), ascii "refused 11: 1=2 is no gate\n")
    -- of two names of one gate, the second as typed
    ∷ (asked twin_session (ascii " 1=0 2=2 001=0"), ascii "refused 16: gate 001 is named twice\n")
    ∷ (answer_text [] [], ascii "refused 1: the file ends too soon\n")
    ∷ (answer_text (twin_bytes ++ 0 ∷ []) [], ascii "refused 8: bytes follow the last record\n")
    ∷ []

-- the new board has the ordered tables
abbrev pub written : List (List ℕ × List ℕ)
written = (board_of twin_bytes (pairs_of (order_of (ascii " 3=6"))), xor_bytes) ∷ []

-- the most bytes of an answer, and of one that refuses a pair
abbrev pub sizes : List (ℕ × ℕ)
sizes = (most_answer_bytes, 2948) ∷ (most_refusal_bytes, 1046) ∷ []
