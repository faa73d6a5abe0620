-- Cases of an order's text, each computed and held against what is stated. Assumes nothing.
use Rattle.std.specs.Prelude.{List, [], ◌∷◌, ℕ}
use Rattle.text.specs.Ascii.{ascii}
use Rattle.text.specs.Words.{Text}
use Rattle.ordertext.specs.Order.{Pair, Parsed, Pairs, NoPair, Blank, signal_of, order_of}

abbrev pub pair : Text → ℕ → Pair
pair name t = record { gate = name; table = t }

abbrev pub parsed : List (Parsed × Parsed)
parsed =
    (order_of (ascii " 14=0 22=0"), Pairs (pair (ascii "14") 0) (pair (ascii "22") 0 ∷ []))
    -- the same in one argument, and with every gap there is, at both ends too
    ∷ (order_of (ascii "14=0 22=0"), Pairs (pair (ascii "14") 0) (pair (ascii "22") 0 ∷ []))
    ∷ (order_of (ascii "\n14=0\t\r\n 22=0 "), Pairs (pair (ascii "14") 0) (pair (ascii "22") 0 ∷ []))
    -- a table in either case, of up to 16 digits
    ∷ (order_of (ascii " 1=0 3=C"), Pairs (pair (ascii "1") 0) (pair (ascii "3") 0xC ∷ []))
    ∷ (order_of (ascii " 3=c"), Pairs (pair (ascii "3") 0xC) [])
    ∷ (order_of (ascii " 3=0123456789abcdEF"), Pairs (pair (ascii "3") 0x0123456789ABCDEF) [])
    ∷ (order_of (ascii " 3=FFFFffffFFFFffff"), Pairs (pair (ascii "3") 0xFFFFFFFFFFFFFFFF) [])
    -- a gate as typed; the last = parts it from the table
    ∷ (order_of (ascii " 0014=8"), Pairs (pair (ascii "0014") 8) [])
    ∷ (order_of (ascii " abc=0"), Pairs (pair (ascii "abc") 0) [])
    ∷ (order_of (ascii " 1=2=0"), Pairs (pair (ascii "1=2") 0) [])
    ∷ (order_of (ascii " ==0"), Pairs (pair (ascii "=") 0) [])
    -- a gate named twice is for the board to refuse
    ∷ (order_of (ascii " 1=0 1=4"), Pairs (pair (ascii "1") 0) (pair (ascii "1") 4 ∷ []))
    -- no pair
    ∷ (order_of (ascii " 1"), NoPair (ascii "1"))
    ∷ (order_of (ascii " 1="), NoPair (ascii "1="))
    ∷ (order_of (ascii " =0"), NoPair (ascii "=0"))
    ∷ (order_of (ascii " 1=g"), NoPair (ascii "1=g"))
    ∷ (order_of (ascii " 1=G"), NoPair (ascii "1=G"))
    ∷ (order_of (ascii " 1=@"), NoPair (ascii "1=@"))
    ∷ (order_of (ascii " 1=0x0"), NoPair (ascii "1=0x0"))
    ∷ (order_of (ascii " 1=00000000000000000"), NoPair (ascii "1=00000000000000000"))
    ∷ (order_of (ascii " 1=0="), NoPair (ascii "1=0="))
    ∷ (order_of (ascii " -o"), NoPair (ascii "-o"))
    -- bytes outside 21 to 7E
    ∷ (order_of (0x31 ∷ 0x7F ∷ ascii "=0"), NoPair (0x31 ∷ 0x7F ∷ ascii "=0"))
    ∷ (order_of (0x31 ∷ 0x00 ∷ ascii "=0"), NoPair (0x31 ∷ 0x00 ∷ ascii "=0"))
    ∷ (order_of (ascii "~!=0"), Pairs (pair (ascii "~!") 0) [])
    -- the first word that is none
    ∷ (order_of (ascii " 1=0 2 3=g"), NoPair (ascii "2"))
    -- nothing at all
    ∷ (order_of [], Blank)
    ∷ (order_of (ascii " \t\r\n "), Blank)
    ∷ []

abbrev pub signals : List (ℕ × ℕ)
signals =
    (signal_of (pair (ascii "14") 0), 14)
    ∷ (signal_of (pair (ascii "0") 0), 0)
    ∷ (signal_of (pair (ascii "0014") 0), 14)
    ∷ (signal_of (pair (ascii "9999") 0), 9999)
    -- no signal's name
    ∷ (signal_of (pair (ascii "00014") 0), 10000)
    ∷ (signal_of (pair (ascii "10000") 0), 10000)
    ∷ (signal_of (pair (ascii "abc") 0), 10000)
    ∷ (signal_of (pair (ascii "1a") 0), 10000)
    ∷ (signal_of (pair (ascii "1=2") 0), 10000)
    ∷ (signal_of (pair (ascii "+1") 0), 10000)
    ∷ (signal_of (pair [] 0), 10000)
    ∷ []
