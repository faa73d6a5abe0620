-- Cases of the listing, each computed and held against the text that 01 asks for. Assumes nothing.
-- A case is a pair: what the definitions give, and the text.
use Rattle.std.specs.Prelude.{◌≡◌, List, [], ◌∷◌, ◌++◌, ℕ, take}
use Rattle.text.specs.Ascii.{ascii}
use Rattle.network.specs.Examples.{twin_bytes, two_words_bytes, or_six_bytes}
use Rattle.render.specs.Listing.{row, totals, refused_line, listing_of}

-- the lines as 01 prints them
abbrev pub twin_text : List ℕ
twin_text =
    ascii "gate cdc full open hidden\n"
    ++ ascii "1 0000 0002 0002 1\n"
    ++ ascii "2 0000 0002 0000 0\n"
    ++ ascii "3 0006 0006 0002 0\n"
    ++ ascii "total 4 2\n"

abbrev pub two_words_text : List ℕ
two_words_text =
    ascii "gate cdc full open hidden\n"
    ++ ascii "7 0008 0008 0008 44\n"
    ++ ascii "total 1 1\n"

-- six copies of the input and their OR: sixteen digits in every row
abbrev pub or_six_text : List ℕ
or_six_text =
    ascii "gate cdc full open hidden\n"
    ++ ascii "1 0000000000000000 0000000000000002 0000000000000002 1\n"
    ++ ascii "2 0000000000000000 0000000000000002 0000000000000002 1\n"
    ++ ascii "3 0000000000000000 0000000000000002 0000000000000002 1\n"
    ++ ascii "4 0000000000000000 0000000000000002 0000000000000002 1\n"
    ++ ascii "5 0000000000000000 0000000000000002 0000000000000002 1\n"
    ++ ascii "6 0000000000000000 0000000000000002 0000000000000000 0\n"
    ++ ascii "7 7ffffffffffffffe 7ffffffffffffffe 00000000fffffffe 0\n"
    ++ ascii "total 68 36\n"

abbrev pub OrSixListed : Type 0
OrSixListed = listing_of or_six_bytes ≡ or_six_text

abbrev pub listed : List (List ℕ × List ℕ)
listed =
    -- the twin network
    (listing_of twin_bytes, twin_text)
    -- more than 64 patterns, entry 3 given by excluded ones alone
    ∷ (listing_of two_words_bytes, two_words_text)
    -- the lines
    ∷ (row 4 10 0xABCD 0xEF00 0x000F 1024, ascii "10 abcd ef00 000f 1024\n")
    ∷ (totals 2560 10, ascii "total 2560 10\n")
    ∷ (refused_line 13, ascii "refused 13\n")
    -- no bytes, and a file that is one byte short; one byte long
    ∷ (listing_of [], ascii "refused 1\n")
    ∷ (listing_of (take 26 twin_bytes), ascii "refused 1\n")
    ∷ (listing_of (twin_bytes ++ 0 ∷ []), ascii "refused 8\n")
    ∷ []
