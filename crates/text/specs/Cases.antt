-- Cases of numbers as text and of a text's parts, each computed and held against what is stated. Assumes nothing.
use Rattle.std.specs.Prelude.{Bool, List, [], ◌∷◌, ℕ, eqb}
use Rattle.text.specs.Ascii.{ascii}
use Rattle.text.specs.Numbers.{word_digits, hex, decimal}
use Rattle.text.specs.Words.{Text, parts, before, words}

abbrev pub shown : List (List ℕ × List ℕ)
shown =
    -- decimal, with no leading zeros
    (decimal 0, ascii "0")
    ∷ (decimal 9, ascii "9")
    ∷ (decimal 10, ascii "10")
    ∷ (decimal 99, ascii "99")
    ∷ (decimal 100, ascii "100")
    ∷ (decimal 999, ascii "999")
    ∷ (decimal 1000, ascii "1000")
    ∷ (decimal 1024, ascii "1024")
    -- hexadecimal, in lower case, with so many digits
    ∷ (hex 4 0x0123, ascii "0123")
    ∷ (hex 4 0x89AB, ascii "89ab")
    ∷ (hex 4 0xCDEF, ascii "cdef")
    ∷ (hex word_digits 0x4567, ascii "0000000000004567")
    ∷ (hex word_digits 0xFEDCBA9876543210, ascii "fedcba9876543210")
    -- the lowest ones
    ∷ (hex 4 0x12345, ascii "2345")
    -- the codes themselves, and the end of a line
    ∷ (ascii "09 az\n", 0x30 ∷ 0x39 ∷ 0x20 ∷ 0x61 ∷ 0x7A ∷ 0x0A ∷ [])
    ∷ []

abbrev is_space : ℕ → Bool
is_space b = eqb b 0x20

abbrev pub parted : List (List Text × List Text)
parted =
    (parts is_space [], [] ∷ [])
    ∷ (parts is_space (ascii "ab c"), ascii "ab" ∷ ascii "c" ∷ [])
    ∷ (parts is_space (ascii " ab  c"), [] ∷ ascii "ab" ∷ [] ∷ ascii "c" ∷ [])
    -- the words are the parts that are not empty
    ∷ (words is_space (ascii " ab  c "), ascii "ab" ∷ ascii "c" ∷ [])
    ∷ (words is_space (ascii "  "), [])
    -- what stands before the first space
    ∷ (before is_space (ascii "ab c d") ∷ before is_space (ascii "ab") ∷ before is_space (ascii " ab") ∷ [], ascii "ab" ∷ ascii "ab" ∷ [] ∷ [])
    ∷ []
