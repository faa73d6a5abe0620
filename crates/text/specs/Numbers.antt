-- Numbers as text, in hexadecimal and in decimal. Assumes nothing.
use Rattle.std.specs.Prelude.{cond, List, [], ◌∷◌, ℕ, zero, suc, ◌+◌, ◌/◌, ◌%◌, ◌^◌, ltb}

-- a digit, in lower case past 9
abbrev pub digit : ℕ → ℕ
digit d = cond (ltb d 10) (0x30 + d) (0x57 + d)

-- how many hexadecimal digits a word of 64 bits has
abbrev pub word_digits : ℕ
word_digits = 16

-- the c lowest hexadecimal digits of x, the highest first
unfoldable pub hex : (c x : ℕ) → List ℕ
hex zero x = []
hex (suc c) x = digit (x / 16 ^ c % 16) ∷ hex c x

-- a number below 10000 in decimal, with no leading zeros
unfoldable pub decimal : ℕ → List ℕ
decimal x =
    cond (ltb x 10) (digit x ∷ [])
    (cond (ltb x 100) (digit (x / 10) ∷ digit (x % 10) ∷ [])
    (cond (ltb x 1000) (digit (x / 100) ∷ digit (x / 10 % 10) ∷ digit (x % 10) ∷ [])
    (digit (x / 1000) ∷ digit (x / 100 % 10) ∷ digit (x / 10 % 10) ∷ digit (x % 10) ∷ [])))
