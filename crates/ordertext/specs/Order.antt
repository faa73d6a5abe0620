-- An order's text as pairs of a gate and a table. Assumes nothing.
use Rattle.std.specs.Prelude.{Bool, true, false, not, cond, ◌&&◌, ◌||◌, List, [], ◌∷◌, ◌++◌, ℕ, zero, suc, ◌+◌, ◌-◌, ◌*◌, ◌/◌, leb, ltb, eqb, length, get_or, take, drop}
use Rattle.network.specs.Net.{Replacement}
use Rattle.text.specs.Words.{Text, between, is_printing, words, all}

-- ## Bounds

-- the bytes of an order's text
abbrev pub most_order_bytes : ℕ
most_order_bytes = 1024

-- its pairs: each takes 4 bytes with the gap before it
abbrev pub most_pairs : ℕ
most_pairs = most_order_bytes / 4

-- ## Bytes

-- what parts words: a space, a tab, a carriage return, a newline
abbrev pub is_gap : ℕ → Bool
is_gap b = eqb b 0x20 || (eqb b 0x09 || (eqb b 0x0D || eqb b 0x0A))

-- a byte that parts words, or one that does not, as asked
abbrev pub gap_is : (wanted : Bool) → ℕ → Bool
gap_is true b = is_gap b
gap_is false b = not (is_gap b)

abbrev pub is_equals : ℕ → Bool
is_equals b = eqb b 0x3D

-- ## Numbers

-- the value of a hexadecimal digit in either case; 16 of any other byte
unfoldable pub digit_of : ℕ → ℕ
digit_of b =
    cond (between 0x30 0x39 b) (b - 0x30)
    (cond (between 0x41 0x46 b) (b - 0x37)
    (cond (between 0x61 0x66 b) (b - 0x57) 16))

-- every byte is a digit below the base
abbrev pub digits : (base : ℕ) → Text → Bool
digits base w = all (λ b. ltb (digit_of b) base) w

-- 1 to most digits below the base
unfoldable pub is_numeral : (base most : ℕ) → Text → Bool
is_numeral base most w = leb 1 (length w) && (leb (length w) most && digits base w)

-- the number whose digits are v's and then these
abbrev pub onward : (base v : ℕ) → Text → ℕ
onward base v [] = v
onward base v (b ∷ bs) = onward base (v * base + digit_of b) bs

-- the number that has these digits
unfoldable pub numeral : (base : ℕ) → Text → ℕ
numeral base w = onward base 0 w

-- ## A pair: GATE=TABLE

-- the gate as typed, and the table
pub record Pair : Type 0 where
  pub gate : Text
  pub table : ℕ

-- how many bytes stand before the last = among the first n bytes; 0 where there is none, and no pair then either
abbrev pub before_last : Text → (n : ℕ) → ℕ
before_last w zero = 0
before_last w (suc i) = cond (is_equals (get_or w i 0)) i (before_last w i)

-- the length of the gate's name
unfoldable pub name_length : Text → ℕ
name_length w = before_last w (length w)

-- what stands behind the last =
abbrev pub table_text : Text → Text
table_text w = drop (name_length w + 1) w

-- printing bytes, of which one or more stand before the last = and 1 to 16 hexadecimal digits behind it
unfoldable pub is_pair : Text → Bool
is_pair w = all is_printing w && (leb 1 (name_length w) && is_numeral 16 16 (table_text w))

unfoldable pub pair_of : Text → Pair
pair_of w = record { gate = take (name_length w) w; table = numeral 16 (table_text w) }

-- the number that no network has as a signal
abbrev pub no_signal : ℕ
no_signal = 10000

-- 1 to 4 decimal digits are a signal's number; any other name is no signal's
unfoldable pub signal_named : Text → ℕ
signal_named name = cond (is_numeral 10 4 name) (numeral 10 name) no_signal

abbrev pub signal_of : Pair → ℕ
signal_of p = signal_named p.gate

abbrev pub replacement_of : Pair → Replacement
replacement_of p = record { signal = signal_of p; table = p.table }

-- ## The order: its words are pairs

-- one pair or more; else the first word that is none; or no word at all
pub data Parsed : Type 0 where
  Pairs : Pair → List Pair → Parsed
  NoPair : Text → Parsed
  Blank : Parsed

abbrev pub ordered : List Pair → Parsed
ordered [] = Blank
ordered (p ∷ ps) = Pairs p ps

-- the pairs ps and then these words
abbrev pub parse : List Pair → List Text → Parsed
parse ps [] = ordered ps
parse ps (w ∷ ws) = cond (is_pair w) (parse (ps ++ pair_of w ∷ []) ws) (NoPair w)

unfoldable pub order_of : Text → Parsed
order_of text = parse [] (words is_gap text)

-- the pairs of an order; of any other text none
abbrev pub pairs_of : Parsed → List Pair
pairs_of (Pairs p ps) = p ∷ ps
pairs_of (NoPair w) = []
pairs_of Blank = []
