-- What the code leaves of an order's text: numbers in arrays, and names by their places in the text. Assumes nothing.
use Rattle.std.specs.Prelude.{◌≡◌, List, map, ℕ, ◌-◌, ◌≤◌, ◌<◌, length, get_or, take, drop}
use Rattle.bits.specs.Range.{places}
use Rattle.text.specs.Words.{Text}
use Rattle.ordertext.specs.declared.Case.{Case}
use Rattle.ordertext.specs.declared.Case.TheVariants as case
use Rattle.ordertext.specs.declared.Order.{Order}
use Rattle.ordertext.specs.declared.Split.{Split}
use Rattle.ordertext.specs.Order.{most_pairs, Pair, Parsed, NoPair, Blank, ordered, name_length, pair_of, signal_of, order_of}

-- the bytes from place a on, before place e
abbrev pub part : Text → (a e : ℕ) → Text
part text a e = take (e - a) (drop a text)

-- a pair by its numbers: signal, table, and how long the gate's name is
unfoldable pub split_of : Text → Split
split_of w = record { signal = signal_of (pair_of w); table = (pair_of w).table; size = name_length w }

-- pair i: its gate's name stands in the text, its table in the array
abbrev pub pair_at : Text → (tables starts ends : List ℕ) → ℕ → Pair
pair_at text tables starts ends i = record { gate = part text (get_or starts i 0) (get_or ends i 0); table = get_or tables i 0 }

-- the first n pairs
abbrev pub pairs_at : Text → (tables starts ends : List ℕ) → ℕ → List Pair
pairs_at text tables starts ends n = places n (pair_at text tables starts ends)

abbrev pub pair_in : Text → Order → ℕ → Pair
pair_in text o i = pair_at text o.tables o.starts o.ends i

abbrev pub pairs_in : Text → Order → ℕ → List Pair
pairs_in text o n = pairs_at text o.tables o.starts o.ends n

-- every name stands inside the text
pub record Inside (text : Text) (starts ends : List ℕ) (n : ℕ) : Type 0 where
  pub forward : (i : ℕ) → i < n → get_or starts i 0 ≤ get_or ends i 0
  pub within : (i : ℕ) → i < n → get_or ends i 0 ≤ length text

abbrev pub count_in : Case → ℕ
count_in (case.Pairs n) = n
count_in (case.NoPair a e) = 0
count_in case.Blank = 0

-- the pairs that were read
abbrev pub pairs_given : Text → Order → List Pair
pairs_given text o = pairs_in text o (count_in o.case)

abbrev pub parsed_in : Text → Order → Case → Parsed
parsed_in text o (case.Pairs n) = ordered (pairs_in text o n)
parsed_in text o (case.NoPair a e) = NoPair (part text a e)
parsed_in text o case.Blank = Blank

abbrev pub CaseFits : Text → Case → Type 0
CaseFits text (case.Pairs n) = (1 ≤ n) × (n ≤ most_pairs)
CaseFits text (case.NoPair a e) = (a ≤ e) × (e ≤ length text)
CaseFits text case.Blank = Unit

-- o is the order of the text
pub record Reads (text : Text) (o : Order) : Type 0 where
  pub parsed : parsed_in text o o.case ≡ order_of text
  pub signals : take (count_in o.case) o.gates ≡ map signal_of (pairs_in text o (count_in o.case))
  pub tables : take (count_in o.case) o.tables ≡ map (λ p. p.table) (pairs_in text o (count_in o.case))
  pub inside : Inside text o.starts o.ends (count_in o.case)
  pub fits : CaseFits text o.case
