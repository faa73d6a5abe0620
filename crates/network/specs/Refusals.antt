-- 01's number and named values for each refusal, 'Who can cause a refusal', and answers in these numbers. Assumes nothing.
use Rattle.std.specs.Prelude.{◌≡◌, List, [], ◌∷◌, ℕ, ◌≤◌, take, Result, Ok, Err}
use Rattle.network.specs.declared.Refusal.{Refusal}
use Rattle.network.specs.declared.Refusal.TheVariants.{Truncated, UnexpectedMark, OutOfBounds, FaninNotEarlier, FaninRepeated, BitPastEnd, NotASignal, TrailingBytes, BufferTooShort, InvalidState, NotAGate, TableTooWide, ClosedEntry, Harm, ListsUnequal, GateRepeated, OutsideSubset, BadName}
use Rattle.network.specs.declared.Named.{Named}

-- a refusal's number, and the values that it names
abbrev pub told : Refusal → ℕ × List ℕ
-- 1 bytes run out where a record is due or inside one
told Truncated = (1, [])
-- 2 the mark is not due there
told UnexpectedMark = (2, [])
-- 3 n, m, p or k outside its bounds
told OutOfBounds = (3, [])
-- 4 a fan-in that is not an earlier signal
told FaninNotEarlier = (4, [])
-- 5 a fan-in already listed in this gate
told FaninRepeated = (5, [])
-- 6 a bit set past 2^k or 2^n
told BitPastEnd = (6, [])
-- 7 an output signal not below n+m
told NotASignal = (7, [])
-- 8 bytes after the last record
told TrailingBytes = (8, [])
-- 9 a buffer shorter than the words or bytes needed
told BufferTooShort = (9, [])
-- 10 a hand-made state that would fail 3 to 7
told InvalidState = (10, [])
-- 11 no gate has that signal number
told NotAGate = (11, [])
-- 12 the table has a bit past 2^k
told TableTooWide = (12, [])
-- 13 exchange: alters a closed entry of the loaded table; names the smallest
told (ClosedEntry t) = (13, t ∷ [])
-- 14 verdict: harm; names pattern and output
told (Harm x i) = (14, x ∷ i ∷ [])
-- 15 verdict: lists of unequal length
told ListsUnequal = (15, [])
-- 16 verdict: a gate named a second time
told GateRepeated = (16, [])
-- 17 BLIF: a line outside the subset
told OutsideSubset = (17, [])
-- 18 BLIF: a name unknown where used, defined twice or listed twice
told BadName = (18, [])

abbrev pub number_of : Refusal → ℕ
number_of r = (told r).0

abbrev pub values_of : Refusal → List ℕ
values_of r = (told r).1

-- t has the number of the refusal r, and the values that r names from the start of its own
pub record Tells (r : Refusal) (t : Named) : Type 0 where
  pub number : t.0 ≡ number_of r
  pub values : take t.1 t.2 ≡ values_of r
  pub small : t.0 ≤ 18
  pub few : t.1 ≤ 2

-- ## An answer in 01's numbers: nothing where the call is not refused, else the refusal's number and its values

abbrev pub said : {T : Type 0} → Result T Refusal → List ℕ
said (Ok x) = []
said (Err r) = number_of r ∷ values_of r
