-- Refusals 1 to 7 of 01 as tests of bytes and numbers; 3 to 7 serve a file's records and, for refusal 10, a session's fields.
-- Assumes nothing.
use Rattle.std.specs.Prelude.{Bool, true, false, not, cond, ◌&&◌, ◌||◌, List, [], ◌∷◌, map, ℕ, ◌+◌, ◌*◌, ◌-◌, ◌^◌, leb, ltb, eqb, length, get_or, take}
use Rattle.bits.specs.Range.{up_from}
use Rattle.network.specs.declared.Refusal.{Refusal}
use Rattle.network.specs.declared.Refusal.TheVariants.{Truncated, UnexpectedMark, OutOfBounds, FaninNotEarlier, FaninRepeated, BitPastEnd, NotASignal}
use Rattle.network.specs.Answer.{Answer}
use Rattle.network.specs.Answer.{Done}
use Rattle.std.specs.Prelude.{Ok, Err}
use Rattle.network.specs.Bounds.{excluded_words}

-- ## A list of tests

abbrev pub refuse_if : Bool → Refusal → Answer
refuse_if true r = Err r
refuse_if false r = Done

-- go on with b where the answer is Done
abbrev pub or_else : Answer → Answer → Answer
or_else (Ok _) b = b
or_else (Err r) b = Err r

-- the first refusal, in the list's order; Done where there is none
abbrev pub first : List Answer → Answer
first [] = Done
first (a ∷ rest) = or_else a (first rest)

-- nothing is refused
abbrev pub is_done : Answer → Bool
is_done (Ok _) = true
is_done (Err r) = false

-- ## 1 and 2

-- 1: fewer than `size` bytes are left
abbrev pub length_test : ℕ → List ℕ → Answer
length_test size rest = refuse_if (ltb (length rest) size) Truncated

-- the number of the two-byte mark
abbrev pub mark : List ℕ → ℕ
mark rest = get_or rest 0 0 * 256 + get_or rest 1 0

-- 1 where under two bytes are left, else 2 where another mark is due
unfoldable pub mark_test : ℕ → List ℕ → Answer
mark_test due rest = cond (ltb (length rest) 2) (Err Truncated) (refuse_if (not (eqb (mark rest) due)) UnexpectedMark)

-- ## 3 to 7

-- 3: a number outside least .. most
abbrev pub range_test : ℕ → ℕ → ℕ → Answer
range_test least most x = refuse_if (not (leb least x && leb x most)) OutOfBounds

-- 3: a count outside 1 .. most
abbrev pub count_test : ℕ → ℕ → Answer
count_test most x = range_test 1 most x

abbrev pub member : ℕ → List ℕ → Bool
member x [] = false
member x (y ∷ ys) = eqb y x || member x ys

-- 4: fan-in j is not a signal below limit; 5: it is already listed
unfoldable pub fanin_test : ℕ → List ℕ → ℕ → Answer
fanin_test limit fs j =
    first (refuse_if (not (ltb (get_or fs j 0) limit)) FaninNotEarlier ∷ refuse_if (member (get_or fs j 0) (take j fs)) FaninRepeated ∷ [])

-- each fan-in in turn, 4 before 5
unfoldable pub fanins_test : ℕ → List ℕ → Answer
fanins_test limit fs = first (map (fanin_test limit fs) (up_from 0 (length fs)))

-- 6: a bit set at or past `bits`
abbrev pub width_test : ℕ → ℕ → Answer
width_test bits x = refuse_if (not (ltb x (2 ^ bits))) BitPastEnd

-- 6, of the excluded set: words of 64 patterns, of which 2^n count
unfoldable pub excluded_test : ℕ → List ℕ → Answer
excluded_test n words = first (map (λ w. width_test (2 ^ n - 64 * w) (get_or words w 0)) (up_from 0 excluded_words))

-- 7: an output that is no signal
abbrev pub output_test : ℕ → ℕ → Answer
output_test signals x = refuse_if (not (ltb x signals)) NotASignal
