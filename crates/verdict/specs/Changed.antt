-- Where the words of two networks' signals tell a changed output, and the search over words of patterns. Assumes nothing.
use Rattle.std.specs.Prelude.{◌≡◌, Bool, not, ◌&&◌, List, ℕ, zero, suc, ◌-◌, ◌*◌, ◌/◌, ◌%◌, ◌<◌, eqb, get_or}
use Rattle.std.specs.Int.Bits.{bit_and, bit_xor}
use Rattle.bits.specs.Bounds.{most_inputs}
use Rattle.bits.specs.Range.{any, up_from}
use Rattle.bits.specs.Bit.{bit}
use Rattle.network.specs.Answer.{Answer, Done}
use Rattle.network.specs.Net.{weight, by_weight}
use Rattle.network.specs.Tests.{or_else}
use Rattle.network.specs.Calls.{first_harm}
use Rattle.simulate.specs.Simulated.{words_at}

-- ## In one word

-- the places at which output i has another value in the words xs than in ys
abbrev pub changed_word : (outs xs ys : List ℕ) → ℕ → ℕ
changed_word outs xs ys i = bit_xor (get_or xs (get_or outs i 0) 0) (get_or ys (get_or outs i 0) 0)

-- output i changes at the pattern x of word w, which is one of keep's
unfoldable pub changed_at : (outs xs ys : List ℕ) (keep w : ℕ) → ℕ → ℕ → Bool
changed_at outs xs ys keep w x i = bit (bit_and keep (changed_word outs xs ys i)) (x - w * 64)

-- the first harm at the 64 patterns of word w
unfoldable pub word_harm : (ℕ → ℕ → Bool) → (p w : ℕ) → Answer
word_harm h p w = first_harm h p (up_from (w * 64) 64)

-- ## In rows: the pattern x stands at place x % 64 of word x / 64

-- the words hold the pattern x
abbrev pub holds : List ℕ → ℕ → Bool
holds words x = bit (get_or words (x / 64) 0) (x % 64)

-- output i changes at the pattern x
abbrev pub changed_in : (outs xs ys : List ℕ) → ℕ → ℕ → Bool
changed_in outs xs ys x i = bit (changed_word outs (words_at xs (x / 64)) (words_at ys (x / 64)) i) (x % 64)

-- output i changes at the pattern x, which is not excluded
unfoldable pub judged_at : (ex outs xs ys : List ℕ) → ℕ → ℕ → Bool
judged_at ex outs xs ys x i = not (holds ex x) && changed_in outs xs ys x i

-- output i changes at the pattern x, which the words harmed hold
unfoldable pub harmed_at : (harmed outs xs ys : List ℕ) → ℕ → ℕ → Bool
harmed_at harmed outs xs ys x i = holds harmed x && changed_in outs xs ys x i

-- the first W of the words harmed hold the live places that are not excluded and at which some output changes
abbrev pub Harmed : (p : ℕ) (ex outs xs ys : List ℕ) (live W : ℕ) → List ℕ → Type 0
Harmed p ex outs xs ys live W harmed =
    (w b : ℕ) → w < W → b < 64
    → bit (get_or harmed w 0) b ≡ (bit live b && not (bit (get_or ex w 0) b)) && any p (λ i. bit (changed_word outs (words_at xs w) (words_at ys w) i) b)

-- ## By weight

-- c lines are on in the pattern x
unfoldable pub of_weight : (c x : ℕ) → Bool
of_weight c x = eqb (weight most_inputs x) c

-- the test h at the patterns of weight c
abbrev pub at_weight : (c : ℕ) → (ℕ → ℕ → Bool) → ℕ → ℕ → Bool
at_weight c h x i = of_weight c x && h x i

-- the first harm at the patterns of weight c of W words
unfoldable pub weight_harm : (ℕ → ℕ → Bool) → (p W c : ℕ) → Answer
weight_harm h p W c = first_harm (at_weight c h) p (up_from 0 (W * 64))

-- the first harm at those of less weight than c, the lightest first
abbrev pub lightest_harm : (ℕ → ℕ → Bool) → (p W c : ℕ) → Answer
lightest_harm h p W zero = Done
lightest_harm h p W (suc c) = or_else (lightest_harm h p W c) (weight_harm h p W c)

-- the first harm that the rows tell, in the order of a verdict
unfoldable pub rows_harm : (n p : ℕ) (ex outs xs ys : List ℕ) → Answer
rows_harm n p ex outs xs ys = first_harm (judged_at ex outs xs ys) p (by_weight n (suc n))
