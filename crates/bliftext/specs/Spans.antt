-- A word by its places in a text. Assumes nothing.
use Rattle.std.specs.Prelude.{◌≡◌, cond, List, [], ◌∷◌, ℕ, ◌-◌, ◌≤◌, ltb, length, take, drop}
use Rattle.text.specs.Words.{Text}
use Rattle.blif.specs.Text.{fields}
use Rattle.bliftext.specs.declared.Span.{Span}

-- what stands there
abbrev pub span_of : Text → Span → Text
span_of s w = take (w.end - w.start) (drop w.start s)

-- the word and those behind it; none where the span is empty
abbrev pub words_from : Text → Span → List Text
words_from s w = cond (ltb w.start w.end) (span_of s w ∷ fields (drop w.end s)) []

-- the span is the first of the words ws, which are the last ones of s and stand behind `at`
pub record WordAt (s : Text) (at : ℕ) (ws : List Text) (w : Span) : Type 0 where
  pub reads : ws ≡ words_from s w
  pub behind : fields (drop w.end s) ≡ drop 1 ws
  pub from : at ≤ w.start
  pub upto : w.start ≤ w.end
  pub inside : w.end ≤ length s
