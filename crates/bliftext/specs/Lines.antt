-- Lines by their places in a text, and what a search looks for. Assumes nothing.
use Rattle.std.specs.Prelude.{◌≡◌, Bool, not, ◌||◌, List, [], ◌∷◌, ℕ, ◌≤◌, ◌<◌, take, drop, length, Option, Some, None}
use Rattle.text.specs.Words.{Text, is_printing}
use Rattle.blif.specs.Text.{is_blank, fields, statements}
use Rattle.bliftext.specs.declared.Line.{Line}

-- what is no blank
abbrev pub is_filled : ℕ → Bool
is_filled b = not (is_blank b)

-- what stands in no line of the subset
abbrev pub is_foreign : ℕ → Bool
is_foreign b = not (is_printing b || is_blank b)

-- what a function may answer at a byte is the test's answer
abbrev pub Computes : (ℕ → Bool → Type 0) → (ℕ → Bool) → Type 0
Computes answers cut = (b : ℕ) → b < 256 → (r : Bool) → answers b r → r ≡ cut b

-- the words of a line that has been found
abbrev pub words_at : Text → Line → List Text
words_at text l = fields (drop l.at (take l.end text))

pub record LineAt (text : Text) (i : ℕ) (l : Line) : Type 0 where
  pub some : l.at < l.end → statements (drop i text) ≡ words_at text l ∷ statements (drop l.next text)
  pub none : l.end ≤ l.at → statements (drop i text) ≡ statements (drop l.next text)
  pub from : i ≤ l.at
  pub upto : l.at ≤ l.end
  pub within : l.end ≤ l.next
  pub inside : l.next ≤ length text
  pub onward : i < l.next

pub record LineOf (text : Text) (at : ℕ) (l : Line) : Type 0 where
  pub reads : statements (drop at text) ≡ words_at text l ∷ statements (drop l.next text)
  pub some : l.at < l.end
  pub from : at ≤ l.at
  pub within : l.end ≤ l.next
  pub inside : l.next ≤ length text

abbrev pub NextOf : Text → ℕ → Option Line → Type 0
NextOf text at (Some l) = LineOf text at l
NextOf text at None = statements (drop at text) ≡ []
