-- Names as places in a text. Assumes nothing.
use Rattle.std.specs.Prelude.{cond, List, map, ℕ, ◌≤◌, length, Option, Some, None}
use Rattle.std.specs.List.{All}
use Rattle.text.specs.Words.{Text}
use Rattle.blif.specs.Read.{place_in, known}
use Rattle.bliftext.specs.declared.Span.{Span}
use Rattle.bliftext.specs.Spans.{span_of}

-- the names that stand at these places
abbrev pub names_at : Text → List Span → List Text
names_at text names = map (span_of text) names

-- the span lies in the text
pub record Lies (text : Text) (w : Span) : Type 0 where
  pub upto : w.start ≤ w.end
  pub inside : w.end ≤ length text

abbrev pub Inside : Text → List Span → Type 0
Inside text names = All (Lies text) names

-- where a name stands among names
abbrev pub place_among : List Text → Text → Option ℕ
place_among names w = cond (known names w) (Some (place_in names w)) None
