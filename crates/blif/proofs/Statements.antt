-- A line taken off the front of a text, as a cursor does. Assumes nothing.
use mathlib.Core.Path.{◌≡◌, refl}
use mathlib.Core.List.{[]}
use Rattle.text.specs.Words.{Text, before, keep, words}
use Rattle.text.proofs.Parts.{behind, pieces_step}
use Rattle.blif.specs.Text.{is_newline, statement, statements}

-- the statements of a text: those of its first line, and the rest
pub statements-step : (xs : Text) → statements xs ≡ keep (statement (before is_newline xs)) (statements (behind is_newline xs))
unfolding statements statement words
statements-step xs = pieces_step is_newline statement refl xs

pub statements-none : statements [] ≡ []
unfolding statements statement words
statements-none = refl
