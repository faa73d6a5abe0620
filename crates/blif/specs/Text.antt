-- A text as lines of words. Assumes nothing.
use Rattle.std.specs.Prelude.{Bool, ◌||◌, List, [], ◌∷◌, ◌++◌, map, ℕ, eqb}
use Rattle.text.specs.Words.{Text, parts, before, non_empty, words}

-- ## Bytes

abbrev pub is_newline : ℕ → Bool
is_newline b = eqb b 0x0A

abbrev pub is_hash : ℕ → Bool
is_hash b = eqb b 0x23

-- what parts words: a space, a tab, a carriage return
abbrev pub is_blank : ℕ → Bool
is_blank b = eqb b 0x20 || (eqb b 0x09 || eqb b 0x0D)

-- ## Lines and words

-- the words of a line without comment
abbrev pub fields : Text → List Text
fields line = words is_blank line

-- the words of a line, its comment aside
unfoldable pub statement : Text → List Text
statement line = fields (before is_hash line)

-- the lines of a text that have words
unfoldable pub statements : Text → List (List Text)
statements bytes = non_empty (map statement (parts is_newline bytes))

-- ## And back: single-spaced, each line ended by a newline

abbrev pub spaced : List Text → Text
spaced [] = []
spaced (w ∷ []) = w
spaced (w ∷ v ∷ ws) = w ++ 0x20 ∷ spaced (v ∷ ws)

abbrev pub text : List (List Text) → Text
text [] = []
text (line ∷ rest) = spaced line ++ 0x0A ∷ text rest
