-- A text, parted at the bytes of a kind. Assumes nothing.
use Rattle.std.specs.Prelude.{Bool, true, false, cond, ◌&&◌, List, [], ◌∷◌, ℕ, leb}

-- the bytes of a text or of a part of it
abbrev pub Text : Type 0
Text = List ℕ

abbrev pub between : (least most : ℕ) → ℕ → Bool
between least most b = leb least b && leb b most

-- what words are made of
abbrev pub is_printing : ℕ → Bool
is_printing b = between 0x21 0x7E b

-- the parts of b ∷ bs from those of bs: b cuts, or goes to the front of the first
abbrev pub part_with : (cuts : Bool) → ℕ → List Text → List Text
part_with true b ps = [] ∷ ps
part_with false b [] = (b ∷ []) ∷ []
part_with false b (p ∷ ps) = (b ∷ p) ∷ ps

-- the parts between the bytes at which the list is cut: c cuts give c + 1 parts
abbrev pub parts : (ℕ → Bool) → Text → List Text
parts cut [] = [] ∷ []
parts cut (b ∷ bs) = part_with (cut b) b (parts cut bs)

-- what stands before the first byte at which the list is cut
abbrev pub before : (ℕ → Bool) → Text → Text
before cut [] = []
before cut (b ∷ bs) = cond (cut b) [] (b ∷ before cut bs)

-- the list with x in front, where x is not empty
abbrev pub keep : {A : Type 0} → List A → List (List A) → List (List A)
keep [] xs = xs
keep (a ∷ l) xs = (a ∷ l) ∷ xs

abbrev pub non_empty : {A : Type 0} → List (List A) → List (List A)
non_empty [] = []
non_empty (x ∷ xs) = keep x (non_empty xs)

-- the words of a text: its parts that are not empty
unfoldable pub words : (ℕ → Bool) → Text → List Text
words cut text = non_empty (parts cut text)

-- every element passes the test
abbrev pub all : {A : Type 0} → (A → Bool) → List A → Bool
all p [] = true
all p (x ∷ xs) = p x && all p xs
