-- Parts and words taken off the front of what is left, as a cursor does. Assumes nothing.
use mathlib.Core.Path.{◌≡◌, refl, sym, ap, ◌∙◌}
use mathlib.Core.Bool.{Bool, true, false, cond}
use mathlib.Core.List.{List, [], ◌∷◌, map}
use Prim.Native.Nat.{ℕ, suc, ◌≤◌}
use native.Mathlib.Omega.{arith}
use lib.ListN.{length, take, drop}
use Rattle.text.specs.Words.{Text, part_with, parts, before, keep, non_empty, words}

-- what follows the first cut
abbrev pub behind : (ℕ → Bool) → Text → Text
behind cut xs = drop (suc (length (before cut xs))) xs

-- a list of parts starts with what stands before the first cut
first_of : (c : Bool) (b : ℕ) (bs : Text) (ps : List Text) → ps ≡ bs ∷ drop 1 ps → part_with c b ps ≡ cond c [] (b ∷ bs) ∷ drop 1 (part_with c b ps)
first_of true b bs ps e = refl
first_of false b bs ps e = rw e

pub parts_first : (cut : ℕ → Bool) (xs : Text) → parts cut xs ≡ before cut xs ∷ drop 1 (parts cut xs)
parts_first cut [] = refl
parts_first cut (b ∷ bs) = first_of (cut b) b (before cut bs) (parts cut bs) (parts_first cut bs)

-- ## The parts, each read by f, that are not empty then

module _ {A : Type 0} (cut : ℕ → Bool) (f : Text → List A) (empty : f [] ≡ []) where
  abbrev pieces : Text → List (List A)
  pieces xs = non_empty (map f (parts cut xs))

  rest_of : (c : Bool) (b : ℕ) (bs : Text) → non_empty (map f (drop 1 (parts cut bs))) ≡ pieces (behind cut bs)
      → non_empty (map f (drop 1 (part_with c b (parts cut bs)))) ≡ pieces (drop (length (cond c [] (b ∷ before cut bs))) bs)
  rest_of true b bs e = refl
  rest_of false b bs e = rw (parts_first cut bs) e

  rest-is : (xs : Text) → non_empty (map f (drop 1 (parts cut xs))) ≡ pieces (behind cut xs)
  rest-is [] = rw empty
  rest-is (b ∷ bs) = rest_of (cut b) b bs (rest-is bs)

  -- the first part, and the rest
  pub pieces_step : (xs : Text) → non_empty (map f (parts cut xs)) ≡ keep (f (before cut xs)) (non_empty (map f (parts cut (behind cut xs))))
  pieces_step xs = ap (λ (ps : List Text). non_empty (map f ps)) (parts_first cut xs) ∙ ap (keep (f (before cut xs))) (rest-is xs)

-- ## Words

map-id : {A : Type 0} (l : List A) → map (λ a. a) l ≡ l
map-id [] = refl
map-id (a ∷ l) = ap (λ m. a ∷ m) (map-id l)

module _ (cut : ℕ → Bool) where
  pub words_step : (xs : Text) → words cut xs ≡ keep (before cut xs) (words cut (behind cut xs))
  unfolding words
  words_step xs =
      ap non_empty (sym (map-id (parts cut xs)))
      ∙ pieces_step cut (λ w. w) refl xs
      ∙ ap (λ (ps : List Text). keep (before cut xs) (non_empty ps)) (map-id (parts cut (behind cut xs)))

  -- a cut in front does not matter
  pub words-cut : (b : ℕ) (bs : Text) → cut b ≡ true → words cut (b ∷ bs) ≡ words cut bs
  unfolding words
  words-cut b bs e = rw e

  words-from : (xs : Text) → words cut (behind cut xs) ≡ words cut (drop (length (before cut xs)) xs)
  words-from [] = refl
  words-from (b ∷ bs) = go (cut b) refl (words-from bs)
    where
      go : (c : Bool) → cut b ≡ c → words cut (behind cut bs) ≡ words cut (drop (length (before cut bs)) bs)
          → words cut (drop (length (cond c [] (b ∷ before cut bs))) bs) ≡ words cut (drop (length (cond c [] (b ∷ before cut bs))) (b ∷ bs))
      go true e h = sym (words-cut b bs e)
      go false e h = h

  -- at a word: it, and the words behind it
  pub words-word : (b : ℕ) (bs : Text) → cut b ≡ false
      → words cut (b ∷ bs) ≡ before cut (b ∷ bs) ∷ words cut (drop (length (before cut (b ∷ bs))) (b ∷ bs))
  words-word b bs e = words_step (b ∷ bs) ∙ rw e (ap (λ (l : List Text). (b ∷ before cut bs) ∷ l) (words-from bs))

  -- what stands before the first cut is the front of the list
  pub take-before : (xs : Text) → (take (length (before cut xs)) xs ≡ before cut xs) × (length (before cut xs) ≤ length xs)
  take-before [] = (refl, omega arith)
  take-before (b ∷ bs) = go (cut b) (take-before bs)
    where
      go : (c : Bool) → (take (length (before cut bs)) bs ≡ before cut bs) × (length (before cut bs) ≤ length bs)
          → (take (length (cond c [] (b ∷ before cut bs))) (b ∷ bs) ≡ cond c [] (b ∷ before cut bs)) × (length (cond c [] (b ∷ before cut bs)) ≤ suc (length bs))
      go true h = (refl, omega arith)
      go false h = (ap (λ (l : Text). b ∷ l) h.0, omega (arith, h.1))
