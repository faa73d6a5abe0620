-- The names in an order's text are shorter than the text. Assumes nothing.
use mathlib.Core.Path.{◌≡◌, ap, ◌∙◌, subst}
use mathlib.Core.Bool.{Bool, true, false}
use mathlib.Core.List.{List, [], ◌∷◌, ◌++◌}
use Prim.Native.Nat.{ℕ, suc, ◌+◌, ◌≤◌}
use native.Mathlib.Omega.{arith}
use lib.ListN.{length}
use lib.Seq.{length-take-le}
use Rattle.bits.proofs.Ranges.{by_cases}
use Rattle.text.specs.Words.{Text, part_with, parts, non_empty, words}
use Rattle.ordertext.specs.Order.{Pair, Pairs, NoPair, is_gap, name_length, is_pair, pair_of, ordered, parse, order_of}
use Rattle.ordertext.proofs.Turns.{pair-long}

-- each word has at most m bytes
abbrev Within : ℕ → List Text → Type 0
Within m [] = Unit {0}
Within m (w ∷ ws) = (length w ≤ m) × Within m ws

more : (m : ℕ) (ws : List Text) → Within m ws → Within (suc m) ws
more m [] h = tt
more m (w ∷ ws) h = (omega (arith, h.0), more m ws h.1)

part-within : (c : Bool) (b m : ℕ) (ps : List Text) → Within m ps → Within (suc m) (part_with c b ps)
part-within true b m ps h = (omega arith, more m ps h)
part-within false b m [] h = (omega arith, tt)
part-within false b m (p ∷ ps) h = (omega (arith, h.0), more m ps h.1)

parts_within : (cut : ℕ → Bool) (xs : Text) → Within (length xs) (parts cut xs)
parts_within cut [] = (omega arith, tt)
parts_within cut (b ∷ bs) = part-within (cut b) b (length bs) (parts cut bs) (parts_within cut bs)

filled_within : (m : ℕ) (ws : List Text) → Within m ws → Within m (non_empty ws)
filled_within m [] h = tt
filled_within m ([] ∷ ws) h = filled_within m ws h.1
filled_within m ((b ∷ w) ∷ ws) h = (h.0, filled_within m ws h.1)

-- each name has = and a digit behind it
abbrev pub Short : ℕ → List Pair → Type 0
Short m [] = Unit {0}
Short m (p ∷ ps) = (length p.gate + 2 ≤ m) × Short m ps

short-more : (m : ℕ) (ps : List Pair) (p : Pair) → Short m ps → length p.gate + 2 ≤ m → Short m (ps ++ p ∷ [])
short-more m [] p h k = (k, tt)
short-more m (q ∷ ps) p h k = (h.0, short-more m ps p h.1 k)

pair-short : (m : ℕ) (w : Text) → is_pair w ≡ true → length w ≤ m → length (pair_of w).gate + 2 ≤ m
unfolding pair_of
pair-short m w h l =
    let k = pair-long w h in
    let e = length-take-le (name_length w) w (omega arith) in
    omega arith

ordered-short : (m : ℕ) (ps : List Pair) (p : Pair) (qs : List Pair) → ordered ps ≡ Pairs p qs → Short m ps → Short m (p ∷ qs)
ordered-short m [] p qs e h = let z : ◌≡◌ {A = ℕ} 0 1 = cc in absurd (omega arith)
ordered-short m (r ∷ rs) p qs e h =
    let a : r ≡ p = cc in
    let b : rs ≡ qs = cc in
    subst (Short m) (ap (λ (x : Pair). x ∷ rs) a ∙ ap (λ (l : List Pair). p ∷ l) b) h

parse-short : (m : ℕ) (ps : List Pair) (ws : List Text) (p : Pair) (qs : List Pair) → parse ps ws ≡ Pairs p qs → Short m ps → Within m ws → Short m (p ∷ qs)
parse-short m ps [] p qs e h k = ordered-short m ps p qs e h
parse-short m ps (w ∷ ws) p qs e h k =
    by_cases (is_pair w)
    (λ t. parse-short m (ps ++ pair_of w ∷ []) ws p qs (rw t at e) (short-more m ps (pair_of w) h (pair-short m w t k.0)) k.1)
    (λ t. let f : NoPair w ≡ Pairs p qs = rw t at e in let z : ◌≡◌ {A = ℕ} 0 1 = cc in absurd (omega arith))

pub names-short : (text : Text) (p : Pair) (ps : List Pair) → order_of text ≡ Pairs p ps → Short (length text) (p ∷ ps)
unfolding order_of words
names-short text p ps e = parse-short (length text) [] (words is_gap text) p ps e tt (filled_within (length text) (parts is_gap text) (parts_within is_gap text))
