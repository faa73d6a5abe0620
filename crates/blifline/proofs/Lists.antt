-- Words of a line, one after the other, as a loop meets them. Assumes nothing.
use mathlib.Core.Path.{◌≡◌, refl, sym, ap, ap₂, ◌∙◌}
use mathlib.Core.Bool.{Bool, true, false, not, cond, ◌&&◌}
use mathlib.Core.List.{List, [], ◌∷◌, map}
use Prim.Native.Nat.{ℕ, suc, ◌+◌, ◌-◌, ◌≤◌, ◌<◌}
use native.Mathlib.Numerals.{add-one}
use native.Mathlib.Omega.{arith}
use borrow.Author.Tests.{ltb-false}
use Rattle.std.specs.Prelude.{Option, Some, None}
use Rattle.std.specs.Option.{is_some, unwrap_or}
use Rattle.std.specs.List.{list_all}
use Rattle.bits.proofs.Ranges.{by_cases}
use lib.ListN.{length, get_or, take, drop, set, drop_of_length-le}
use lib.Seq.{sets, drop-cons, drop-drop}
use Rattle.text.specs.Words.{Text, all}
use Rattle.blif.specs.Text.{fields}
use Rattle.blif.specs.Read.{same, place_in, known}
use Rattle.bliftext.specs.declared.Span.{Span}
use Rattle.bliftext.specs.Spans.{span_of, WordAt}
use Rattle.bliftext.specs.Named.{names_at, place_among}
use Rattle.bliftext.proofs.Names.{many, name-is}
use Rattle.bliftext.proofs.Spans.{some_left, none_left, first-left}

-- word i of the words
pub word-i : (s : Text) (at i : ℕ) (ws : List Text) (x : Span) → i < length ws → WordAt s at (drop i ws) x → drop i ws ≡ span_of s x ∷ drop (i + 1) ws
word-i s at i ws x l h =
    let p = drop-cons ws i [] l in
    let q : get_or ws i [] ≡ span_of s x = sym (ap (λ (v : List Text). get_or v 0 []) p) ∙ ap (λ (v : List Text). get_or v 0 []) h.reads ∙ first-left s x in
    p ∙ rw (q, add-one)

module _ (p : Text → Bool) (s : Text) (at i k : ℕ) (ws : List Text) (x : Span) (l : i < k) (m : k ≤ length ws) (h : WordAt s at (drop i ws) x) where
  left_is : take (k - i) (drop i ws) ≡ span_of s x ∷ take (k - (i + 1)) (drop (i + 1) ws)
  left_is = let q : k - i ≡ suc (k - (i + 1)) = omega arith in rw (q, word-i s at i ws x (omega arith) h)

  pub all-not : p (span_of s x) ≡ false → false ≡ all p (take (k - i) (drop i ws))
  all-not e = rw (left_is, e)

  pub all-on : p (span_of s x) ≡ true → all p (take (k - (i + 1)) (drop (i + 1) ws)) ≡ all p (take (k - i) (drop i ws))
  all-on e = rw (left_is, e)

  pub sets-on : (f : Text → ℕ) (u : List ℕ) (b v : ℕ) → v ≡ f (span_of s x)
      → sets (set u (b + i) v) (b + (i + 1)) (map f (take (k - (i + 1)) (drop (i + 1) ws))) ≡ sets u (b + i) (map f (take (k - i) (drop i ws)))
  sets-on f u b v e = let q : b + (i + 1) ≡ suc (b + i) = omega arith in rw (left_is, q, e)

pub all_done : (p : Text → Bool) (i k : ℕ) (ws : List Text) → k ≤ i → true ≡ all p (take (k - i) (drop i ws))
all_done p i k ws l = let q : k - i ≡ 0 = omega arith in rw q

pub sets-done : (f : Text → ℕ) (u : List ℕ) (b i k : ℕ) (ws : List Text) → k ≤ i → u ≡ sets u (b + i) (map f (take (k - i) (drop i ws)))
sets-done f u b i k ws l = let q : k - i ≡ 0 = omega arith in rw q

place-le : (vs : List Text) (w : Text) → place_in vs w ≤ length vs
place-le [] w = omega arith
place-le (v ∷ vs) w = go (same v w) (place-le vs w)
  where
    go : (c : Bool) → place_in vs w ≤ length vs → cond c 0 (suc (place_in vs w)) ≤ suc (length vs)
    go true h = omega arith
    go false h = omega arith

some-if : (b : Bool) (p : ℕ) → is_some (cond b (Some p) None) ≡ b
some-if true p = refl
some-if false p = refl

place-or : (vs : List Text) (w : Text) → unwrap_or (place_among vs w) (length vs) ≡ place_in vs w
place-or vs w =
    let l = place-le vs w in
    by_cases (known vs w) (λ t. rw t) (λ t. let o = ltb-false (place_in vs w) (length vs) t in rw t (omega arith))

-- a name by its place
module _ (text : Text) (names : List Span) (w : Text) (r : Option ℕ) (e : r ≡ place_among (names_at text names) w) where
  pub place-known : is_some r ≡ known (names_at text names) w
  place-known = ap is_some e ∙ some-if (known (names_at text names) w) (place_in (names_at text names) w)

  -- the number of names where it is none of them
  pub place-is : unwrap_or r (length names) ≡ place_in (names_at text names) w
  place-is = ap (λ (o : Option ℕ). unwrap_or o (length names)) e ∙ ap (unwrap_or (place_among (names_at text names) w)) (sym (many text names)) ∙ place-or (names_at text names) w

  pub place-few : unwrap_or r (length names) ≤ length names
  place-few = let l = place-le (names_at text names) w in let n = many text names in omega (arith, place-is)

-- whether each name is among others, by the names' places
pub all-among : (vs : List Text) (text : Text) (names : List Span) → list_all (λ n. is_some (place_among vs (span_of text n))) names ≡ all (known vs) (names_at text names)
all-among vs text [] = refl
all-among vs text (n ∷ names) =
    let w = span_of text n in
    ap₂ (λ (b c : Bool). b && c) (some-if (known vs w) (place_in vs w)) (all-among vs text names)

-- ## The last word

module _ (p : Text → Bool) (s : Text) (at k : ℕ) (ws : List Text) (x : Span) (e : k ≡ length ws - 1) (h : WordAt s at (drop k ws) x) where
  pub last_none : x.start ≡ x.end → false ≡ not (all (λ w. not (p w)) (drop k ws))
  last_none z = rw (h.reads ∙ none_left s x (omega arith))

  pub last-is : (x.start ≡ x.end → ⊥) → drop k ws ≡ span_of s x ∷ []
  last-is n =
      let l : x.start < x.end = omega (arith, h.upto) in
      let z : fields (drop x.end s) ≡ [] = h.behind ∙ drop-drop 1 k ws ∙ drop_of_length-le ws {i = k + 1} (omega arith) in
      h.reads ∙ some_left s x l ∙ ap (λ (l : List Text). span_of s x ∷ l) z

  pub last-known : (x.start ≡ x.end → ⊥) → p (span_of s x) ≡ not (all (λ w. not (p w)) (drop k ws))
  last-known n = rw (last-is n) (go (p (span_of s x)))
    where
      go : (b : Bool) → b ≡ not (not b && true)
      go true = refl
      go false = refl

-- ## Names at places, one after the other

module _ (text : Text) (names : List Span) (i : ℕ) where
  abbrev ns : List Text
  ns = names_at text names

  module _ (d : Span) (h : i < length names) where
    name-i : drop i (names_at text names) ≡ span_of text (get_or names i d) ∷ drop (i + 1) (names_at text names)
    name-i = drop-cons ns i [] (rw (many text names) h) ∙ rw (name-is text names i d h, add-one)

    pub names-put : (f : Text → ℕ) (u : List ℕ) (v : ℕ) → v ≡ f (span_of text (get_or names i d))
        → sets (set u i v) (i + 1) (map f (drop (i + 1) (names_at text names))) ≡ sets u i (map f (drop i (names_at text names)))
    names-put f u v e = rw (name-i, add-one, e)

  no_more : length names ≤ i → drop i (names_at text names) ≡ []
  no_more h = drop_of_length-le ns {i = i} (rw (many text names) h)

  pub names-stored : (f : Text → ℕ) (u : List ℕ) → length names ≤ i → u ≡ sets u i (map f (drop i (names_at text names)))
  names-stored f u h = rw (no_more h)
