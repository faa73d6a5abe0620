-- Words by their places, one after the other. Assumes nothing.
use mathlib.Core.Path.{◌≡◌, refl, sym, ap, ◌∙◌}
use mathlib.Core.Bool.{Bool, true, false, not, cond, ◌&&◌, ◌||◌}
use mathlib.Core.List.{List, [], ◌∷◌}
use Prim.Native.Nat.{ℕ, suc, ◌+◌, ◌-◌, ◌≤◌, ◌<◌}
use native.Mathlib.Omega.{arith}
use lib.Dec.{ltb, leb-suc-suc}
use lib.ListN.{length, get_or, drop, length-drop, drop_of_length-le}
use lib.Seq.{drop-drop}
use borrow.Author.Tests.{ltb-true, ltb-false, lt-ltb, le-ltb}
use Rattle.bits.proofs.Ranges.{by_cases}
use Rattle.text.specs.Words.{Text, is_printing, part_with, parts, before, keep, non_empty, words, all}
use Rattle.blif.specs.Text.{is_blank, fields}
use Rattle.blif.specs.Read.{foreign}
use Rattle.text.proofs.Parts.{parts_first}
use Rattle.text.proofs.Places.{begin, word}
use Rattle.bliftext.specs.declared.Span.{Span}
use Rattle.bliftext.specs.Lines.{is_filled, is_foreign}
use Rattle.bliftext.specs.Spans.{span_of, words_from, WordAt}

-- what two searches find
pub word-found : (s : Text) (at w e : ℕ)
    → (w ≡ at + length (before is_filled (drop at s))) × (w ≤ length s)
    → (e ≡ w + length (before is_blank (drop w s))) × (e ≤ length s)
    → WordAt s at (fields (drop at s)) (record { start = w; end = e })
unfolding words
word-found s at w e f g =
    let b = begin is_blank s at w f.0 f.1 in
    let some : (w < length s) → WordAt s at (fields (drop at s)) (record { start = w; end = e }) = λ l.
    let x = word is_blank s w e l (b.filled l) g.0 g.1 in
    record {
      reads = sym b.same ∙ x.first ∙ rw (lt-ltb w e x.longer);
      behind = ap (drop 1) (sym x.first ∙ b.same);
      from = b.onward;
      upto = omega (arith, x.longer);
      inside = g.1;
    } in
    let none : (length s ≤ w) → WordAt s at (fields (drop at s)) (record { start = w; end = e }) = λ l.
    let q = drop_of_length-le s {i = w} l in
    let p : e ≡ w = g.0 ∙ rw q (omega arith) in
    let z : fields (drop at s) ≡ [] = sym b.same ∙ ap fields q in
    record {
      reads = z ∙ rw (le-ltb w e (omega arith));
      behind = ap fields (drop_of_length-le s {i = e} (omega arith)) ∙ sym (ap (drop 1) z);
      from = b.onward;
      upto = omega arith;
      inside = g.1;
    } in
    by_cases (ltb w (length s)) (λ t. some (ltb-true _ _ t)) (λ t. none (ltb-false _ _ t))

module _ (s : Text) (w : Span) where
  -- there is a word
  pub some_left : w.start < w.end → words_from s w ≡ span_of s w ∷ fields (drop w.end s)
  some_left l = rw (lt-ltb w.start w.end l)

  -- there is none
  pub none_left : w.end ≤ w.start → words_from s w ≡ []
  none_left l = rw (le-ltb w.start w.end l)

  -- the first word, empty where there is none
  pub first-left : get_or (words_from s w) 0 [] ≡ span_of s w
  first-left = by_cases (ltb w.start w.end) some none
    where
      some : ltb w.start w.end ≡ true → get_or (words_from s w) 0 [] ≡ span_of s w
      some t = rw t

      none : ltb w.start w.end ≡ false → get_or (words_from s w) 0 [] ≡ span_of s w
      none t = let l = ltb-false w.start w.end t in let z : w.end - w.start ≡ 0 = omega arith in rw (t, z)

-- ## Text that stand in no word

all_keep : (l : Text) (ls : List Text) → all (all is_printing) (keep l ls) ≡ (all is_printing l && all (all is_printing) ls)
all_keep [] ls = refl
all_keep (b ∷ bs) ls = refl

all-non_empty : (ls : List Text) → all (all is_printing) (non_empty ls) ≡ all (all is_printing) ls
all-non_empty [] = refl
all-non_empty (l ∷ ls) = all_keep l (non_empty ls) ∙ ap (λ (b : Bool). all is_printing l && b) (all-non_empty ls)

abbrev fits : ℕ → Bool
fits b = is_printing b || is_blank b

first_fits : (b c : Bool) (n : ℕ) (p : Text) (ps : List Text) → is_printing n ≡ b → all (all is_printing) (part_with c n (p ∷ ps)) ≡ ((b || c) && all (all is_printing) (p ∷ ps))
first_fits true true n p ps e = refl
first_fits true false n p ps e = rw e
first_fits false true n p ps e = refl
first_fits false false n p ps e = rw e

all-parts : (xs : Text) → all (all is_printing) (parts is_blank xs) ≡ all fits xs
all-parts [] = refl
all-parts (b ∷ bs) =
    ap (λ (ps : List Text). all (all is_printing) (part_with (is_blank b) b ps)) (parts_first is_blank bs)
    ∙ first_fits (is_printing b) (is_blank b) b (before is_blank bs) (drop 1 (parts is_blank bs)) refl
    ∙ ap (λ (ps : List Text). fits b && all (all is_printing) ps) (sym (parts_first is_blank bs))
    ∙ ap (λ (c : Bool). fits b && c) (all-parts bs)

search-all : (xs : Text) → ltb (length (before is_foreign xs)) (length xs) ≡ not (all fits xs)
search-all [] = refl
search-all (b ∷ bs) = go (fits b) (search-all bs)
  where
    go : (c : Bool) → ltb (length (before is_foreign bs)) (length bs) ≡ not (all fits bs)
        → ltb (length (cond (not c) [] (b ∷ before is_foreign bs))) (suc (length bs)) ≡ not (c && all fits bs)
    go true e = leb-suc-suc (suc (length (before is_foreign bs))) (length bs) ∙ e
    go false e = lt-ltb 0 (suc (length bs)) (omega arith)

ltb-shift : (i a n : ℕ) → ltb (i + a) n ≡ ltb a (n - i)
ltb-shift i a n =
    by_cases (ltb (i + a) n)
    (λ t. let l = ltb-true (i + a) n t in t ∙ sym (lt-ltb a (n - i) (omega arith)))
    (λ t. let l = ltb-false (i + a) n t in t ∙ sym (le-ltb a (n - i) (omega arith)))

pub foreign-is : (s : Text) (at r : ℕ) → r ≡ at + length (before is_foreign (drop at s)) → ltb r (length s) ≡ foreign (fields (drop at s))
unfolding words
foreign-is s at r e =
    ap (λ (k : ℕ). ltb k (length s)) e
    ∙ ltb-shift at (length (before is_foreign (drop at s))) (length s)
    ∙ ap (ltb (length (before is_foreign (drop at s)))) (sym (length-drop at s))
    ∙ search-all (drop at s)
    ∙ ap not (sym (all-non_empty (parts is_blank (drop at s)) ∙ all-parts (drop at s)))

-- ## The words behind the first k

pub word_next : (s : Text) (at k : ℕ) (ws : List Text) (x y : Span) → WordAt s at (drop k ws) x → WordAt s x.end (fields (drop x.end s)) y
    → WordAt s at (drop (k + 1) ws) y
word_next s at k ws x y h g =
    let e : fields (drop x.end s) ≡ drop (k + 1) ws = h.behind ∙ drop-drop 1 k ws in
    record {
      reads = sym e ∙ g.reads;
      behind = g.behind ∙ ap (drop 1) e;
      from = omega (arith, h.from, h.upto, g.from);
      upto = g.upto;
      inside = g.inside;
    }
