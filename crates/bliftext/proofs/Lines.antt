-- A line found by places: where it ends, where its comment starts, where its first word is. Assumes nothing.
use mathlib.Core.Path.{◌≡◌, refl, sym, ap, ◌∙◌}
use mathlib.Core.List.{List, [], ◌∷◌}
use Prim.Native.Nat.{ℕ, zero, suc, ◌+◌, ◌-◌, ◌≤◌, ◌<◌}
use native.Mathlib.Omega.{arith}
use native.Mathlib.Nat.{zero-add, suc-add, sub-zero}
use lib.ListN.{length, take, drop, length-drop, drop_of_length-le}
use lib.Seq.{drop-drop, take-take, length-take-le}
use Rattle.text.specs.Words.{Text, before, keep, words}
use Rattle.blif.specs.Text.{is_blank, is_newline, is_hash, fields, statement, statements}
use Rattle.text.proofs.Parts.{behind, take-before}
use Rattle.text.proofs.Places.{begin, word}
use Rattle.blif.proofs.Statements.{statements-step}
use Rattle.bliftext.specs.Lines.{is_filled, LineAt}

-- past the end nothing is left
pub past_end : (s : Text) (i : ℕ) → length s ≤ i → drop i s ≡ drop (i + 1) s
past_end s i h = drop_of_length-le s {i = i} h ∙ sym (drop_of_length-le s {i = i + 1} (omega arith))

pub drop-take : (i n : ℕ) (l : Text) → drop i (take (i + n) l) ≡ take n (drop i l)
drop-take zero n l = ap (λ (k : ℕ). take k l) (zero-add n)
drop-take (suc i) zero [] = rw (suc-add i zero)
drop-take (suc i) (suc n) [] = rw (suc-add i (suc n))
drop-take (suc i) n (x ∷ xs) = rw (suc-add i n) (drop-take i n xs)

module _ (text : Text) (i e h : ℕ) (ends : e ≡ i + length (before is_newline (drop i text))) (cut : h ≡ i + length (before is_hash (drop i (take e text)))) where
  abbrev xs : Text
  xs = drop i text

  abbrev line : Text
  line = before is_newline xs

  pub line-is : drop i (take e text) ≡ line
  line-is = ap (λ (k : ℕ). drop i (take k text)) ends ∙ drop-take i (length line) text ∙ (take-before is_newline xs).0

  pub body_is : drop i (take h text) ≡ before is_hash line
  body_is =
      let b = before is_hash line in
      let c : h ≡ i + length b = cut ∙ ap (λ (l : Text). i + length (before is_hash l)) line-is in
      ap (λ (k : ℕ). drop i (take k text)) c
      ∙ drop-take i (length b) text
      ∙ sym (take-take (length b) (length line) xs (take-before is_hash line).1)
      ∙ ap (take (length b)) (take-before is_newline xs).0
      ∙ (take-before is_hash line).0

  pub words_are : fields (drop i (take h text)) ≡ statement line
  unfolding statement
  words_are = ap fields body_is

  pub behind-is : behind is_newline xs ≡ drop (e + 1) text
  behind-is = drop-drop (suc (length line)) i text ∙ ap (λ (k : ℕ). drop k text) (let q : i + suc (length line) ≡ e + 1 = omega (arith, ends) in q)

  statements-are : statements xs ≡ keep (fields (drop i (take h text))) (statements (drop (e + 1) text))
  statements-are = statements-step xs ∙ ap (λ (l : Text). keep (statement line) (statements l)) behind-is ∙ ap (λ (ws : List Text). keep ws (statements (drop (e + 1) text))) (sym words_are)

  module _ (w next : ℕ) (first : w ≡ i + length (before is_filled (drop i (take h text)))) (below : w ≤ length (take h text)) (after : drop next text ≡ drop (e + 1) text) (inside : h ≤ length text) where
    -- the line has a word
    pub some_words : w < h → statements xs ≡ fields (drop w (take h text)) ∷ statements (drop next text)
    some_words l =
        let s = take h text in
        let len : length s ≡ h = length-take-le h text inside in
        let b = begin is_blank s i w first below in
        let most = (take-before is_blank (drop w s)).1 in
        let left = length-drop w s in
        let x = word is_blank s w (w + length (before is_blank (drop w s))) (omega arith) (b.filled (omega arith)) refl (omega arith) in
        statements-are
        ∙ ap (λ (ws : List Text). keep ws (statements (drop (e + 1) text))) (sym b.same ∙ x.first)
        ∙ ap (λ (ws : List Text). ws ∷ statements (drop (e + 1) text)) (sym x.first)
        ∙ ap (λ (l : Text). fields (drop w s) ∷ statements l) (sym after)

    -- the line is blank
    pub no_words : h ≤ w → statements xs ≡ statements (drop next text)
    unfolding words
    no_words l =
        let s = take h text in
        let len : length s ≡ h = length-take-le h text inside in
        let b = begin is_blank s i w first below in
        statements-are
        ∙ ap (λ (ws : List Text). keep ws (statements (drop (e + 1) text))) (sym b.same ∙ ap fields (drop_of_length-le s {i = w} (omega arith)))
        ∙ ap statements (sym after)

-- what three searches find
pub line-found : (text : Text) (i e h w next : ℕ)
    → (e ≡ i + length (before is_newline (drop i text))) × (e ≤ length text)
    → (h ≡ i + length (before is_hash (drop i (take (e - 0) text)))) × (h ≤ length (take (e - 0) text))
    → (w ≡ i + length (before is_filled (drop i (take (h - 0) text)))) × (w ≤ length (take (h - 0) text))
    → drop next text ≡ drop (e + 1) text → e ≤ next → next ≤ length text → i < next
    → LineAt text i (record { at = w; end = h; next = next })
line-found text i e h w next ends cut first after l most on =
    let c = rw (sub-zero e) at cut.0 in
    let k = rw (sub-zero e, length-take-le e text ends.1) at cut.1 in
    let inside : h ≤ length text = omega (arith, ends.1) in
    let f = rw (sub-zero h) at first.0 in
    let b = rw (sub-zero h) at first.1 in
    let u = rw (sub-zero h, length-take-le h text inside) at first.1 in
    record {
      some = some_words text i e h ends.0 c w next f b after inside;
      none = no_words text i e h ends.0 c w next f b after inside;
      from = omega (arith, f);
      upto = u;
      within = omega arith;
      inside = most;
      onward = on;
    }
