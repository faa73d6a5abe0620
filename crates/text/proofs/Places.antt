-- What a search for a place tells of the words that are left. Assumes nothing.
use mathlib.Core.Path.{◌≡◌, refl, sym, ap, ◌∙◌}
use mathlib.Core.Bool.{Bool, true, false, not, cond}
use mathlib.Core.List.{[], ◌∷◌}
use Prim.Native.Nat.{ℕ, zero, suc, ◌+◌, ◌-◌, ◌≤◌, ◌<◌}
use native.Mathlib.Numerals.{add-one}
use native.Mathlib.Omega.{arith}
use native.Mathlib.Nat.{le_of_suc-le-suc, not-suc-le-zero}
use lib.ListN.{length, get_or, take, drop, length-drop, drop_of_length-le}
use lib.Seq.{drop-cons, drop-drop, get_or-drop}
use borrow.Author.Tests.{not-true}
use Rattle.bits.proofs.Ranges.{and_l, and_r}
use Rattle.text.specs.Words.{Text, before, words, all}
use Rattle.text.proofs.Parts.{words-cut, words-word, take-before}

pub split_at : (s : Text) (i : ℕ) → i < length s → drop i s ≡ get_or s i 0 ∷ drop (i + 1) s
split_at s i h = rw add-one (drop-cons s i 0 h)

-- ## A search from place i on, byte by byte

module _ (cut : ℕ → Bool) (s : Text) (i : ℕ) (h : i < length s) where
  pub found : cut (get_or s i 0) ≡ true → i ≡ i + length (before cut (drop i s))
  found e = rw (split_at s i h, e) (omega arith)

  pub passed : cut (get_or s i 0) ≡ false → (i + 1) + length (before cut (drop (i + 1) s)) ≡ i + length (before cut (drop i s))
  passed e = rw (split_at s i h, e) (omega arith)

-- past the end
pub ended : (cut : ℕ → Bool) (s : Text) (i : ℕ) → length s ≤ i → i ≡ i + length (before cut (drop i s))
ended cut s i h = rw (drop_of_length-le s {i = i} h) (omega arith)

-- the byte at which a search stops is of the kind
pub stopped : (cut : ℕ → Bool) (xs : Text) → length (before cut xs) < length xs → cut (get_or xs (length (before cut xs)) 0) ≡ true
stopped cut [] h = absurd (not-suc-le-zero h)
stopped cut (b ∷ bs) h = go (cut b) refl (stopped cut bs) h
  where
    go : (c : Bool) → cut b ≡ c → (length (before cut bs) < length bs → cut (get_or bs (length (before cut bs)) 0) ≡ true)
        → length (cond c [] (b ∷ before cut bs)) < suc (length bs) → cut (get_or (b ∷ bs) (length (cond c [] (b ∷ before cut bs))) 0) ≡ true
    go true e f h = e
    go false e f h = f (le_of_suc-le-suc h)

-- the same at a place of the whole text
pub stopped-at : (cut : ℕ → Bool) (s : Text) (at w : ℕ) → w ≡ at + length (before cut (drop at s)) → w < length s → cut (get_or s w 0) ≡ true
stopped-at cut s at w e l =
    let n = length (before cut (drop at s)) in
    ap cut (ap (λ (k : ℕ). get_or s k 0) e ∙ sym (get_or-drop at s n 0)) ∙ stopped cut (drop at s) (rw (length-drop at s) (omega arith))

module _ (cut : ℕ → Bool) where
  abbrev pub other : ℕ → Bool
  other b = not (cut b)

  skip : (xs : Text) → words cut (drop (length (before other xs)) xs) ≡ words cut xs
  skip [] = refl
  skip (b ∷ bs) = go (cut b) refl (skip bs)
    where
      go : (c : Bool) → cut b ≡ c → words cut (drop (length (before other bs)) bs) ≡ words cut bs
          → words cut (drop (length (cond (not c) [] (b ∷ before other bs))) (b ∷ bs)) ≡ words cut (b ∷ bs)
      go true e f = f ∙ sym (words-cut cut b bs e)
      go false e f = refl

  -- ## At place w of s the words that are left begin, or there are none

  pub record Begin (s : Text) (at w : ℕ) : Type 0 where
    pub inside : w ≤ length s
    pub onward : at ≤ w
    pub same : words cut (drop w s) ≡ words cut (drop at s)
    pub filled : w < length s → cut (get_or s w 0) ≡ false

  pub begin : (s : Text) (at w : ℕ) → w ≡ at + length (before other (drop at s)) → w ≤ length s → Begin s at w
  begin s at w e h =
      let n = length (before other (drop at s)) in
      record {
        inside = h;
        onward = omega arith;
        same = ap (λ (k : ℕ). words cut (drop k s)) e ∙ ap (words cut) (sym (drop-drop n at s)) ∙ skip (drop at s);
        filled = λ l. not-true (cut (get_or s w 0)) (stopped-at other s at w e l);
      }

  -- ## The word at place w ends at e

  pub record Word (s : Text) (w e : ℕ) : Type 0 where
    pub longer : w < e
    pub inside : e ≤ length s
    pub first : words cut (drop w s) ≡ take (e - w) (drop w s) ∷ words cut (drop e s)
    pub stops : e < length s → cut (get_or s e 0) ≡ true

  pub word : (s : Text) (w e : ℕ) → w < length s → cut (get_or s w 0) ≡ false → e ≡ w + length (before cut (drop w s)) → e ≤ length s → Word s w e
  word s w e l f h k =
      let n = length (before cut (drop w s)) in
      let p = split_at s w l in
      let q : n ≡ suc (length (before cut (drop (w + 1) s))) = rw (p, f) in
      let z : e - w ≡ n = omega arith in
      record {
        longer = omega arith;
        inside = k;
        first = ap (words cut) p ∙ words-word cut (get_or s w 0) (drop (w + 1) s) f
            ∙ ap (λ (l : Text). before cut l ∷ words cut (drop (length (before cut l)) l)) (sym p)
            ∙ ap (λ (l : Text). before cut (drop w s) ∷ words cut l) (drop-drop n w s ∙ ap (λ (k : ℕ). drop k s) (sym h))
            ∙ ap (λ (v : Text). v ∷ words cut (drop e s)) (sym (take-before cut (drop w s)).0 ∙ ap (λ (k : ℕ). take k (drop w s)) (sym z));
        stops = stopped-at cut s w e h;
      }

-- ## A test of all bytes, byte by byte

module _ (p : ℕ → Bool) (w : Text) (i : ℕ) (h : i < length w) where
  pub all-not : p (get_or w i 0) ≡ false → false ≡ all p (drop i w)
  all-not e = rw (split_at w i h, e)

  pub all-next : p (get_or w i 0) ≡ true → all p (drop (i + 1) w) ≡ all p (drop i w)
  all-next e = rw (split_at w i h, e)

pub all_done : (p : ℕ → Bool) (w : Text) (i : ℕ) → length w ≤ i → true ≡ all p (drop i w)
all_done p w i h = rw (drop_of_length-le w {i = i} h)

pub all-at : (p : ℕ → Bool) (w : Text) (i : ℕ) → all p w ≡ true → i < length w → p (get_or w i 0) ≡ true
all-at p [] i e h = absurd (not-suc-le-zero h)
all-at p (b ∷ bs) zero e h = and_l (p b) (all p bs) e
all-at p (b ∷ bs) (suc i) e h = all-at p bs i (and_r (p b) (all p bs) e) (le_of_suc-le-suc h)
