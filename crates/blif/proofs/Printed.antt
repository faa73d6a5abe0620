-- A text of plain words, read again as lines of words. Assumes nothing.
use mathlib.Core.Path.{◌≡◌, refl, sym, ap, ◌∙◌}
use mathlib.Core.Bool.{Bool, true, false}
use mathlib.Core.List.{List, [], ◌∷◌, ◌++◌, append_assoc}
use Prim.Native.Nat.{ℕ}
use Rattle.text.specs.Words.{Text, before, keep, words}
use Rattle.text.proofs.Parts.{behind, words_step}
use Rattle.blif.specs.Text.{is_blank, is_newline, is_hash, fields, statement, statements, spaced, text}
use Rattle.blif.proofs.Statements.{statements-step}

-- no byte of the list cuts it
abbrev pub Whole : (ℕ → Bool) → Text → Type 0
Whole cut [] = Unit
Whole cut (b ∷ bs) = (cut b ≡ false) × Whole cut bs

pub before_at : (cut : ℕ → Bool) (l : Text) (c : ℕ) (r : Text) → Whole cut l → cut c ≡ true → (before cut (l ++ c ∷ r) ≡ l) × (behind cut (l ++ c ∷ r) ≡ r)
before_at cut [] c r w e = (rw e, rw e)
before_at cut (b ∷ bs) c r w e = let h = before_at cut bs c r w.1 e in (rw w.0 (ap (λ (l : Text). b ∷ l) h.0), rw w.0 h.1)

pub before-none : (cut : ℕ → Bool) (l : Text) → Whole cut l → (before cut l ≡ l) × (behind cut l ≡ [])
before-none cut [] w = (refl, refl)
before-none cut (b ∷ bs) w = let h = before-none cut bs w.1 in (rw w.0 (ap (λ (l : Text). b ∷ l) h.0), rw w.0 h.1)

whole_append : (cut : ℕ → Bool) (l m : Text) → Whole cut l → Whole cut m → Whole cut (l ++ m)
whole_append cut [] m w v = v
whole_append cut (b ∷ bs) m w v = (w.0, whole_append cut bs m w.1 v)

-- a word: some bytes, none of which parts words, lines or comments
pub record Plain (w : Text) : Type 0 where
  pub some : (b : ℕ) × (bs : Text) × (w ≡ b ∷ bs)
  pub solid : Whole is_blank w
  pub flat : Whole is_newline w
  pub open-ended : Whole is_hash w

abbrev pub Plains : List Text → Type 0
Plains [] = Unit
Plains (w ∷ ws) = Plain w × Plains ws

keeps : {w : Text} → Plain w → (ws : List Text) → keep w ws ≡ w ∷ ws
keeps p ws = rw p.some.2

pub fields-spaced : (ws : List Text) → Plains ws → fields (spaced ws) ≡ ws
unfolding words
fields-spaced [] p = refl
fields-spaced (w ∷ []) p = let h = before-none is_blank w p.0.solid in words_step is_blank w ∙ rw (h.1, h.0) (keeps p.0 [])
fields-spaced (w ∷ v ∷ ws) p =
    let r = spaced (v ∷ ws) in
    let h = before_at is_blank w 0x20 r p.0.solid refl in
    words_step is_blank (w ++ 0x20 ∷ r) ∙ rw (h.1, h.0, fields-spaced (v ∷ ws) p.1) (keeps p.0 (v ∷ ws))

whole-spaced : (cut : ℕ → Bool) → cut 0x20 ≡ false → (ws : List Text) → ((w : Text) → Plain w → Whole cut w) → Plains ws → Whole cut (spaced ws)
whole-spaced cut e [] f p = tt
whole-spaced cut e (w ∷ []) f p = f w p.0
whole-spaced cut e (w ∷ v ∷ ws) f p = whole_append cut w (0x20 ∷ spaced (v ∷ ws)) (f w p.0) (e, whole-spaced cut e (v ∷ ws) f p.1)

pub statement-spaced : (ws : List Text) → Plains ws → statement (spaced ws) ≡ ws
unfolding statement
statement-spaced ws p = rw (before-none is_hash (spaced ws) (whole-spaced is_hash refl ws (λ w q. q.open-ended) p)).0 (fields-spaced ws p)

-- lines of some plain words each
abbrev pub Lines : List (List Text) → Type 0
Lines [] = Unit
Lines ([] ∷ ss) = ⊥
Lines ((w ∷ ws) ∷ ss) = Plain w × Plains ws × Lines ss

pub statements-text : (ss : List (List Text)) → Lines ss → statements (text ss) ≡ ss
unfolding statements statement words
statements-text [] l = refl
statements-text ([] ∷ ss) l = absurd l
statements-text ((w ∷ ws) ∷ ss) l =
    let s = w ∷ ws in
    let p : Plains s = (l.0, l.1) in
    let h = before_at is_newline (spaced s) 0x0A (text ss) (whole-spaced is_newline refl s (λ v q. q.flat) p) refl in
    statements-step (spaced s ++ 0x0A ∷ text ss) ∙ rw (h.1, h.0, statement-spaced s p, statements-text ss l.2)

pub text-append : (a b : List (List Text)) → text (a ++ b) ≡ text a ++ text b
text-append [] b = refl
text-append (s ∷ a) b = rw (text-append a b) (sym (append_assoc (spaced s) (0x0A ∷ text a) (text b)))
