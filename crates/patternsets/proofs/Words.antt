-- The stretches hold the definition's words where the two arrays do. Assumes nothing.
use mathlib.Core.Path.{◌≡◌, refl, sym, ap, ap₂}
use mathlib.Core.Bool.{Bool}
use mathlib.Core.List.{List, ◌++◌}
use Prim.Native.Nat.{ℕ, zero, suc, ◌+◌, ◌*◌, ◌<◌}
use native.Mathlib.Nat.{zero-mul, suc-mul}
use native.Mathlib.Omega.{arith}
use lib.ListN.{length, get_or, drop, length-append}
use Rattle.bits.specs.Bounds.{row_words}
use Rattle.bits.specs.Cut.{word_count}
use Rattle.bits.specs.Lists.{overwritten}
use Rattle.bits.proofs.Ranges.{length-places, places-ext}
use Rattle.network.specs.declared.Session.{Session}
use Rattle.network.specs.DontCares.{odc}
use Rattle.network.specs.Compatible.{compatible}
use Rattle.network.specs.Flat.{loaded_net, current_net, word_of, words_of}
use Rattle.network.specs.Calls.{set_words}
use Rattle.patternsets.specs.Stretches.{row, stretches}

-- the places of each gate g below m hold the words of the set p g
abbrev pub Held : (n m : ℕ) → List ℕ → (ℕ → ℕ → Bool) → Type 0
Held n m l p = (g w : ℕ) → g < m → w < word_count n → get_or l (row_words * g + w) 0 ≡ word_of n (p g) w

words_of_row : (n m : ℕ) (l : List ℕ) (p : ℕ → ℕ → Bool) → Held n m l p → (g : ℕ) → g < m → row l (word_count n) g ≡ words_of n (p g)
unfolding words_of
words_of_row n m l p h g lt = places-ext (word_count n) (λ w. get_or l (row_words * g + w) 0) (word_of n (p g)) (λ w. h g w lt)

pub stretches-words : (s : Session) (odcs sets : List ℕ) (m : ℕ)
    → Held s.n m odcs (λ g. odc (current_net s) (s.n + g))
    → Held s.n m sets (λ g. compatible (loaded_net s) (s.n + g))
    → stretches odcs sets (word_count s.n) m ≡ set_words s m
stretches-words s odcs sets zero ho hs = refl
stretches-words s odcs sets (suc g) ho hs =
    ap₂ (λ (x y : List ℕ). x ++ y)
    (stretches-words s odcs sets g (λ i w l. ho i w (omega arith)) (λ i w l. hs i w (omega arith)))
    (ap₂ (λ (x y : List ℕ). x ++ y)
    (words_of_row s.n (suc g) odcs (λ i. odc (current_net s) (s.n + i)) ho g (omega arith))
    (words_of_row s.n (suc g) sets (λ i. compatible (loaded_net s) (s.n + i)) hs g (omega arith)))

length-words : (n : ℕ) (p : ℕ → Bool) → length (words_of n p) ≡ word_count n
unfolding words_of
length-words n p = length-places (word_count n) (word_of n p)

pub length-set-words : (s : Session) (m : ℕ) → length (set_words s m) ≡ m * (word_count s.n + word_count s.n)
length-set-words s zero = sym (zero-mul (word_count s.n + word_count s.n))
length-set-words s (suc g) =
    rw (length-append, length-set-words s g, length-append, length-words _ (odc (current_net s) (s.n + g)), length-words, suc-mul)

-- how many words the sets of all gates take
pub needed : (s : Session) (m w : ℕ) → m ≡ s.m → w ≡ word_count s.n → m * (w + w) ≡ length (set_words s s.m)
needed s m w em ew = rw (em, ew) (sym (length-set-words s s.m))

-- the stretches of all gates, and what was there after them
pub overwrites : (s : Session) (odcs sets b : List ℕ) (m w : ℕ) → m ≡ s.m → w ≡ word_count s.n
    → Held s.n s.m odcs (λ g. odc (current_net s) (s.n + g))
    → Held s.n s.m sets (λ g. compatible (loaded_net s) (s.n + g))
    → stretches odcs sets w m ++ drop (m * (w + w)) b ≡ overwritten (set_words s s.m) b
overwrites s odcs sets b m w em ew ho hs =
    rw (needed s m w em ew, em, ew) (ap (λ (l : List ℕ). l ++ drop (length (set_words s s.m)) b) (stretches-words s odcs sets s.m ho hs))
