-- Rows of words, over plain lists: one turn of the loops that fill them, what one word number of all rows is, and the row of a gate.
-- Assumes nothing.
use mathlib.Core.Path.{◌≡◌, refl, sym, ap, ap₂, ◌∙◌}
use mathlib.Core.Bool.{Bool, false}
use mathlib.Core.List.{List, map}
use Prim.Native.Nat.{ℕ, ◌+◌, ◌*◌, ◌≤◌, ◌<◌}
use native.Mathlib.Decide.{ℕ_discrete}
use native.Mathlib.Omega.{arith}
use lib.ListN.{length, get_or, set, length-set}
use lib.Seq.{ext_get_or, get_or-set_same, get_or-set_other}
use Rattle.bits.specs.Bounds.{row_words, gate_places}
use Rattle.bits.specs.Bit.{bit, number, column}
use Rattle.bits.proofs.Ranges.{length-places, places-at, places-ext, map-places, table-ext, column-at}
use Rattle.network.specs.Bounds.{most_signals, signal_words}
use Rattle.network.specs.Net.{entry}
use Rattle.network.specs.Flat.{gate_at}
use Rattle.network.specs.Valid.{GateOk}
use Rattle.network.proofs.FlatGates.{entry-at}
use Rattle.simulate.specs.Simulated.{words_at, value_at, first_fanins, LutRow}

-- one word more of a row whose bits are given by p
pub filled-bits : (l : List ℕ) (p : ℕ → ℕ → Bool) (i v : ℕ) → i < length l
    → ((w b : ℕ) → w < i → b < 64 → bit (get_or l w 0) b ≡ p w b) → ((b : ℕ) → b < 64 → bit v b ≡ p i b)
    → (w b : ℕ) → w < i + 1 → b < 64 → bit (get_or (set l i v) w 0) b ≡ p w b
filled-bits l p i v h so_far here w b lw lb = go (ℕ_discrete w i)
  where
    go : Dec (w ≡ i) → bit (get_or (set l i v) w 0) b ≡ p w b
    go (yes e) = rw e (ap (λ (x : ℕ). bit x b) (get_or-set_same l i v 0 h) ∙ here b lb)
    go (no n) = ap (λ (x : ℕ). bit x b) (get_or-set_other l i w v 0 n) ∙ so_far w b (omega arith) lb

-- ## One word number of all rows

pub words-at : (rows : List ℕ) (w s : ℕ) → s < most_signals → get_or (words_at rows w) s 0 ≡ get_or rows (row_words * s + w) 0
unfolding words_at
words-at rows w s h = places-at 0 most_signals (λ s. get_or rows (row_words * s + w) 0) s h

pub words_long : (rows : List ℕ) (w : ℕ) → length (words_at rows w) ≡ most_signals
unfolding words_at
words_long rows w = length-places most_signals (λ s. get_or rows (row_words * s + w) 0)

module _ (rows : List ℕ) (s i v : ℕ) (hi : i < row_words) where
  -- a store to word i leaves the others
  pub other_word : (w : ℕ) → w < row_words → (w ≡ i → ⊥) → words_at (set rows (row_words * s + i) v) w ≡ words_at rows w
  unfolding words_at
  other_word w hw n =
      places-ext most_signals (λ q. get_or (set rows (row_words * s + i) v) (row_words * q + w) 0) (λ q. get_or rows (row_words * q + w) 0)
      (λ q h. get_or-set_other rows (row_words * s + i) (row_words * q + w) v 0 (λ e. n (omega arith)))

  pub own-word : s < most_signals → length rows ≡ signal_words → words_at (set rows (row_words * s + i) v) i ≡ set (words_at rows i) s v
  own-word hs long =
      ext_get_or 0 (words_at (set rows (row_words * s + i) v) i) (set (words_at rows i) s v)
      (words_long (set rows (row_words * s + i) v) i ∙ sym (length-set (words_at rows i) s v ∙ words_long rows i))
      (λ q h. at q (omega (arith, words_long (set rows (row_words * s + i) v) i)) (ℕ_discrete q s))
    where
      at : (q : ℕ) → q < most_signals → Dec (q ≡ s) → get_or (words_at (set rows (row_words * s + i) v) i) q 0 ≡ get_or (set (words_at rows i) s v) q 0
      at q h (yes e) =
          rw e (words-at (set rows (row_words * s + i) v) i s hs ∙ get_or-set_same rows (row_words * s + i) v 0 (omega arith)
          ∙ sym (get_or-set_same (words_at rows i) s v 0 (omega (arith, words_long rows i))))
      at q h (no n) =
          words-at (set rows (row_words * s + i) v) i q h ∙ get_or-set_other rows (row_words * s + i) (row_words * q + i) v 0 (λ e. n (omega arith))
          ∙ sym (words-at rows i q h) ∙ sym (get_or-set_other (words_at rows i) s q v 0 n)

-- row s has its first i words as p says, and the rest as they were
abbrev pub Stored : (rows₀ rows : List ℕ) (p : ℕ → ℕ) (s i : ℕ) → Type 0
Stored rows₀ rows p s i =
    (length rows ≡ signal_words)
    × ((w : ℕ) → w < i → words_at rows w ≡ set (words_at rows₀ w) s (p w))
    × ((w : ℕ) → i ≤ w → w < row_words → words_at rows w ≡ words_at rows₀ w)

pub store-first : (rows : List ℕ) (p : ℕ → ℕ) (s : ℕ) → length rows ≡ signal_words → Stored rows rows p s 0
store-first rows p s h = (h, λ w l. absurd (omega arith), λ w l k. refl)

pub store_step : (rows₀ rows : List ℕ) (p : ℕ → ℕ) (s i v : ℕ) → s < most_signals → i < row_words → Stored rows₀ rows p s i → v ≡ p i
    → Stored rows₀ (set rows (row_words * s + i) v) p s (i + 1)
store_step rows₀ rows p s i v hs hi c ev = (
  simp length-set c.0,
  λ w h. done w h (ℕ_discrete w i),
  λ w h l. other_word rows s i v hi w l (λ e. absurd (omega arith)) ∙ c.2 w (omega arith) l,
)
  where
    done : (w : ℕ) → w < i + 1 → Dec (w ≡ i) → words_at (set rows (row_words * s + i) v) w ≡ set (words_at rows₀ w) s (p w)
    done w h (yes e) = rw e (own-word rows s i v hi hs c.0 ∙ ap₂ (λ (l : List ℕ) (x : ℕ). set l s x) (c.2 i (omega arith) hi) ev)
    done w h (no n) = other_word rows s i v hi w (omega arith) n ∙ c.1 w (omega arith)

-- ## The row of a gate

-- all fan-ins of a gate pick its entry
pub row-entry : (t : ℕ) (ks fs rows l : List ℕ) (k g count : ℕ) → GateOk ks fs g most_signals → k ≡ get_or ks g 0 → LutRow t rows (first_fanins fs k g) count l
    → (length l ≡ row_words) × ((ts : List ℕ) (w b : ℕ) → w < count → b < 64 → bit (get_or l w 0) b ≡ bit t (entry (column (words_at rows w) b) (gate_at ks fs ts g)))
unfolding first_fanins
row-entry t ks fs rows l k g count ok e row = (row.long, λ ts w b hw hb. row.each w b hw hb ∙ ap (bit t) (picked ts w b))
  where
    picked : (ts : List ℕ) (w b : ℕ) → number (map (λ s. value_at rows s w b) (first_fanins fs k g)) ≡ entry (column (words_at rows w) b) (gate_at ks fs ts g)
    picked ts w b =
        ap (λ (k : ℕ). number (map (λ s. value_at rows s w b) (first_fanins fs k g))) e
        ∙ ap number (map-places (λ s. value_at rows s w b) (get_or ks g 0) (λ r. get_or fs (gate_places * g + r) 0))
        ∙ table-ext (get_or ks g 0) (λ r. value_at rows (get_or fs (gate_places * g + r) 0) w b) (λ r. get_or (column (words_at rows w) b) (get_or fs (gate_places * g + r) 0) false)
        (λ r h. sym (column-at (words_at rows w) b (get_or fs (gate_places * g + r) 0) ∙ ap (λ (x : ℕ). bit x b) (words-at rows w (get_or fs (gate_places * g + r) 0) (ok.early r h))))
        ∙ sym (entry-at ks fs ts (column (words_at rows w) b) g)
