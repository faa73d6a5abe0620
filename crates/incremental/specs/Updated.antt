-- Rows of values under other tables, from rows that are there. Assumes nothing.
use Rattle.std.specs.Prelude.{◌≡◌, true, false, List, ℕ, ◌+◌, ◌*◌, ◌≤◌, ◌<◌, length, get_or}
use Rattle.bits.specs.Bounds.{gate_places}
use Rattle.bits.specs.Bit.{bit}
use Rattle.network.specs.Bounds.{signal_words}
use Rattle.simulate.specs.Simulated.{words_at, Rows}

-- the mask of each of the first m gates has a one at each of its fan-ins
abbrev pub Masked : (ks fs masks : List ℕ) (m : ℕ) → Type 0
Masked ks fs masks m = (g : ℕ) → g < m → (r : ℕ) → r < get_or ks g 0 → bit (get_or masks g 0) (get_or fs (gate_places * g + r) 0) ≡ true

-- the first h gates are done: `rows` has their values under the tables ts, and all signals but those of `changed` have the words of `old`
pub record Updated (ks fs ts old rows : List ℕ) (n count h changed : ℕ) : Type 0 where
  pub long : length rows ≡ signal_words
  pub done : Rows ks fs ts rows n h count
  pub kept : (w s : ℕ) → w < count → bit changed s ≡ false → get_or (words_at rows w) s 0 ≡ get_or (words_at old w) s 0
  pub later : (s : ℕ) → n + h ≤ s → bit changed s ≡ false

-- gate h is done too, and r has what changed: of any rows `old` under the tables `before`, where `rows` was done up to gate h, `new` is done up to the next
abbrev pub Stepped : (ks fs before ts masks rows new : List ℕ) (n count h changed r : ℕ) → Type 0
Stepped ks fs before ts masks rows new n count h changed r =
    (old : List ℕ) (m : ℕ) → h < m → Rows ks fs before old n m count → Masked ks fs masks m
    → Updated ks fs ts old rows n count h changed → Updated ks fs ts old new n count (h + 1) r

-- some rows under the tables us are done up to gate h
pub record Begun (ks fs us ts rows : List ℕ) (n m count h changed : ℕ) : Type 0 where
  pub old : List ℕ
  pub sim : Rows ks fs us old n m count
  pub so_far : Updated ks fs ts old rows n count h changed
