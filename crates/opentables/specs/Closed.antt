-- What rows of words say of the closed entries: the parts that rule 7 is put together from. Assumes nothing.
use Rattle.std.specs.Prelude.{Bool, not, ◌&&◌, List, ℕ, ◌+◌, ◌-◌, ◌*◌, ◌/◌, ◌%◌, ◌^◌, get_or}
use Rattle.bits.specs.Bounds.{gate_places}
use Rattle.bits.specs.Range.{any}
use Rattle.bits.specs.Bit.{bit, table_of}
use Rattle.network.specs.Compatible.{agree}
use Rattle.entries.specs.By.{table_by}
use Rattle.simulate.specs.Simulated.{words_at}

-- place b of a word, outside gate g's own set, delivers the entry t to it: ws the values, hs the compatible sets
abbrev pub closes : (ks fs ws hs : List ℕ) (n g t b : ℕ) → Bool
closes ks fs ws hs n g t b =
    let k = get_or ks g 0 in
    not (bit (get_or hs (n + g) 0) b)
    && agree k (table_of k (λ r. bit (get_or hs (get_or fs (gate_places * g + r) 0) 0) b)) (table_of k (λ r. bit (get_or ws (get_or fs (gate_places * g + r) 0) 0) b)) t

-- the entries of gate g that some place of live closes in the word
unfoldable pub closed_in : (ks fs ws hs : List ℕ) (n live g : ℕ) → ℕ
closed_in ks fs ws hs n live g = table_of (2 ^ get_or ks g 0) (λ t. any 64 (λ b. bit live b && closes ks fs ws hs n g t b))

-- the place of the pattern x in the rows does
abbrev pub closes_at : (ks fs rows hs : List ℕ) (n g t x : ℕ) → Bool
closes_at ks fs rows hs n g t x = closes ks fs (words_at rows (x / 64)) (words_at hs (x / 64)) n g t (x % 64)

-- the entries of gate g that some live place of the first w words closes
unfoldable pub closed_by : (ks fs rows hs : List ℕ) (n live w g : ℕ) → ℕ
closed_by ks fs rows hs n live w g = table_by (2 ^ get_or ks g 0) live w (closes_at ks fs rows hs n g)

-- the entries of gate g that none does
unfoldable pub open_by : (ks fs rows hs : List ℕ) (n live w g : ℕ) → ℕ
open_by ks fs rows hs n live w g = 2 ^ 2 ^ get_or ks g 0 - 1 - closed_by ks fs rows hs n live w g
