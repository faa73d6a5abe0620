-- Rule 6 of 01 as tables: where a gate frees a fan-in depends on the entry alone. Assumes nothing.
use Rattle.std.specs.Prelude.{◌≡◌, ◌⊎◌, ◌&&◌, List, ℕ, ◌+◌, ◌*◌, ◌^◌, ◌≤◌, ◌<◌, length, get_or}
use Rattle.std.specs.Int.Bits.{bit_xor}
use Rattle.bits.specs.Bounds.{gate_places, small_fanins}
use Rattle.bits.specs.Bit.{bit, choose, table_of}
use Rattle.network.specs.Bounds.{most_fanins, fanin_places}
use Rattle.network.specs.Compatible.{constant, turns}

-- entry t is set where fan-in r is free at entry t, the gate's own value counting
unfoldable pub edge_table : (k table r : ℕ) → ℕ
edge_table k table r = table_of (2 ^ k) (λ t. bit (turns k table t k) r)

-- gate g has its edge tables at places gate_places * g and on
abbrev pub GateEdged : (arity tables edges : List ℕ) (g : ℕ) → Type 0
GateEdged ks ts es g = (r : ℕ) → r < get_or ks g 0 → get_or es (gate_places * g + r) 0 ≡ edge_table (get_or ks g 0) (get_or ts g 0) r

-- the first m gates have them, and of these the small ones
abbrev pub Edged : (arity tables edges : List ℕ) (m : ℕ) → Type 0
Edged ks ts es m = (g : ℕ) → g < m → GateEdged ks ts es g

abbrev pub SmallEdged : (arity tables edges : List ℕ) (m : ℕ) → Type 0
SmallEdged ks ts es m = (g : ℕ) → g < m → get_or ks g 0 ≤ small_fanins → GateEdged ks ts es g

-- the edge tables of a gate put at its places, by so many turns: they are right if it has no more fan-ins; the places of other gates stay
pub record EdgesPut (taken k table at : ℕ) (es es' : List ℕ) : Type 0 where
  pub size : length es' ≡ fanin_places
  pub own : k ≤ taken → (r : ℕ) → r < k → get_or es' (at + r) 0 ≡ edge_table k table r
  pub others : (q : ℕ) → (q < at) ⊎ (at + gate_places ≤ q) → get_or es' q 0 ≡ get_or es q 0

-- ## All entries at once: word f is of the set f of fan-ins, and has a bit for each entry

-- the first n words: where the table, of a gate of any number k of fan-ins, is constant over all values of the fan-ins in f
abbrev pub Constants : (table : ℕ) (words : List ℕ) (n : ℕ) → Type 0
Constants table l n = (k f t : ℕ) → k ≤ most_fanins → f < n → f < 2 ^ k → t < 2 ^ k → bit (get_or l f 0) t ≡ constant k table f t

-- from the words l₀ of the sets below 2 ^ r, those of the first n of these sets with fan-in r:
-- an entry is set where it was set with either value of r, and is set in like
abbrev pub Doubled : (l₀ l : List ℕ) (r like n : ℕ) → Type 0
Doubled l₀ l r like n =
    ((f : ℕ) → f < 2 ^ r → get_or l f 0 ≡ get_or l₀ f 0)
    × ((f : ℕ) → f < n → (t : ℕ) → t < 64 → bit (get_or l (2 ^ r + f) 0) t ≡ ((bit (get_or l₀ f 0) t && bit (get_or l₀ f 0) (bit_xor t (2 ^ r))) && bit like t))

-- of each two words, the first n times, the second where free is set, else the first
abbrev pub Halved : (l₀ l : List ℕ) (free n : ℕ) → Type 0
Halved l₀ l free n = (h : ℕ) → h < n → (t : ℕ) → bit (get_or l h 0) t ≡ choose (bit free t) (bit (get_or l₀ (2 * h + 1) 0) t) (bit (get_or l₀ (2 * h) 0) t)
