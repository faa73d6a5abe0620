-- What rows of words say of the compatible sets: the parts that rule 5 is put together from. Assumes nothing.
use Rattle.std.specs.Prelude.{◌≡◌, Bool, ◌&&◌, ◌||◌, List, ℕ, zero, suc, ◌+◌, ◌*◌, ◌<◌, eqb, get_or}
use Rattle.bits.specs.Bounds.{row_words, gate_places}
use Rattle.bits.specs.Range.{◌⇒◌, every, count}
use Rattle.bits.specs.Bit.{bit, column}
use Rattle.bits.specs.Cut.{word_count, Framed}
use Rattle.network.specs.declared.Session.{Session}
use Rattle.network.specs.Bounds.{most_signals}
use Rattle.network.specs.Net.{Net, entry}
use Rattle.network.specs.Compatible.{compatible_from, compatible}
use Rattle.network.specs.Flat.{gate_at, gates_of, loaded_net, word_of}
use Rattle.simulate.specs.Simulated.{words_at, Rows}

-- what the first p outputs leave of the set of signal s: e tells whether the pattern is excluded
unfoldable pub outputs_leave : (outs : List ℕ) (p : ℕ) (e : Bool) (s : ℕ) → Bool
outputs_leave outs p e s = every p (λ i. eqb (get_or outs i 0) s ⇒ e)

-- the edge set of fan-in r of gate g, where it is the signal s, at bit b: the gate's own word is h, and its fan-ins give the entry e
abbrev pub edge : (fs es : List ℕ) (g h b e s r : ℕ) → Bool
edge fs es g h b e s r = eqb (get_or fs (gate_places * g + r) 0) s ⇒ (bit h b || bit (get_or es (gate_places * g + r) 0) e)

-- gate g has been passed: the sets `new` are the sets hs with the edge sets of its fan-ins taken in, at each of the first `count` words
abbrev pub Passed : (ks fs es rows own hs new : List ℕ) (count g : ℕ) → Type 0
Passed ks fs es rows own hs new count g =
    (ts : List ℕ) (w b s : ℕ) → w < count → b < 64
    → bit (get_or (words_at new w) s 0) b
    ≡ (bit (get_or (words_at hs w) s 0) b && every (get_or ks g 0) (edge fs es g (get_or own w 0) b (entry (column (words_at rows w) b) (gate_at ks fs ts g)) s))

-- rule 5 of all signals at each of the first `count` words: what the outputs leave of a signal's set and its edge sets, intersected
abbrev pub Intersected : (ks fs ts ex outs rows hs : List ℕ) (n m p count : ℕ) → Type 0
Intersected ks fs ts ex outs rows hs n m p count =
    (w b s : ℕ) → w < count → b < 64 → s < most_signals
    → bit (get_or (words_at hs w) s 0) b
    ≡ compatible_from (outputs_leave outs p (bit (get_or ex w 0) b)) (column (words_at rows w) b) n (gates_of ks fs ts m) s

-- the first `len` words of the compatible sets of the first c signals of N
abbrev pub SetRows : (N : Net) (hs : List ℕ) (c len : ℕ) → Type 0
SetRows N hs c len = (w : ℕ) → w < len → (b : ℕ) → b < 64 → (s : ℕ) → s < c → bit (get_or (words_at hs w) s 0) b ≡ compatible N s (w * 64 + b)

-- of a session's loaded network, where the patterns of its inputs take `count` words, of which the places of `live` are patterns:
-- the rows of the compatible sets
pub record LoadedSets (s : Session) (hs : List ℕ) (count live : ℕ) : Type 0 where
  pub frame : Framed s.n count live
  pub rows : SetRows (loaded_net s) hs (s.n + s.m) count

-- and those of the values
pub record LoadedRows (s : Session) (rows hs : List ℕ) (count live : ℕ) : Type 0 where
  pub values : Rows s.arity s.fanins s.loaded rows s.n s.m count
  pub sets : LoadedSets s hs count live

-- word w of the compatible set of gate g of the loaded network at place row_words g + w
abbrev pub SetWords : (s : Session) (l : List ℕ) → Type 0
SetWords s l = (g w : ℕ) → g < s.m → w < word_count s.n → get_or l (row_words * g + w) 0 ≡ word_of s.n (compatible (loaded_net s) (s.n + g)) w

-- the ones of w words from place at on
unfoldable pub ones_in : (ws : List ℕ) (at w : ℕ) → ℕ
ones_in ws at zero = 0
ones_in ws at (suc w) = ones_in ws at w + count 64 (bit (get_or ws (at + w) 0))
