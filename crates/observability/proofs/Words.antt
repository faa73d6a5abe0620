-- The words of the patterns and of the ODC. Assumes nothing.
use mathlib.Core.Path.{◌≡◌, sym, ap, ap₂, ◌∙◌, subst}
use mathlib.Core.Bool.{Bool, not, ◌&&◌}
use mathlib.Core.List.{List}
use Prim.Native.Nat.{ℕ, ◌+◌, ◌*◌, ◌^◌, ◌≤◌, ◌<◌}
use native.Mathlib.Decide.{ℕ_discrete}
use native.Mathlib.Omega.{arith}
use lib.Dec.{ltb}
use lib.ListN.{length, get_or, set, length-set}
use lib.Seq.{get_or-set_same, get_or-set_other}
use Rattle.bits.specs.Bounds.{row_words}
use Rattle.bits.specs.Bit.{bit, table_of}
use Rattle.bits.specs.Cut.{Framed}
use Rattle.bits.proofs.Ranges.{table-ext}
use Rattle.bits.proofs.Cuts.{live_at}
use Rattle.bits.proofs.Logic.{not-not}
use Rattle.network.specs.Bounds.{gate_words}
use Rattle.network.specs.Net.{Net}
use Rattle.network.specs.DontCares.{odc}
use Rattle.network.specs.Flat.{word_of}
use Rattle.observability.specs.Odc.{OdcAt}

module _ {n count live : ℕ} (f : Framed n count live) where
  -- a word of a set, from the places that are not in it
  pub set_word : (p : ℕ → Bool) (w x seen : ℕ) → w < count → ((b : ℕ) → b < 64 → bit seen b ≡ not (p (w * 64 + b)))
      → x ≡ table_of 64 (λ b. bit live b && not (bit seen b)) → x ≡ word_of n p w
  unfolding word_of
  set_word p w x seen hw h e =
      e ∙ table-ext 64 (λ b. bit live b && not (bit seen b)) (λ b. ltb (w * 64 + b) (2 ^ n) && p (w * 64 + b))
      (λ b hb. ap₂ (λ (c d : Bool). c && d) (live_at f w b hw hb) (ap not (h b hb) ∙ not-not (p (w * 64 + b))))

  -- words that are left as they are
  still : (N : Net) (old new : List ℕ) (g : ℕ) → ((q : ℕ) → q < row_words * g → get_or new q 0 ≡ get_or old q 0) → (h : ℕ) → h < g → OdcAt N old n h count → OdcAt N new n h count
  unfolding OdcAt
  still N old new g same h l before w hw = same (row_words * h + w) (omega (arith, f.cut.words)) ∙ before w hw

  -- the words of gate g's ODC, and of the gates before it
  module _ (N : Net) (old new seen : List ℕ) (g : ℕ)
      (stored : (w : ℕ) → w < count → get_or new (row_words * g + w) 0 ≡ table_of 64 (λ b. bit live b && not (bit (get_or seen w 0) b)))
      (sees : (w b : ℕ) → w < count → b < 64 → bit (get_or seen w 0) b ≡ not (odc N (n + g) (w * 64 + b))) where
    odc-own : OdcAt N new n g count
    unfolding OdcAt
    odc-own w hw = set_word (odc N (n + g)) w (get_or new (row_words * g + w) 0) (get_or seen w 0) hw (λ b hb. sees w b hw hb) (stored w hw)

    pub odc-more : (a : ℕ) → ((q : ℕ) → q < row_words * g → get_or new q 0 ≡ get_or old q 0) → ((h : ℕ) → a ≤ h → h < g → OdcAt N old n h count)
        → (h : ℕ) → a ≤ h → h < g + 1 → OdcAt N new n h count
    odc-more a same before h f l = go (ℕ_discrete h g)
      where
        go : Dec (h ≡ g) → OdcAt N new n h count
        go (yes e) = subst (λ (i : ℕ). OdcAt N new n i count) (sym e) odc-own
        go (no d) = still N old new g same h (omega arith) (before h f (omega arith))

-- ## The row of a gate in an array

-- the first i words of row g are those of f, and those before it are as they were
abbrev pub RowFilled : (f : ℕ → ℕ) (l₀ l : List ℕ) (g i : ℕ) → Type 0
RowFilled f l₀ l g i =
    (length l ≡ gate_words) × ((w : ℕ) → w < i → get_or l (row_words * g + w) 0 ≡ f w) × ((q : ℕ) → q < row_words * g → get_or l q 0 ≡ get_or l₀ q 0)

pub row-filled-step : (f : ℕ → ℕ) (l₀ l : List ℕ) (g i v : ℕ) → row_words * g + i < gate_words → RowFilled f l₀ l g i → v ≡ f i → RowFilled f l₀ (set l (row_words * g + i) v) g (i + 1)
row-filled-step f l₀ l g i v h c e = (
  simp length-set c.0,
  λ w lw. done w lw (ℕ_discrete w i),
  λ q lq. get_or-set_other l (row_words * g + i) q v 0 (λ s. absurd (omega arith)) ∙ c.2 q lq,
)
  where
    done : (w : ℕ) → w < i + 1 → Dec (w ≡ i) → get_or (set l (row_words * g + i) v) (row_words * g + w) 0 ≡ f w
    done w lw (yes s) = rw s (get_or-set_same l (row_words * g + i) v 0 (omega (arith, c.0)) ∙ e)
    done w lw (no n) = get_or-set_other l (row_words * g + i) (row_words * g + w) v 0 (λ s. n (omega arith)) ∙ c.1 w (omega arith)
