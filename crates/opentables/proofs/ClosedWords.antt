-- Rule 7 in words, over plain variables: one gate in one word, and word after word. Assumes nothing.
use mathlib.Core.Path.{◌≡◌, refl, sym, ap, ap₂, ◌∙◌}
use mathlib.Core.Bool.{Bool, not, ◌&&◌}
use mathlib.Core.List.{List}
use Prim.Native.Nat.{ℕ, ◌+◌, ◌-◌, ◌*◌, ◌/◌, ◌%◌, ◌^◌, ◌≤◌, ◌<◌}
use native.Mathlib.Omega.{arith}
use lib.Bits.{bit_or}
use lib.ListN.{get_or}
use Rattle.bits.specs.Bounds.{gate_places}
use Rattle.bits.specs.Range.{any}
use Rattle.bits.specs.Bit.{bit, table_of, entry_at}
use Rattle.bits.proofs.Ranges.{and_assoc, any-ext, table-ext}
use Rattle.bits.proofs.Cuts.{all_there}
use Rattle.network.specs.Compatible.{agree}
use Rattle.entries.proofs.By.{by-none, by-lt, by-more}
use Rattle.simulate.specs.Simulated.{words_at}
use Rattle.opentables.specs.Closed.{closes, closed_in, closes_at, closed_by, open_by}

-- ## One gate, one word

pub closed-in-is : (ks fs ws hs ins moved : List ℕ) (n live g k keep found r : ℕ) → k ≡ get_or ks g 0
    → ((r : ℕ) → r < get_or ks g 0 → get_or ins r 0 ≡ get_or ws (get_or fs (gate_places * g + r) 0) 0)
    → ((r : ℕ) → r < get_or ks g 0 → get_or moved r 0 ≡ get_or hs (get_or fs (gate_places * g + r) 0) 0)
    → ((b : ℕ) → b < 64 → bit keep b ≡ (bit live b && not (bit (get_or hs (n + g) 0) b)))
    → r ≡ bit_or found (table_of (2 ^ k) (λ t. any 64 (λ b. bit keep b && agree k (entry_at k moved b) (entry_at k ins b) t))) → r ≡ bit_or found (closed_in ks fs ws hs n live g)
unfolding closed_in
closed-in-is ks fs ws hs ins moved n live g k keep found r ek ei ef kept given =
    given ∙ ap (bit_or found) (ap (λ (k : ℕ). table_of (2 ^ k) (λ t. any 64 (λ b. bit keep b && agree k (entry_at k moved b) (entry_at k ins b) t))) ek
    ∙ table-ext (2 ^ K) (λ t. any 64 (λ b. bit keep b && agree K (entry_at K moved b) (entry_at K ins b) t)) (λ t. any 64 (λ b. bit live b && closes ks fs ws hs n g t b))
    (λ t ht. any-ext 64 (λ b. bit keep b && agree K (entry_at K moved b) (entry_at K ins b) t) (λ b. bit live b && closes ks fs ws hs n g t b)
    (λ b hb. ap₂ (λ (u v : Bool). u && v) (kept b hb) (ap₂ (λ (f e : ℕ). agree K f e t)
    (table-ext K (λ r. bit (get_or moved r 0) b) (λ r. bit (get_or hs (get_or fs (gate_places * g + r) 0) 0) b) (λ r h. ap (λ (w : ℕ). bit w b) (ef r h)))
    (table-ext K (λ r. bit (get_or ins r 0) b) (λ r. bit (get_or ws (get_or fs (gate_places * g + r) 0) 0) b) (λ r h. ap (λ (w : ℕ). bit w b) (ei r h))))
    ∙ and_assoc (bit live b) (not (bit (get_or hs (n + g) 0) b)) (agree K (table_of K (λ r. bit (get_or hs (get_or fs (gate_places * g + r) 0) 0) b)) (table_of K (λ r. bit (get_or ws (get_or fs (gate_places * g + r) 0) 0) b)) t))))
  where
    K : ℕ
    K = get_or ks g 0

-- ## Word after word

module _ (ks fs rows hs : List ℕ) (n live g : ℕ) where
  pub closed-first : 0 ≡ closed_by ks fs rows hs n live 0 g
  unfolding closed_by
  closed-first = by-none (2 ^ get_or ks g 0) live (closes_at ks fs rows hs n g)

  pub closed-step : (w acc next : ℕ) → acc ≡ closed_by ks fs rows hs n live w g → next ≡ bit_or acc (closed_in ks fs (words_at rows w) (words_at hs w) n live g)
      → next ≡ closed_by ks fs rows hs n live (w + 1) g
  unfolding closed_by closed_in
  closed-step w acc next e more =
      more
      ∙ by-more (2 ^ get_or ks g 0) live (closes_at ks fs rows hs n g) w acc (closed_in ks fs (words_at rows w) (words_at hs w) n live g) (λ t b. bit live b && closes ks fs (words_at rows w) (words_at hs w) n g t b) e refl
      (λ t ht b hb.
      let i : (w * 64 + b) / 64 ≡ w = omega arith in
      let j : (w * 64 + b) % 64 ≡ b = omega arith in
      ap₂ (λ (v c : ℕ). bit live b && closes ks fs (words_at rows v) (words_at hs v) n g t c) (sym i) (sym j))

  pub closed_all : (w W acc : ℕ) → w ≤ W → acc ≡ closed_by ks fs rows hs n live w g → acc ≡ 2 ^ 2 ^ get_or ks g 0 - 1 → acc ≡ closed_by ks fs rows hs n live W g
  unfolding closed_by
  closed_all w W acc h e f = all_there (2 ^ get_or ks g 0) (λ t v. any 64 (λ b. bit live b && closes_at ks fs rows hs n g t (v * 64 + b))) w W acc h e f

  pub closed-lt : (W x : ℕ) → x ≡ closed_by ks fs rows hs n live W g → x < 2 ^ 2 ^ get_or ks g 0
  unfolding closed_by
  closed-lt W x e = by-lt (2 ^ get_or ks g 0) live (closes_at ks fs rows hs n g) W x e

  pub open-by-is : (W x : ℕ) → x ≡ closed_by ks fs rows hs n live W g → 2 ^ 2 ^ get_or ks g 0 - 1 - x ≡ open_by ks fs rows hs n live W g
  unfolding open_by
  open-by-is W x e = ap (λ (i : ℕ). 2 ^ 2 ^ get_or ks g 0 - 1 - i) e
