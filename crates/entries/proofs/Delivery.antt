-- The entries whose minterm word has a place of keep, by rule 7's test, by equality where no fan-in is free, and by halves. Assumes nothing.
use mathlib.Core.Path.{◌≡◌, sym, ap, ap₂, ◌∙◌, subst}
use mathlib.Core.Bool.{Bool, not, ◌&&◌, ◌||◌, beq}
use mathlib.Core.List.{List}
use Prim.Native.Nat.{ℕ, ◌+◌, ◌*◌, ◌%◌, ◌^◌, ◌<◌, ◌≤◌}
use native.Mathlib.Nat.{mul_comm, lt_of_lt_of_le}
use native.Mathlib.Omega.{arith}
use native.Mathlib.Numerals.{add-one}
use lib.Bits.{bit_and, bit_or}
use lib.Pow.{shl_exact, pow_mono}
use lib.Dec.{eqb}
use lib.ListN.{get_or}
use Rattle.bits.specs.Bounds.{gate_places}
use Rattle.bits.specs.Range.{any}
use Rattle.bits.specs.Bit.{bit, table_of, entry_at, gives}
use Rattle.bits.proofs.BitLaws.{bit-zero}
use Rattle.bits.proofs.Ranges.{every-ext, any-ext, table-ext, table-lt, bit-table, entries-most}
use Rattle.bits.proofs.MintermLaws.{minterm-at, lower-half, upper-half}
use Rattle.network.specs.Compatible.{agree}
use Rattle.entries.specs.By.{delivered_by}
use Rattle.entries.proofs.Halves.{table-append, doubled}

module _ (k : ℕ) (ins frees : List ℕ) (keep : ℕ) where
  -- the minterm words by another test
  tested : (q : ℕ → ℕ → Bool) → ((t : ℕ) → t < 2 ^ k → (b : ℕ) → gives k ins frees t b ≡ q t b) → delivered_by k ins frees keep ≡ table_of (2 ^ k) (λ t. any 64 (λ b. bit keep b && q t b))
  unfolding delivered_by
  tested q same =
      table-ext (2 ^ k) (λ t. any 64 (λ b. bit keep b && gives k ins frees t b)) (λ t. any 64 (λ b. bit keep b && q t b))
      (λ t h. any-ext 64 (λ b. bit keep b && gives k ins frees t b) (λ b. bit keep b && q t b) (λ b hb. ap (λ (x : Bool). bit keep b && x) (same t h b)))

  pub by-agreement : delivered_by k ins frees keep ≡ table_of (2 ^ k) (λ t. any 64 (λ b. bit keep b && agree k (entry_at k frees b) (entry_at k ins b) t))
  unfolding agree
  by-agreement =
      tested (λ t b. agree k (entry_at k frees b) (entry_at k ins b) t)
      (λ t ht b. every-ext k (λ i. bit (get_or frees i 0) b || beq (bit (get_or ins i 0) b) (bit t i)) (λ i. bit (entry_at k frees b) i || beq (bit (entry_at k ins b) i) (bit t i))
      (λ i h. ap₂ (λ (p q : Bool). p || beq q (bit t i)) (sym (bit-table k (λ r. bit (get_or frees r 0) b) i h)) (sym (bit-table k (λ r. bit (get_or ins r 0) b) i h))))

  pub by-equality : ((i : ℕ) → i < k → get_or frees i 0 ≡ 0) → delivered_by k ins frees keep ≡ table_of (2 ^ k) (λ t. any 64 (λ b. bit keep b && eqb (entry_at k ins b) t))
  by-equality none =
      tested (λ t b. eqb (entry_at k ins b) t) (λ t h b. minterm-at ins frees t b k h (λ i hi. ap (λ (x : ℕ). bit x b) (none i hi) ∙ bit-zero b))

-- the entries of k + 1 fan-ins from low and high, those of the first k: with the last one 0, and with it 1
pub record Halves (ins frees : List ℕ) (keep k low high : ℕ) : Type 0 where
  pub fits : low + (high * 2 ^ 2 ^ k) % 2 ^ 64 < 2 ^ 64
  pub whole : low + (high * 2 ^ 2 ^ k) % 2 ^ 64 ≡ delivered_by (k + 1) ins frees keep

-- nv has the last fan-in's bits the other way round
module _ (ins frees : List ℕ) (keep k nv low high : ℕ) (few : k < gate_places) (flip : (b : ℕ) → b < 64 → bit nv b ≡ not (bit (get_or ins k 0) b))
    (el : low ≡ delivered_by k ins frees (bit_and keep (bit_or (get_or frees k 0) nv))) (eh : high ≡ delivered_by k ins frees (bit_and keep (bit_or (get_or frees k 0) (get_or ins k 0)))) where
  rule : ℕ → Bool
  rule t = any 64 (λ b. bit keep b && gives (k + 1) ins frees t b)

  twice : 2 ^ k + 2 ^ k ≡ 2 ^ (k + 1)
  twice = doubled k ∙ ap (λ (i : ℕ). 2 ^ i) (sym (add-one k))

  room : 2 ^ (k + 1) ≤ 64
  room = entries-most (k + 1) (omega arith)

  -- each half holds of its places of keep what the whole holds of keep
  half : (x y : ℕ) (q : ℕ → ℕ → Bool) → x ≡ delivered_by k ins frees y → ((t b : ℕ) → t < 2 ^ k → b < 64 → (bit y b && gives k ins frees t b) ≡ q t b) → x ≡ table_of (2 ^ k) (λ t. any 64 (q t))
  unfolding delivered_by
  half x y q e same =
      e ∙ table-ext (2 ^ k) (λ t. any 64 (λ b. bit y b && gives k ins frees t b)) (λ t. any 64 (q t))
      (λ t h. any-ext 64 (λ b. bit y b && gives k ins frees t b) (q t) (λ b hb. same t b h hb))

  side_by_side : low + (high * 2 ^ 2 ^ k) % 2 ^ 64 ≡ delivered_by (k + 1) ins frees keep
  unfolding delivered_by rule
  side_by_side =
      ap (λ (x : ℕ). low + x) (shl_exact (2 ^ k) (2 ^ k) 64 (rw eh (table-lt (2 ^ k) _)) (omega (arith, twice, room)) ∙ mul_comm high (2 ^ 2 ^ k))
      ∙ ap₂ (λ (x y : ℕ). x + 2 ^ 2 ^ k * y)
      (half low _ (λ t b. bit keep b && gives (k + 1) ins frees t b) el (λ t b h hb. lower-half ins frees keep k t b h nv (flip b hb)))
      (half high _ (λ t b. bit keep b && gives (k + 1) ins frees (2 ^ k + t) b) eh (λ t b h hb. upper-half ins frees keep k t b h))
      ∙ table-append (2 ^ k) (2 ^ k) rule
      ∙ ap (λ (i : ℕ). table_of i rule) twice

  pub halves : Halves ins frees keep k low high
  unfolding delivered_by
  halves = record {
    fits = subst (λ (x : ℕ). x < 2 ^ 64) (sym side_by_side) (lt_of_lt_of_le (table-lt (2 ^ (k + 1)) _) (pow_mono {i = 2 ^ (k + 1)} {j = 64} room));
    whole = side_by_side;
  }
