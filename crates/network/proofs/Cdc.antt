-- The CDC of any gate of any network: which entries are in it, that they are entries of the full table, and that it is 01's rule 2 where
-- no pattern is excluded. Assumes nothing.
use mathlib.Core.Path.{◌≡◌, sym, ap, ◌∙◌}
use mathlib.Core.Logic.{◌≢◌}
use mathlib.Core.Bool.{Bool, true, false, not, ◌&&◌, ◌||◌}
use Prim.Native.Nat.{ℕ, ◌<◌}
use native.Mathlib.Decide.{dec_lt}
use native.Mathlib.Omega.{arith}
use lib.Dec.{eqb}
use borrow.Author.Tests.{eqb-true, eq-eqb, not-true}
use Rattle.bits.specs.Range.{any}
use Rattle.bits.specs.Bit.{bit, table_of}
use Rattle.bits.proofs.BitLaws.{bit-above}
use Rattle.bits.proofs.Ranges.{and_l, and_r, and_i, by_cases, every-i, any-i, any-e, any-ext, bit-table, table-lt, table-ext}
use Rattle.bits.proofs.Logic.{clash, imp-i}
use Rattle.network.specs.Net.{Net, entries, patterns, excluded, occurs, entry_of}
use Rattle.network.specs.DontCares.{cdc, NeverGiven, odc, full}

module _ (N : Net) (s : ℕ) where
  -- the pattern x comes and gives entry t
  abbrev gives : ℕ → ℕ → Bool
  gives t x = not (excluded N x) && eqb (entry_of N s x) t

  cdc-bit : (t : ℕ) → t < entries N s → bit (cdc N s) t ≡ not (any (patterns N) (gives t))
  unfolding cdc occurs
  cdc-bit t h = bit-table (entries N s) _ t h

  -- of an entry of the CDC, each pattern that gives it is excluded
  only-excluded : (t : ℕ) → t < entries N s → bit (cdc N s) t ≡ true → (x : ℕ) → x < patterns N → entry_of N s x ≡ t → excluded N x ≡ true
  only-excluded t h e x l same =
      by_cases (excluded N x) (λ k. k)
      (λ free. clash (any-i (patterns N) (gives t) x l (and_i _ _ (ap not free) (eq-eqb _ _ same))) (not-true _ (sym (cdc-bit t h) ∙ e)))

  none-gives : (t : ℕ) → ((x : ℕ) → x < patterns N → excluded N x ≡ false → entry_of N s x ≢ t) → any (patterns N) (gives t) ≡ false
  none-gives t none =
      by_cases (any (patterns N) (gives t))
      (λ e. let (x, l, g) = any-e (patterns N) (gives t) e in
      absurd (none x l (not-true _ (and_l _ (eqb (entry_of N s x) t) g)) (eqb-true _ _ (and_r (not (excluded N x)) _ g))))
      (λ e. e)

  pub cdc-exact : NeverGiven N s (cdc N s)
  cdc-exact t h = (λ e x l free same. clash (only-excluded t h e x l same) free, λ none. cdc-bit t h ∙ ap not (none-gives t none))

  pub cdc-full : (t : ℕ) → bit (cdc N s) t ≡ true → bit (full N s) t ≡ true
  unfolding cdc full
  cdc-full t e = go (dec_lt t (entries N s))
    where
      go : Dec (t < entries N s) → bit (full N s) t ≡ true
      go (yes h) =
          bit-table (entries N s) _ t h
          ∙ every-i (patterns N) _ (λ x l. imp-i _ _ (λ same. ap (λ (b : Bool). b || odc N s x) (only-excluded t h e x l (eqb-true _ _ same))))
      go (no n) = clash e (bit-above (cdc N s) (entries N s) t (table-lt (entries N s) _) (omega arith))

  pub cdc-plain : ((x : ℕ) → x < patterns N → excluded N x ≡ false) → cdc N s ≡ table_of (entries N s) (λ t. not (any (patterns N) (λ x. eqb (entry_of N s x) t)))
  unfolding cdc occurs
  cdc-plain none =
      table-ext (entries N s) _ _ (λ t h. ap not (any-ext (patterns N) (gives t) _ (λ x l. ap (λ (b : Bool). not b && eqb (entry_of N s x) t) (none x l))))
