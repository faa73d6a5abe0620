-- The laws of `table_by`. Assumes nothing.
use mathlib.Core.Path.{◌≡◌, sym, ap, ap₂, ◌∙◌, subst}
use mathlib.Core.Bool.{Bool, not, ◌&&◌}
use Prim.Native.Nat.{ℕ, ◌+◌, ◌-◌, ◌*◌, ◌^◌, ◌<◌}
use native.Mathlib.Numerals.{add-one}
use lib.Dec.{ltb}
use lib.Bits.{bit_or}
use Rattle.bits.specs.Range.{any}
use Rattle.bits.specs.Bit.{bit, table_of}
use Rattle.bits.specs.Cut.{Framed}
use Rattle.bits.proofs.Ranges.{any-ext, table-ext, table-lt}
use Rattle.bits.proofs.Cuts.{any-cut, table-or, table_none, table-not}
use Rattle.entries.specs.By.{table_by}

module _ (K live : ℕ) (q : ℕ → ℕ → Bool) where
  pub by-none : 0 ≡ table_by K live 0 q
  by-none = table_none K

  pub by-lt : (w x : ℕ) → x ≡ table_by K live w q → x < 2 ^ K
  by-lt w x e = subst (λ (y : ℕ). y < 2 ^ K) (sym e) (table-lt K (λ t. any w (λ v. any 64 (λ b. bit live b && q t (v * 64 + b)))))

  -- one word more, joined by OR
  pub by-more : (w acc r : ℕ) (p : ℕ → ℕ → Bool) → acc ≡ table_by K live w q → r ≡ table_of K (λ t. any 64 (p t))
      → ((t : ℕ) → t < K → (b : ℕ) → b < 64 → p t b ≡ (bit live b && q t (w * 64 + b)))
      → bit_or acc r ≡ table_by K live (w + 1) q
  by-more w acc r p ea er f =
      ap₂ bit_or ea (er ∙ table-ext K (λ t. any 64 (p t)) (λ t. any 64 (λ b. bit live b && q t (w * 64 + b))) (λ t ht. any-ext 64 (p t) (λ b. bit live b && q t (w * 64 + b)) (f t ht)))
      ∙ table-or K (λ t. any w (λ v. any 64 (λ b. bit live b && q t (v * 64 + b)))) (λ t. any 64 (λ b. bit live b && q t (w * 64 + b)))
      ∙ ap (λ (k : ℕ). table_by K live k q) (sym (add-one w))

  -- the entries that no pattern marks
  pub by-rest : {n W : ℕ} → Framed n W live → (x : ℕ) → x ≡ table_by K live W q → 2 ^ K - 1 - x ≡ table_of K (λ t. not (any (2 ^ n) (q t)))
  by-rest {n} {W} f x e =
      ap (λ (y : ℕ). 2 ^ K - 1 - y) e
      ∙ table-not K (λ t. any W (λ v. any 64 (λ b. bit live b && q t (v * 64 + b))))
      ∙ table-ext K (λ t. not (any W (λ v. any 64 (λ b. bit live b && q t (v * 64 + b))))) (λ t. not (any (2 ^ n) (q t)))
      (λ t h. ap not (any-ext W (λ v. any 64 (λ b. bit live b && q t (v * 64 + b))) (λ v. any 64 (λ b. ltb b f.size && q t (v * 64 + b)))
      (λ v hv. any-ext 64 (λ b. bit live b && q t (v * 64 + b)) (λ b. ltb b f.size && q t (v * 64 + b)) (λ b hb. ap (λ (u : Bool). u && q t (v * 64 + b)) (f.lives b)))
      ∙ any-cut f.cut (q t)))
