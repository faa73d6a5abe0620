-- The lowest closed entry that a table alters, off one word. Assumes nothing.
use mathlib.Core.Path.{◌≡◌, refl, sym, ap, ap₂, ◌∙◌}
use mathlib.Core.Bool.{Bool, true, false, not, ◌&&◌}
use Prim.Native.Nat.{ℕ, ◌≤◌, ◌<◌}
use native.Mathlib.Decide.{dec_lt}
use native.Mathlib.Omega.{arith}
use lib.Dec.{ltb}
use lib.Bits.{bit_and, bit_xor}
use borrow.Author.Tests.{lt-ltb, le-ltb}
use Rattle.std.specs.Prelude.{Some, None}
use Rattle.bits.specs.Range.{smallest}
use Rattle.bits.specs.Bit.{bit, differs}
use Rattle.bits.proofs.BitLaws.{bit-and, bit-xor, bit-zero}
use Rattle.bits.proofs.Ranges.{and_r}
use Rattle.bits.proofs.Logic.{clash}
use Rattle.bits.proofs.Search.{smallest-eq}
use Rattle.std.specs.Prelude.{Err}
use Rattle.network.specs.Answer.{Done}
use Rattle.network.specs.declared.Refusal.TheVariants.{ClosedEntry}
use Rattle.network.specs.Calls.{entry_found}

and-swap : (a b : Bool) → a && (b && true) ≡ b && a
and-swap true true = refl
and-swap true false = refl
and-swap false true = refl
and-swap false false = refl

module _ (E opens loaded table others mask : ℕ) (room : E ≤ 64) (inverted : (i : ℕ) → i < 64 → bit others i ≡ not (bit opens i)) (masked : (i : ℕ) → bit mask i ≡ ltb i E) where
  abbrev altered : ℕ
  altered = bit_and (bit_xor loaded table) (bit_and others mask)

  abbrev shut : ℕ → Bool
  shut t = not (bit opens t) && differs (bit loaded t) (bit table t)

  altered-bit : (t : ℕ) → bit altered t ≡ differs (bit loaded t) (bit table t) && (bit others t && ltb t E)
  altered-bit t =
      bit-and (bit_xor loaded table) (bit_and others mask) t
      ∙ ap₂ (λ (x y : Bool). x && y) (bit-xor loaded table t) (bit-and others mask t ∙ ap (λ (x : Bool). bit others t && x) (masked t))

  altered-at : (t : ℕ) → t < E → bit altered t ≡ shut t
  altered-at t h =
      altered-bit t
      ∙ ap₂ (λ (x y : Bool). differs (bit loaded t) (bit table t) && (x && y)) (inverted t (omega arith)) (lt-ltb t E h)
      ∙ and-swap (differs (bit loaded t) (bit table t)) (not (bit opens t))

  -- a bit that is set is that of an entry
  inside : (t : ℕ) → bit altered t ≡ true → t < E
  inside t e = go (dec_lt t E)
    where
      go : Dec (t < E) → t < E
      go (yes h) = h
      go (no n) = clash (and_r (bit others t) (ltb t E) (and_r (differs (bit loaded t) (bit table t)) (bit others t && ltb t E) (sym (altered-bit t) ∙ e))) (le-ltb t E (omega arith))

  pub none-closed : altered ≡ 0 → Done ≡ entry_found (smallest E shut)
  none-closed z = sym (ap entry_found (smallest-eq E shut None (λ i h. sym (altered-at i h) ∙ ap (λ (x : ℕ). bit x i) z ∙ bit-zero i)))

  pub lowest-closed : (t : ℕ) → bit altered t ≡ true → ((i : ℕ) → i < t → bit altered i ≡ false) → Err (ClosedEntry t) ≡ entry_found (smallest E shut)
  lowest-closed t e below =
      let h = inside t e in
      sym (ap entry_found (smallest-eq E shut (Some t) (h, sym (altered-at t h) ∙ e, λ i l. sym (altered-at i (omega arith)) ∙ below i l)))
