-- `replacements::pair_test` meets its contract. Assumes nothing.
use mathlib.Core.Path.{◌≡◌, refl, sym, ◌∙◌}
use mathlib.Core.Bool.{Bool, true, false, not, ◌&&◌}
use mathlib.Core.List.{List}
use Prim.Native.Nat.{ℕ, ◌+◌, ◌-◌, ◌^◌}
use borrow.Author.Rules.{rules}
use lib.Dec.{leb, ltb}
use lib.ListN.{get_or}
use Rattle.std.specs.Prelude.{Ok, Err}
use Rattle.std.specs.Result.{MatchResult, IsErrAnd}
use Rattle.network.specs.Answer.{Answer, Done}
use Rattle.network.specs.declared.Refusal.{Refusal}
use Rattle.network.specs.declared.Refusal.TheVariants.{NotAGate, TableTooWide, GateRepeated, BitPastEnd}
use Rattle.network.specs.Tests.{refuse_if, or_else, width_test}
use Rattle.network.proofs.TestLaws.{refused-done, kept, handed-on}
use Rattle.replacements.specs.Pair.{pair_by}
use Rattle.replacements.proofs.pair_test.Goals as goal

module _ (n m : ℕ) (ks : List ℕ) (again : Bool) (g t : ℕ) where
  no-gate : (leb n g && ltb g (n + m)) ≡ false → Err NotAGate ≡ pair_by n m ks again g t
  unfolding pair_by
  no-gate h = rw h

  named : (leb n g && ltb g (n + m)) ≡ true → again ≡ true → Err GateRepeated ≡ pair_by n m ks again g t
  unfolding pair_by
  named h e = rw (h, e)

  wide : (leb n g && ltb g (n + m)) ≡ true → again ≡ false → {f : Refusal} → width_test (2 ^ get_or ks (g - n) 0) t ≡ Err f
      → Err TableTooWide ≡ pair_by n m ks again g t
  unfolding pair_by
  wide h e w = rw (h, e) (go (ltb t (2 ^ (2 ^ get_or ks (g - n) 0))) w)
    where
      go : (b : Bool) {f : Refusal} → refuse_if (not b) BitPastEnd ≡ Err f → Err TableTooWide ≡ or_else (refuse_if (not b) TableTooWide) Done
      go true w = refused-done _ (sym w)
      go false w = refl

  fine : (leb n g && ltb g (n + m)) ≡ true → again ≡ false → width_test (2 ^ get_or ks (g - n) 0) t ≡ Done → Done ≡ pair_by n m ks again g t
  unfolding pair_by
  fine h e w = rw (h, e, kept (ltb t (2 ^ (2 ^ get_or ks (g - n) 0))) BitPastEnd w)

  told : (leb n g && ltb g (n + m)) ≡ true → again ≡ false → (v r : Answer) → v ≡ width_test (2 ^ get_or ks (g - n) 0) t
      → MatchResult v (λ x. r ≡ Ok x) (λ f. IsErrAnd r (λ d. d ≡ TableTooWide)) → r ≡ pair_by n m ks again g t
  told h e (Ok _) r w q = q ∙ fine h e (sym w)
  told h e (Err f) r w q = handed-on q (wide h e (sym w))

pub returns-then-not-is_gate : goal.returns-then-not-is_gate
returns-then-not-is_gate c = no-gate _ _ _ _ _ _ (sym c.is_gate.ensures ∙ c.if-not-is_gate.true)

pub returns-then-bit_of : goal.returns-then-bit_of
returns-then-bit_of c =
    named _ _ _ _ _ _ (sym c.is_gate.ensures ∙ c.if-not-is_gate.false) (sym c.bit_of.ensures ∙ c.if-bit_of.true)

pub returns : goal.returns
returns c =
    let h : MatchResult c.table_test.result (λ x. c.map_err.result ≡ Ok x) (λ e. IsErrAnd c.map_err.result (λ r. r ≡ TableTooWide)) = search rules in
    told _ _ _ _ _ _ (sym c.is_gate.ensures ∙ c.if-not-is_gate.false) (sym c.bit_of.ensures ∙ c.if-bit_of.false) _ _ c.table_test.ensures h
