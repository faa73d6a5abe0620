-- Laws of implication, equality and difference of truth values. Assumes nothing.
use mathlib.Core.Path.{◌≡◌, refl, sym, ◌∙◌}
use mathlib.Core.Bool.{Bool, true, false, not, ◌&&◌, beq, false≢true, true≢false}
use Rattle.bits.specs.Range.{◌⇒◌}
use Rattle.bits.specs.Bit.{differs}

pub clash : {P : Type 0} {b : Bool} → b ≡ true → b ≡ false → P
clash p q = absurd (true≢false (sym p ∙ q))

pub not-not : (a : Bool) → not (not a) ≡ a
not-not true = refl
not-not false = refl

pub imp-e : (a b : Bool) → (a ⇒ b) ≡ true → a ≡ true → b ≡ true
imp-e true b e h = e
imp-e false b e h = absurd (false≢true h)

pub imp-i : (a b : Bool) → (a ≡ true → b ≡ true) → (a ⇒ b) ≡ true
imp-i true b f = f refl
imp-i false b f = refl

pub beq-e : (a b : Bool) → beq a b ≡ true → a ≡ b
beq-e true true e = refl
beq-e true false e = absurd (false≢true e)
beq-e false true e = absurd (false≢true e)
beq-e false false e = refl

pub beq-i : (a b : Bool) → a ≡ b → beq a b ≡ true
beq-i true b e = rw (← e)
beq-i false b e = rw (← e)

pub beq-comm : (a b : Bool) → beq a b ≡ beq b a
beq-comm true true = refl
beq-comm true false = refl
beq-comm false true = refl
beq-comm false false = refl

pub beq-true : (a : Bool) → a ≡ beq a true
beq-true true = refl
beq-true false = refl

pub beq-false : (a : Bool) → not a ≡ beq a false
beq-false true = refl
beq-false false = refl

pub differs-e : (a b : Bool) → differs a b ≡ false → a ≡ b
differs-e true true e = refl
differs-e true false e = absurd (true≢false e)
differs-e false b e = sym e

pub differs-i : (a b : Bool) → a ≡ b → differs a b ≡ false
differs-i true b e = rw (← e)
differs-i false b e = rw (← e)

-- one of two tests that do not both hold
pub and-not : (a b : Bool) → (a ≡ true → b ≡ true → ⊥) → (a && b) ≡ false
and-not true true f = absurd (f refl refl)
and-not true false f = refl
and-not false b f = refl
