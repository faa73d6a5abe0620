-- `entries::tested` meets its contract. Assumes nothing.
use mathlib.Core.Path.{ap, ◌∙◌}
use mathlib.Core.Bool.{Bool, true, false, ◌&&◌, ◌||◌}
use Prim.Native.Nat.{ℕ, ◌-◌}
use native.Mathlib.Omega.{arith}
use lib.Bits.{and_le_r}
use Rattle.bits.specs.Bit.{bit}
use Rattle.bits.proofs.BitLaws.{bit-zero}
use Rattle.entries.specs.By.{shares}
use Rattle.entries.proofs.Parts.{shares-by, none_left, turn, with-own, without}
use Rattle.entries.proofs.tested.Goals as goal
use Rattle.entries.proofs.tested.Goals.{then-any_bit, else-any_bit}

pub loop-left-init : goal.loop-left-init
loop-left-init c t =
    let a = c.args in
    ap (λ (x : Bool). x || (bit a.given t && shares a.low.now a.high.now t)) (bit-zero t)

pub loop-left-smaller : goal.loop-left-smaller
loop-left-smaller c =
    let left = c.loop-left.left in
    omega (arith, and_le_r left (left - 1))

pub loop-left-preserved : goal.loop-left-preserved
loop-left-preserved c =
    let a = c.args in
    let t = c.lowest_bit-t.result in
    let found = c.loop-left.found in
    let low = a.low.now in
    let high = a.high.now in
    let test : ℕ → Bool = shares low high in
    turn c.loop-left.left t c.lowest_bit-t.ensures.1 c.lowest_bit-t.ensures.2 test found c.if-any_bit.found (λ i. bit a.given i && test i)
    (elim c.if-any_bit.branch [
      | then-any_bit w ↦ λ i. ap (λ (x : ℕ). bit x i) w.found-is ∙ with-own found t test w.power-found.result w.power-found.ensures (shares-by low high t c.any_bit.result true c.any_bit.ensures w.if-any_bit.true) i
      | else-any_bit w ↦ λ i. ap (λ (x : ℕ). bit x i) w.found-is ∙ without found t test (shares-by low high t c.any_bit.result false c.any_bit.ensures w.if-any_bit.false) i
    ])
    c.loop-left.invariant

pub returns : goal.returns
returns c t =
    let a = c.args in
    none_left c.loop-left.found c.loop-left.left t (shares a.low.now a.high.now t) (omega arith) ∙ c.loop-left.invariant t
