-- `bits::broadcast` meets its contract. Assumes nothing.
use mathlib.Core.Path.{sym, ◌∙◌}
use mathlib.Core.Bool.{true, false}
use native.Mathlib.Omega.{arith}
use lib.Bits.{and_mask}
use Rattle.bits.specs.Bit.{bit}
use Rattle.bits.proofs.BitLaws.{bit-ones, bit-zero, low, num-inj}
use Rattle.bits.proofs.broadcast.Goals as goal

pub returns-then-t-eq1 : goal.returns-then-t-eq1
returns-then-t-eq1 c i h =
    let t = c.args.t in
    bit-ones 64 i h ∙ sym (num-inj (bit t 0) true (omega (arith, low t, and_mask t 1, c.if-t-eq1.true)))

pub returns-else-t-eq1 : goal.returns-else-t-eq1
returns-else-t-eq1 c i h =
    let t = c.args.t in
    bit-zero i ∙ sym (num-inj (bit t 0) false (omega (arith, low t, and_mask t 1, c.if-t-eq1.false)))
