-- A bit of the changed word. Assumes nothing.
use mathlib.Core.Path.{ap, ◌∙◌}
use Prim.Native.Nat.{ℕ, ◌-◌, ◌*◌}
use lib.Bits.{bit_and}
use Rattle.bits.specs.Bit.{bit}
use Rattle.verdict.specs.Changed.{changed_at}
use Rattle.verdict.proofs.changed_at.Goals as goal

pub returns : goal.returns
unfolding changed_at
returns c =
    let a = c.args in
    c.bit_of.ensures ∙ ap (λ (d : ℕ). bit (bit_and a.keep d) (a.x - a.w * 64)) c.changed-d.ensures
