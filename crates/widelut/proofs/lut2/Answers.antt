-- `widelut::lut2` meets its contract. Assumes nothing.
use mathlib.Core.Path.{◌∙◌}
use Prim.Native.Nat.{◌%◌}
use native.Mathlib.Omega.{arith}
use Rattle.bits.specs.Bit.{bit}
use Rattle.widelut.proofs.Columns.{two-inputs}
use Rattle.widelut.proofs.lut2.Goals as goal

pub returns : goal.returns
returns c a b known i h = known (c.args.t % 16) (omega arith) i h ∙ two-inputs c.args.t (bit a i) (bit b i)
