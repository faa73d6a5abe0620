use mathlib.Core.Path.{◌≡◌, sym}
use mathlib.Core.Bool.{not}
use native.Mathlib.Decide.{ℕ_discrete}
use lib.Dec.{eqb}
use borrow.Author.Tests.{ne_eqb}
use Rattle.bits.specs.Range.{any}
use Rattle.bits.specs.Bit.{bit}
use Rattle.bits.proofs.Ranges.{any-zero, any_some}
use Rattle.bits.proofs.any_bit.Goals as goal

pub returns : goal.returns
returns c = go (ℕ_discrete c.args.x 0)
  where
    go : Dec (c.args.x ≡ 0) → not (eqb c.args.x 0) ≡ any 64 (bit c.args.x)
    go (yes e) = rw e (sym (any-zero 64))
    go (no n) = rw (ne_eqb c.args.x 0 n) (sym (any_some 64 c.args.x c.ranges.x.fits n))
