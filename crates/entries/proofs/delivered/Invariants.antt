use mathlib.Core.Path.{◌≡◌}
use mathlib.Core.Bool.{◌&&◌}
use Rattle.bits.specs.Range.{any}
use Rattle.bits.specs.Bit.{bit, table_of, gives}
use Rattle.entries.proofs.delivered.Given as goal

abbrev pub invariant-loop-t : goal.invariant-loop-t
invariant-loop-t l = l.acc ≡ table_of l.t (λ t. any 64 (λ b. bit l.keep b && gives l.k l.ins l.frees t b))
