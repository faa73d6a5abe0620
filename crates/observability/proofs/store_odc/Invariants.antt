use mathlib.Core.Bool.{not, ◌&&◌}
use lib.ListN.{get_or}
use Rattle.bits.specs.Bit.{bit, table_of}
use Rattle.observability.proofs.Words.{RowFilled}
use Rattle.observability.proofs.store_odc.Given as goal

abbrev pub invariant-loop-w : goal.invariant-loop-w
invariant-loop-w l = RowFilled (λ w. table_of 64 (λ b. bit l.live b && not (bit (get_or l.seen w 0) b))) l.initial.odc l.odc l.g l.w
