use mathlib.Core.Path.{◌≡◌}
use Prim.Native.Nat.{◌+◌, ◌*◌}
use lib.Bits.{bit_or, bit_xor}
use lib.ListN.{length, get_or}
use Rattle.bits.specs.Bounds.{row_words}
use Rattle.bits.proofs.Ranges.{Changed}
use Rattle.observability.proofs.differing.Given as goal

abbrev pub invariant-loop-w : goal.invariant-loop-w
invariant-loop-w l = (length l.seen ≡ row_words) × Changed (λ q x. bit_or x (bit_xor (get_or l.rows (row_words * l.s + q) 0) (get_or l.other (row_words * l.s + q) 0))) l.initial.seen l.seen l.w
