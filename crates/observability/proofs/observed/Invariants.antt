use mathlib.Core.Path.{◌≡◌}
use Prim.Native.Nat.{ℕ, ◌<◌}
use lib.ListN.{length, get_or}
use Rattle.bits.specs.Bounds.{row_words}
use Rattle.bits.specs.Range.{any}
use Rattle.bits.specs.Bit.{bit}
use Rattle.observability.proofs.OdcLaws.{differing}
use Rattle.observability.proofs.observed.Given as goal

abbrev pub invariant-loop-i : goal.invariant-loop-i
invariant-loop-i l = (length l.l ≡ row_words) × ((w b : ℕ) → w < l.count → b < 64 → bit (get_or l.l w 0) b ≡ any l.i (differing l.outputs l.rows l.other w b))
