use mathlib.Core.Path.{◌≡◌}
use mathlib.Core.Bool.{not}
use Prim.Native.Nat.{ℕ, ◌+◌, ◌*◌, ◌<◌}
use lib.ListN.{length, get_or}
use Rattle.bits.specs.Bounds.{row_words}
use Rattle.bits.specs.Bit.{bit}
use Rattle.incremental.proofs.complement_row.Given as goal

abbrev pub invariant-loop-w : goal.invariant-loop-w
invariant-loop-w l = (length l.word-items ≡ row_words) × ((v b : ℕ) → v < l.w → b < 64 → bit (get_or l.word-items v 0) b ≡ not (bit (get_or l.rows (row_words * l.s + v) 0) b))
