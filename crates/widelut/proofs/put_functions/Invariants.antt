use mathlib.Core.Path.{◌≡◌}
use Prim.Native.Nat.{ℕ, ◌+◌, ◌*◌, ◌<◌}
use lib.ListN.{length, get_or}
use Rattle.bits.specs.Bounds.{row_words}
use Rattle.widelut.specs.Functions.{function_words}
use Rattle.widelut.proofs.put_functions.Given as goal

abbrev pub invariant-loop-t : goal.invariant-loop-t
invariant-loop-t l =
    (length l.rows ≡ function_words) × ((q : ℕ) → q < l.t → get_or l.rows (row_words * q + l.w) 0 ≡ get_or l.word-items q 0)
    × ((q v : ℕ) → v < l.w → get_or l.rows (row_words * q + v) 0 ≡ get_or l.initial.rows (row_words * q + v) 0)
