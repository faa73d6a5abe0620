use mathlib.Core.Path.{◌≡◌}
use Prim.Native.Nat.{ℕ, ◌<◌}
use lib.ListN.{length}
use Rattle.bits.specs.Bounds.{row_words}
use Rattle.network.specs.Bounds.{signal_words}
use Rattle.simulate.specs.Simulated.{Inputs, words_at}
use Rattle.simulate.proofs.input_rows.Given as goal

abbrev pub invariant-loop-i : goal.invariant-loop-i
invariant-loop-i l = (length l.row ≡ row_words) × (length l.rows ≡ signal_words) × ((w : ℕ) → w < l.count → Inputs (words_at l.rows w) l.i w)
