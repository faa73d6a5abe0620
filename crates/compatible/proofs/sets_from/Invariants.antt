use mathlib.Core.Path.{◌≡◌}
use Prim.Native.Nat.{ℕ, ◌+◌, ◌*◌, ◌<◌}
use lib.Bits.{bit_and}
use lib.ListN.{length, get_or}
use Rattle.bits.specs.Bounds.{row_words}
use Rattle.network.specs.Bounds.{gate_words}
use Rattle.simulate.specs.Simulated.{words_at}
use Rattle.compatible.proofs.sets_from.Given as goal

abbrev pub invariant-loop-w : goal.invariant-loop-w
invariant-loop-w l = (length l.sets ≡ gate_words) × ((g v : ℕ) → g < l.m → v < l.w → get_or l.sets (row_words * g + v) 0 ≡ bit_and l.live (get_or (words_at l.hs v) (l.n + g) 0))
