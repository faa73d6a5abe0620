use mathlib.Core.Path.{◌≡◌}
use Prim.Native.Nat.{ℕ, ◌+◌, ◌*◌, ◌<◌}
use lib.Bits.{bit_and}
use lib.ListN.{length, get_or}
use Rattle.bits.specs.Bounds.{row_words}
use Rattle.network.specs.Bounds.{gate_words}
use Rattle.simulate.specs.Simulated.{words_at}
use Rattle.compatible.proofs.store_word.Given as goal

abbrev pub invariant-loop-g : goal.invariant-loop-g
invariant-loop-g l =
    (length l.sets ≡ gate_words) × ((q : ℕ) → q < l.g → get_or l.sets (row_words * q + l.w) 0 ≡ bit_and l.live (get_or (words_at l.hs l.w) (l.n + q) 0))
    × ((q v : ℕ) → v < l.w → get_or l.sets (row_words * q + v) 0 ≡ get_or l.initial.sets (row_words * q + v) 0)
