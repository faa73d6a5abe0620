use mathlib.Core.Path.{◌≡◌}
use Prim.Native.Nat.{ℕ, ◌+◌, ◌*◌, ◌<◌}
use lib.ListN.{length, get_or}
use Rattle.bits.specs.Bounds.{gate_places}
use Rattle.simulate.specs.Simulated.{words_at}
use Rattle.simulate.proofs.gather_at.Given as goal

abbrev pub invariant-loop-r : goal.invariant-loop-r
invariant-loop-r l = (length l.ins ≡ gate_places) × ((q : ℕ) → q < l.r → get_or l.ins q 0 ≡ get_or (words_at l.rows l.w) (get_or l.fanins (gate_places * l.g + q) 0) 0)
