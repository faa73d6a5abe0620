use mathlib.Core.Path.{◌≡◌}
use mathlib.Core.Bool.{true}
use Prim.Native.Nat.{ℕ, ◌+◌, ◌*◌, ◌<◌}
use lib.ListN.{get_or}
use Rattle.bits.specs.Bounds.{gate_places}
use Rattle.bits.specs.Bit.{bit}
use Rattle.incremental.proofs.fanin_mask.Given as goal

abbrev pub invariant-loop-r : goal.invariant-loop-r
invariant-loop-r l = ((q : ℕ) → q < l.r → bit l.mask (get_or l.fanins (gate_places * l.g + q) 0) ≡ true)
