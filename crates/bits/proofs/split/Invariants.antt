use mathlib.Core.Path.{◌≡◌}
use lib.ListN.{length}
use Rattle.bits.specs.Bounds.{small_words}
use Rattle.bits.specs.Bit.{Split}
use Rattle.bits.proofs.split.Given as goal

abbrev pub invariant-loop-t : goal.invariant-loop-t
invariant-loop-t l = (length l.words ≡ small_words) × Split l.given l.words l.size l.lo l.hi l.t
