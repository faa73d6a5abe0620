use mathlib.Core.Path.{◌≡◌}
use Prim.Native.Nat.{◌+◌, ◌-◌, ◌≤◌}
use lib.ListN.{length, drop}
use Rattle.blif.specs.Text.{fields}
use Rattle.bliftext.specs.Spans.{words_from}
use Rattle.bliftext.proofs.count.Given as goal

abbrev pub invariant-loop-x : goal.invariant-loop-x
invariant-loop-x l = (l.x.start ≤ l.x.end) × (l.x.end ≤ length l.s) × (l.n + length (words_from l.s l.x) ≡ length (fields (drop l.at l.s))) × (l.n ≤ l.x.start)

abbrev pub decreases-loop-x : goal.decreases-loop-x
decreases-loop-x l = length l.s - l.x.start
