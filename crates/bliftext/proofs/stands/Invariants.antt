use mathlib.Core.Path.{◌≡◌}
use Prim.Native.Nat.{◌-◌, ◌≤◌}
use lib.ListN.{length, drop}
use Rattle.blif.specs.Text.{fields}
use Rattle.blif.specs.Read.{known}
use Rattle.bliftext.specs.Spans.{words_from}
use Rattle.bliftext.proofs.stands.Given as goal

abbrev pub invariant-loop-x : goal.invariant-loop-x
invariant-loop-x l = (l.x.start ≤ l.x.end) × (l.x.end ≤ length l.s) × (known (words_from l.s l.x) l.w ≡ known (fields (drop l.at l.s)) l.w)

abbrev pub decreases-loop-x : goal.decreases-loop-x
decreases-loop-x l = length l.s - l.x.start
