use lib.Bits.{bit_and, bit_or}
use lib.ListN.{get_or}
use Rattle.simulate.specs.Simulated.{words_at}
use Rattle.simulate.proofs.RowLaws.{Stored}
use Rattle.compatible.proofs.sets.intersect.Given as goal

abbrev pub invariant-loop-w : goal.invariant-loop-w
invariant-loop-w l = Stored l.initial.hs l.hs (λ v. bit_and (get_or (words_at l.initial.hs v) l.s 0) (bit_or (get_or l.x v 0) (get_or l.y v 0))) l.s l.w
