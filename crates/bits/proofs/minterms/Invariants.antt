use Rattle.bits.proofs.MintermLaws.{Minterms}
use Rattle.bits.proofs.minterms.Given as goal

abbrev pub invariant-loop-r : goal.invariant-loop-r
invariant-loop-r l = Minterms l.ins l.frees l.keep l.words l.r
