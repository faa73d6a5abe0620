-- `bits::minterms` meets its contract. Assumes nothing.
use Prim.Native.Nat.{◌*◌, ◌%◌, ◌^◌}
use native.Mathlib.Omega.{arith}
use Rattle.bits.proofs.Cuts.{one_shl}
use Rattle.bits.proofs.MintermLaws.{minterms-more}
use Rattle.bits.proofs.minterms.Goals as goal

pub loop-r-preserved : goal.loop-r-preserved
loop-r-preserved c =
    let s = c.args in
    let l = c.loop-r in
    let nv = c.complement in
    minterms-more s.ins.now s.frees.now s.keep l.words c.split-words.result l.r ((1 * 2 ^ l.r) % 2 ^ 64) nv.result (one_shl l.r 64 (omega arith)) nv.ensures c.split-words.ensures l.invariant
