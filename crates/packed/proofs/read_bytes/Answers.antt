-- `read_bytes`: the places before i are read, the rest are as they were. Assumes nothing.
use native.Mathlib.Omega.{arith}
use Rattle.packed.proofs.Reading.{read_more}
use Rattle.packed.proofs.read_bytes.Goals as goal

pub loop-i-preserved : goal.loop-i-preserved
loop-i-preserved c =
    let x = c.args in
    let l = c.loop-i in
    read_more x.words.now x.bytes.now l.bytes x.at l.i l.invariant (omega arith) (omega arith)
