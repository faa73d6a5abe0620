-- `entries::high_words` meets its contract. Assumes nothing.
use native.Mathlib.Omega.{arith}
use Rattle.entries.proofs.Parts.{all-kept}
use Rattle.entries.proofs.high_words.Goals as goal

pub returns-then-j-eq2 : goal.returns-then-j-eq2
returns-then-j-eq2 c =
    let a = c.args in
    all-kept a.ins.now a.frees.now c.minterms.result a.j 2 (omega arith) c.minterms.ensures

pub returns : goal.returns
returns c =
    let a = c.args in
    all-kept a.ins.now a.frees.now c.minterms-2.result a.j 3 (omega arith) c.minterms-2.ensures
