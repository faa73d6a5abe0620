-- `put_name`: a space and the letter, then the number. Assumes nothing.
use native.Mathlib.Omega.{arith}
use Rattle.buffer.proofs.Laying.{laid-length}
use Rattle.blifwrite.proofs.Pieces.{length-small, name-laid}
use Rattle.blifwrite.proofs.put_name.Goals as goal

pub put_decimal-requires : goal.put_decimal-requires
put_decimal-requires c =
    let a = c.copy-a.ensures.behind in
    let l = laid-length c.copy-a.ensures in
    let n = length-small c.args.x (omega arith) in
    (omega arith, omega arith)

pub returns : goal.returns
returns c =
    name-laid c.args.x c.copy-a.ensures c.put_decimal.ensures
