-- `bytes_needed`: the records' lengths, of which the largest sum is 5 + 130 + 680 + 24. Assumes nothing.
use native.Mathlib.Omega.{arith}
use Rattle.network.proofs.Valid.{net-ok, outputs-ok}
use Rattle.netwrite.proofs.RecordBytes.{length-file}
use Rattle.netwrite.proofs.bytes_needed.Goals as goal

pub excluded_size-requires : goal.excluded_size-requires
excluded_size-requires c = (net-ok c.args.s c.requires).ins

pub returns : goal.returns
returns c =
    let s = c.args.s in
    let n = length-file s in
    let p = (outputs-ok s c.requires).most in
    let e = c.excluded_size.ensures in
    let g = c.gates_size.ensures in
    let e0 = e.0 in
    let e1 = e.1 in
    let g0 = g.0 in
    let g1 = g.1 in
    (omega arith, omega arith)
