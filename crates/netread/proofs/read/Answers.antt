use mathlib.Core.Path.{sym, ◌∙◌}
use native.Mathlib.Omega.{arith}
use Rattle.network.proofs.TestLaws.{handed-on}
use Rattle.netread.proofs.Records.{WholeHeader, whole-header}
use Rattle.netread.proofs.File.{read-refused, read-on}
use Rattle.netread.proofs.read.Goals as goal
use Rattle.netread.proofs.read.Goals.{In_ok-header_record}

-- the first record is whole
header : (c : In_ok-header_record) → WholeHeader c.args.bytes.now
header c = whole-header _ (sym c.header_record.ensures ∙ c.in_ok-header_record.was)

pub returns-in_err-header_record : goal.returns-in_err-header_record
returns-in_err-header_record c =
    let h = c.header_record in
    handed-on c.from_residual.ensures.1 (read-refused _ h.result h.ensures _ c.in_err-header_record.was)

pub bounds-bytes-2 : goal.bounds-bytes-2
bounds-bytes-2 c = omega (arith, (header (goal.at.bounds-bytes-2 c).In_ok-header_record).long)

pub bounds-bytes-3 : goal.bounds-bytes-3
bounds-bytes-3 c = omega (arith, (header (goal.at.bounds-bytes-3 c).In_ok-header_record).long)

pub bounds-bytes-4 : goal.bounds-bytes-4
bounds-bytes-4 c = omega (arith, (header (goal.at.bounds-bytes-4 c).In_ok-header_record).long)

pub slice_bounds-body-count : goal.slice_bounds-body-count
slice_bounds-body-count c = omega (arith, (header (goal.at.slice_bounds-body-count c).In_ok-header_record).long)

pub slice_bounds-body-start : goal.slice_bounds-body-start
slice_bounds-body-start c = omega (arith, (header (goal.at.slice_bounds-body-start c).In_ok-header_record).long)

pub body-requires : goal.body-requires
body-requires c =
    let w = header (goal.at.body-requires c).In_ok-header_record in
    let e = c.started-t.ensures in
    (rw e w.inputs, rw e w.gates, rw e w.outputs)

pub returns : goal.returns
returns c =
    let h = c.header_record in
    (rw c.started-t.ensures at c.body.ensures) ∙ read-on _ h.result h.ensures c.in_ok-header_record.was
