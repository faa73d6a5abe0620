-- `netread::gates` meets its contract. Assumes nothing.
use mathlib.Core.Path.{◌≡◌, ◌∙◌}
use Prim.Native.Nat.{◌+◌, ◌-◌}
use native.Mathlib.Omega.{arith}
use lib.ListN.{length, get_or, take, drop}
use Rattle.network.proofs.TestLaws.{handed-on}
use Rattle.netread.proofs.Steps.{tail-part}
use Rattle.netread.proofs.Records.{WholeGate, fanins-part}
use Rattle.netread.proofs.Loops.{gate-whole, gate-next, gate-refused, gates-last}
use Rattle.netread.proofs.gates.Goals as goal
use Rattle.netread.proofs.gates.Goals.{In_ok-gate_record}

-- the record that is read is whole
whole : (c : In_ok-gate_record) →
    let h = c.loop-g in
    let rest = c.args.rest.now in
    let part = take (length rest - h.at) (drop h.at rest) in
    WholeGate part × (h.at + length part ≡ length rest)
whole c =
    let h = c.loop-g in
    let a = c.args in
    let o = c.gate_record in
    gate-whole a.rest.now a.t.m h.u h.at h.g a.t.n h.invariant.1 o.result o.ensures h.invariant.0 c.in_ok-gate_record.was

pub returns-in_err-gate_record : goal.returns-in_err-gate_record
returns-in_err-gate_record c =
    let h = c.loop-g in
    let a = c.args in
    let o = c.gate_record in
    handed-on c.from_residual.ensures.1
    (gate-refused a.rest.now a.t.m h.u h.at h.g a.t.n h.invariant.1 o.result o.ensures _ (omega arith) c.in_err-gate_record.was ∙ h.invariant.4)

pub bounds-part-2 : goal.bounds-part-2
bounds-part-2 c = let w = whole (goal.at.bounds-part-2 c).In_ok-gate_record in omega (arith, w.0.few, w.0.long)

pub table-w-requires : goal.table-w-requires
table-w-requires c = let w = whole (goal.at.table-w-requires c).In_ok-gate_record in let z = c.table_bytes-z.ensures in omega (arith, w.0.few, w.0.long, z.0, z.1)

pub slice_bounds-put_fanins-end : goal.slice_bounds-put_fanins-end
slice_bounds-put_fanins-end c = let w = whole (goal.at.slice_bounds-put_fanins-end c).In_ok-gate_record in omega (arith, w.0.few, w.0.long)

pub put_fanins-b-requires : goal.put_fanins-b-requires
put_fanins-b-requires c = let w = whole (goal.at.put_fanins-b-requires c).In_ok-gate_record in omega (arith, w.0.few, w.0.long)

pub loop-g-preserved : goal.loop-g-preserved
loop-g-preserved c =
    let h = c.loop-g in
    let a = c.args in
    let o = c.gate_record in
    let z = c.table_bytes-z.ensures in
    let w = whole (goal.at.loop-g-preserved c).In_ok-gate_record in
    let part = drop h.at a.rest.now in (
      omega (arith, w.0.long, w.1, z.0),
      h.invariant.1,
      h.invariant.2,
      h.invariant.3,
      rw (c.put_fanins-b.ensures, c.table-w.ensures, z.0, tail-part a.rest.now h.at, fanins-part part (get_or part 2 0)) (gate-next a.rest.now a.t.m h.u h.at h.g a.t.n h.invariant.1 o.result o.ensures (omega arith) c.in_ok-gate_record.was) ∙ h.invariant.4,
    )

pub returns : goal.returns
returns c =
    let h = c.loop-g in
    let a = c.args in
    c.outputs.ensures ∙ gates-last a.rest.now a.t.m h.u h.at h.g a.t.n h.invariant.1 (omega arith) ∙ h.invariant.4
