-- `netread::outputs` meets its contract. Assumes nothing.
use mathlib.Core.Path.{◌∙◌}
use Prim.Native.Nat.{◌+◌}
use native.Mathlib.Omega.{arith}
use Rattle.network.proofs.TestLaws.{handed-on}
use Rattle.netread.proofs.Loops.{output-room, output-next, output-refused, outputs-more, outputs-done}
use Rattle.netread.proofs.outputs.Goals as goal

pub returns-in_err-output_record : goal.returns-in_err-output_record
returns-in_err-output_record c =
    let h = c.loop-i in
    let a = c.args in
    let o = c.output_record in
    handed-on c.from_residual.ensures.1
    (output-refused a.rest.now a.t.p h.u h.at h.i (a.t.n + a.t.m) h.invariant.1 o.result o.ensures _ (omega arith) c.in_err-output_record.was ∙ h.invariant.2)

pub bounds-rest-x : goal.bounds-rest-x
bounds-rest-x c =
    let h = c.loop-i in
    let a = c.args in
    let o = c.output_record in
    let l = output-room a.rest.now a.t.p h.u h.at h.i (a.t.n + a.t.m) h.invariant.1 o.result o.ensures h.invariant.0 c.in_ok-output_record.was in
    omega arith

pub loop-i-preserved : goal.loop-i-preserved
loop-i-preserved c =
    let h = c.loop-i in
    let a = c.args in
    let o = c.output_record in (
      output-room a.rest.now a.t.p h.u h.at h.i (a.t.n + a.t.m) h.invariant.1 o.result o.ensures h.invariant.0 c.in_ok-output_record.was,
      h.invariant.1,
      output-next a.rest.now a.t.p h.u h.at h.i (a.t.n + a.t.m) h.invariant.1 o.result o.ensures (omega arith) c.in_ok-output_record.was ∙ h.invariant.2,
    )

pub returns-then-at-rest : goal.returns-then-at-rest
returns-then-at-rest c =
    let h = c.loop-i in
    let a = c.args in
    outputs-more a.rest.now a.t.p h.u h.at h.i (a.t.n + a.t.m) h.invariant.1 (omega arith) (omega arith) ∙ h.invariant.2

pub returns : goal.returns
returns c =
    let h = c.loop-i in
    let a = c.args in
    outputs-done a.rest.now a.t.p h.u h.at h.i (a.t.n + a.t.m) h.invariant.1 (omega arith) (omega arith) ∙ h.invariant.2
