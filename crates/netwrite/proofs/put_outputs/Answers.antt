-- `put_outputs`: what is left to lay are the outputs not passed. Assumes nothing.
use mathlib.Core.List.{[], ◌∷◌}
use Prim.Native.Nat.{◌+◌, ◌-◌}
use native.Mathlib.Omega.{arith}
use lib.ListN.{get_or}
use Rattle.buffer.proofs.Laying.{pending-step, pending-room}
use Rattle.network.specs.Write.{outputs_bytes}
use Rattle.netwrite.proofs.RecordBytes.{outputs-next}
use Rattle.netwrite.proofs.put_outputs.Goals as goal

pub copy-a-requires : goal.copy-a-requires
copy-a-requires c =
    let x = c.args in
    let h = c.loop-i in
    let e = outputs-next x.s x.s.p h.i (omega arith) in
    pending-room (0x4E ∷ 0x4F ∷ get_or x.s.outputs h.i 0 ∷ []) (outputs_bytes x.s (x.s.p - (h.i + 1)) (h.i + 1)) h.invariant e c.requires.1

pub loop-i-preserved : goal.loop-i-preserved
loop-i-preserved c =
    let x = c.args in
    let h = c.loop-i in
    let e = outputs-next x.s x.s.p h.i (omega arith) in
    pending-step (outputs_bytes x.s (x.s.p - (h.i + 1)) (h.i + 1)) h.invariant e c.copy-a.ensures
