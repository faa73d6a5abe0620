-- `write_bytes`: record after record, what is left to lay is the rest of the file. Assumes nothing.
use mathlib.Core.Path.{refl, sym}
use mathlib.Core.List.{[], append-nil}
use native.Mathlib.Omega.{arith}
use Rattle.buffer.proofs.Laying.{laid-start, pending-step, pending-room}
use Rattle.network.specs.Write.{excluded_bytes, gates_bytes, outputs_bytes, bytes_of}
use Rattle.network.proofs.Valid.{net-ok, outputs-ok}
use Rattle.netwrite.proofs.RecordBytes.{file-laid, after-header, after_excluded, length-file}
use Rattle.netwrite.proofs.write_bytes.Goals as goal

pub copy-a-requires : goal.copy-a-requires
copy-a-requires c = let n = length-file c.args.s in omega arith

pub put_excluded-b-requires : goal.put_excluded-b-requires
put_excluded-b-requires c =
    let s = c.args.s in
    let a = after-header s c.copy-a.ensures in
    ((net-ok s c.requires.0).ins, pending-room (excluded_bytes s) (after_excluded s) a refl (omega arith))

pub put_gates-c-requires : goal.put_gates-c-requires
put_gates-c-requires c =
    let s = c.args.s in
    let a = after-header s c.copy-a.ensures in
    let b = pending-step (after_excluded s) a refl c.put_excluded-b.ensures in
    (c.requires.0, pending-room (gates_bytes s s.m 0) (outputs_bytes s s.p 0) b refl (omega arith))

pub put_outputs-requires : goal.put_outputs-requires
put_outputs-requires c =
    let s = c.args.s in
    let a = after-header s c.copy-a.ensures in
    let b = pending-step (after_excluded s) a refl c.put_excluded-b.ensures in
    let d = pending-step (outputs_bytes s s.p 0) b refl c.put_gates-c.ensures in
    ((outputs-ok s c.requires.0).most, pending-room (outputs_bytes s s.p 0) [] d (sym (append-nil (outputs_bytes s s.p 0))) (omega arith))

pub returns : goal.returns
returns c =
    let outputs = c.put_outputs in
    let s = c.args.s in
    laid-start c.args.buf.now (bytes_of s) outputs.new.buf outputs.result c.requires.1
    (file-laid s c.copy-a.ensures c.put_excluded-b.ensures c.put_gates-c.ensures outputs.ensures)
