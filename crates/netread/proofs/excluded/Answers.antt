use mathlib.Core.Path.{◌∙◌}
use native.Mathlib.Omega.{arith}
use Rattle.network.proofs.TestLaws.{handed-on}
use Rattle.netread.proofs.File.{set-short, set_past, set_on}
use Rattle.netread.proofs.excluded.Goals as goal

pub returns-then-rest-e : goal.returns-then-rest-e
returns-then-rest-e c =
    let z = c.set_bytes-e in
    let a = c.args in
    set-short a.t a.rest.now c.requires.3 z.result z.ensures.0 (omega arith)

pub returns-in_err-excluded_test : goal.returns-in_err-excluded_test
returns-in_err-excluded_test c =
    let w = c.words-ws in
    let z = c.set_bytes-e in
    let a = c.args in
    let x = c.excluded_test in
    handed-on c.from_residual.ensures.1
    (set_past a.t a.rest.now c.requires.3 z.result z.ensures.0 (omega arith) w.result w.ensures x.result x.ensures _ c.in_err-excluded_test.was)

pub returns : goal.returns
returns c =
    let w = c.words-ws in
    let z = c.set_bytes-e in
    let a = c.args in
    let x = c.excluded_test in
    c.gates.ensures ∙ set_on a.t a.rest.now c.requires.3 z.result z.ensures.0 (omega arith) w.result w.ensures x.result x.ensures c.in_ok-excluded_test.was
