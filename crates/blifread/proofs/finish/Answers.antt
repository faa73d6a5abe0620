-- `blifread::finish` meets its contract. Assumes nothing.
use mathlib.Core.Path.{◌∙◌}
use lib.ListN.{drop}
use Rattle.network.proofs.TestLaws.{handed-on}
use Rattle.blif.specs.Text.{fields, statements}
use Rattle.bliftext.specs.Named.{names_at}
use Rattle.blifread.proofs.Steps.{end_refused, end-done}
use Rattle.blifread.proofs.finish.Goals as goal

pub returns-in_err-end_test : goal.returns-in_err-end_test
returns-in_err-end_test c =
    let a = c.args in
    let ns = names_at a.text.now a.signals.now in
    let os = names_at a.text.now a.outputs.now in
    let line = fields (drop a.l.at a.s.now) in
    handed-on c.from_residual.ensures.1 (end_refused ns os a.t line (statements (drop a.l.next a.text.now)) c.end_test.result c.end_test.ensures _ c.in_err-end_test.was)

pub returns : goal.returns
returns c =
    let a = c.args in
    let ns = names_at a.text.now a.signals.now in
    let os = names_at a.text.now a.outputs.now in
    let line = fields (drop a.l.at a.s.now) in
    c.rest.ensures ∙ end-done ns os a.t line (statements (drop a.l.next a.text.now)) c.end_test.result c.end_test.ensures c.put_outputs-f.result c.in_ok-end_test.was c.put_outputs-f.ensures
