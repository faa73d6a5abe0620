-- `blifread::read` meets its contract. Assumes nothing.
use mathlib.Core.Path.{ap, ◌∙◌}
use lib.ListN.{drop}
use Rattle.network.proofs.TestLaws.{handed-on}
use Rattle.blif.specs.Text.{statements}
use Rattle.blif.specs.Read.{model_test}
use Rattle.bliftext.specs.Lines.{words_at}
use Rattle.blifread.proofs.Steps.{part-line}
use Rattle.blifread.proofs.Phases.{read-stop, read-refused, read_done}
use Rattle.blifread.proofs.read.Goals as goal

pub returns-in_default : goal.returns-in_default
returns-in_default c = read-stop c.args.text.now c.in_default.ensures

pub returns-in_err-model_test : goal.returns-in_err-model_test
returns-in_err-model_test c =
    let text = c.args.text.now in
    let l = c.in-Some.l in
    let lo = c.in-Some.ensures in
    let t = c.model_test in
    handed-on c.from_residual.ensures.1
    (read-refused text (words_at text l) (statements (drop l.next text)) lo.reads t.result (t.ensures ∙ ap model_test (part-line text l)) _ c.in_err-model_test.was)

pub returns : goal.returns
returns c =
    let text = c.args.text.now in
    let l = c.in-Some.l in
    let lo = c.in-Some.ensures in
    let t = c.model_test in
    c.inputs.ensures
    ∙ read_done text (words_at text l) (statements (drop l.next text)) lo.reads t.result (t.ensures ∙ ap model_test (part-line text l)) c.in_ok-model_test.was
