-- `blifread::names_line` meets its contract. Assumes nothing.
use mathlib.Core.Path.{sym, ap, ◌∙◌}
use mathlib.Core.List.{List}
use native.Mathlib.Omega.{arith}
use lib.ListN.{length, drop}
use Rattle.network.specs.Tests.{first}
use Rattle.network.specs.Answer.{answer_of}
use Rattle.network.proofs.TestLaws.{refused-done}
use Rattle.text.specs.Words.{Text}
use Rattle.blif.specs.Text.{statements}
use Rattle.blif.specs.Read.{names, names_tests}
use Rattle.bliftext.specs.Lines.{words_at}
use Rattle.blifread.proofs.Steps.{part-line}
use Rattle.blifread.proofs.Phases.{names-few, held-names, line-done, listed-same}
use Rattle.blifread.proofs.names_line.Goals as goal

pub returns : goal.returns
returns c =
    let a = c.args in
    let text = a.text.now in
    let n = c.line_from in
    let l = c.in-Some.l in
    let lo = c.in-Some.ensures in
    let t = c.names_test in
    let w = c.word_from-x in
    let k = c.count-n in
    let q = t.ensures ∙ ap (λ (ws : List Text). first (names_tests a.word.now a.most ws)) (part-line text l) in
    let told = c.in_ok-names_test.was in
    let few = names-few a.word.now a.most (words_at text l) t.result q told in
    let long = ap length (w.ensures.behind ∙ ap names (part-line text l)) in
    record {
      refused = λ q z. refused-done q (sym (ap answer_of z));
      given = λ x d. rw (← listed-same d) (record {
        listed = names (words_at text l);
        held = held-names text l.end c.names_at-ns.result k.result _ (names (words_at text l)) (omega (arith, lo.within, lo.inside)) c.names_at-ns.ensures
            (w.ensures.behind ∙ ap names (part-line text l));
        few = omega (arith, few.1, k.ensures);
        place = lo.inside;
        reads = λ more. line-done a.word.now a.most more (statements (drop a.at text)) (words_at text l) (statements (drop l.next text)) lo.reads t.result
            q told;
      });
    }
