-- `bliftext::word_from` meets its contract. Assumes nothing.
use Rattle.blif.specs.Text.{is_blank}
use borrow.Author.Rules.{rules}
use Rattle.bliftext.specs.Lines.{is_filled}
use Rattle.bliftext.proofs.Spans.{word-found}
use Rattle.bliftext.proofs.word_from.Goals as goal

pub returns : goal.returns
returns c =
    let f = c.find-w.ensures in
    let g = c.find-e.ensures in
    word-found c.args.s.now c.args.at c.find-w.result c.find-e.result (f.first is_filled (λ b l r p. search rules), f.within.1) (g.first is_blank (λ b l r p. search rules), g.within.1)
