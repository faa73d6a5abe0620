-- `bliftext::foreign` meets its contract. Assumes nothing.
use borrow.Author.Rules.{rules}
use Rattle.bliftext.specs.Lines.{is_foreign}
use Rattle.bliftext.proofs.Spans.{foreign-is}
use Rattle.bliftext.proofs.foreign.Goals as goal

pub returns : goal.returns
returns c = foreign-is c.args.s.now c.args.at c.find.result (c.find.ensures.first is_foreign (λ b l r p. search rules))
