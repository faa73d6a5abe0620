-- `respond`: what is saved lies in its buffer. Assumes nothing.
use Rattle.std.proofs.Common.{rules, sym, ◌∙◌}
use Rattle.answertext.proofs.Asked.{grantable}
use Rattle.order.proofs.respond.Goals as goal

pub put_board-k-requires : goal.put_board-k-requires
put_board-k-requires c =
    let w = grantable c.args.file.now c.args.text.now c.args.o c.requires c.answer-a.ensures (sym c.granted.ensures ∙ c.if-not-granted.false) in
    (w.0, w.1, search rules)
