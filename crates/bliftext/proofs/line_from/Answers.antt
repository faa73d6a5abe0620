-- `bliftext::line_from` meets its contract. Assumes nothing.
use mathlib.Core.Path.{sym, ap, ◌∙◌}
use lib.ListN.{drop_of_length-le}
use Rattle.blif.specs.Text.{statements}
use Rattle.blif.proofs.Statements.{statements-none}
use Rattle.bliftext.proofs.line_from.Goals as goal

pub returns : goal.returns
returns c =
    let h = c.loop-i in
    sym h.invariant.2 ∙ ap statements (drop_of_length-le c.args.text.now {i = h.i} c.loop-i-test.false)
    ∙ statements-none
