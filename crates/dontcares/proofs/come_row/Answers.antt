-- `dontcares::come_row` meets its contract. Assumes nothing.
use borrow.Author.Rules.{rules}
use Rattle.dontcares.proofs.come_row.Goals as goal

-- word w is what the closure gives there
pub returns : goal.returns
returns c w b hw hb = let word = c.row_by.ensures w hw in search rules
