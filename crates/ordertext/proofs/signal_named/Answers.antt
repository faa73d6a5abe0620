-- `signal_named`. Assumes nothing.
use mathlib.Core.Path.{sym, ◌∙◌}
use native.Mathlib.Omega.{arith}
use Rattle.ordertext.specs.Order.{signal_named}
use Rattle.ordertext.proofs.Numerals.{numeral-fits}
use Rattle.ordertext.proofs.signal_named.Goals as goal

pub numeral-requires : goal.numeral-requires
numeral-requires c = numeral-fits 10 4 c.args.name.now (sym c.is_numeral.ensures ∙ c.if-is_numeral.true) (omega arith) (omega arith)

pub returns-then-is_numeral : goal.returns-then-is_numeral
unfolding signal_named
returns-then-is_numeral c = rw (sym c.is_numeral.ensures ∙ c.if-is_numeral.true) c.numeral.ensures

pub returns : goal.returns
unfolding signal_named
returns c = rw (sym c.is_numeral.ensures ∙ c.if-is_numeral.false)
