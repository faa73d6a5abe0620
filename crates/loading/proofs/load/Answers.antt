-- `loading::load` meets its contract. Assumes nothing.
use mathlib.Core.Path.{ap, ◌∙◌}
use Rattle.std.specs.Prelude.{Ok}
use Rattle.network.proofs.TestLaws.{handed-on}
use Rattle.loading.proofs.ByAnswer.{read-valid, opening-is}
use Rattle.loading.proofs.load.Goals as goal

pub returns-in_err-s : goal.returns-in_err-s
returns-in_err-s c = handed-on c.from_residual.ensures.1 (opening-is c.args.bytes.now c.in_err-s.ensures)

pub opened-requires : goal.opened-requires
opened-requires c = read-valid c.args.bytes.now c.in_ok-s.ensures

pub returns : goal.returns
returns c = ap Ok c.opened.ensures ∙ opening-is c.args.bytes.now c.in_ok-s.ensures
