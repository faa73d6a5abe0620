-- `loading::read_blif` meets its contract. Assumes nothing.
use mathlib.Core.Path.{sym, ap, ◌∙◌}
use Rattle.std.specs.Prelude.{Ok}
use Rattle.network.specs.Load.{opening}
use Rattle.network.proofs.TestLaws.{handed-on}
use Rattle.blif.specs.Read.{read_blif_of}
use Rattle.bliftrip.proofs.Gives.{read-valid}
use Rattle.loading.proofs.read_blif.Goals as goal

pub returns-in_err-s : goal.returns-in_err-s
unfolding read_blif_of
returns-in_err-s c = handed-on c.from_residual.ensures.1 (ap opening c.in_err-s.ensures)

pub opened-requires : goal.opened-requires
opened-requires c = read-valid c.args.text.now _ (sym c.in_ok-s.ensures)

pub returns : goal.returns
unfolding read_blif_of
returns c = ap Ok c.opened.ensures ∙ ap opening c.in_ok-s.ensures
