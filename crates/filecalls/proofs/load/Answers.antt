-- `filecalls::load` meets its contract. Assumes nothing.
use mathlib.Core.Path.{◌≡◌, sym, ap, subst, ◌∙◌}
use mathlib.Core.List.{[]}
use Rattle.std.specs.Prelude.{Result}
use Rattle.network.specs.Answer.{answer_of}
use Rattle.network.specs.declared.Session.{Session}
use Rattle.network.specs.declared.Refusal.{Refusal}
use Rattle.promises.specs.Boundary.{Left, values_for, read_call, load_call}
use Rattle.promises.proofs.Readers.{load-reader}
use Rattle.filecalls.proofs.load.Goals as goal

pub put_read-requires : goal.put_read-requires
put_read-requires c =
    subst (λ (l : Result Session Refusal). values_for (answer_of l) [] ≡ []) (sym c.load.ensures) (load-reader c.args.file.now).none

pub returns : goal.returns
unfolding load_call
returns c =
    c.put_read.ensures ∙ ap {B = Left} (λ (l : Result Session Refusal). read_call l c.args.session.now) c.load.ensures
