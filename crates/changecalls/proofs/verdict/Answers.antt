-- `changecalls::verdict` meets its contract. Assumes nothing.
use mathlib.Core.Path.{refl, sym}
use mathlib.Core.List.{[]}
use Rattle.packed.specs.Packed.{session_in}
use Rattle.promises.specs.Boundary.{verdict_call}
use Rattle.promises.proofs.Leaves.{refused-with, done}
use Rattle.changecalls.proofs.Judged.{names-verdict, named-fit}
use Rattle.changecalls.proofs.verdict.Goals as goal

pub returns-in-Ok : goal.returns-in-Ok
unfolding verdict_call
returns-in-Ok c = done [] [] [] c.args.out.now (sym c.in-Ok.ensures) refl refl

pub tell_refusal-requires : goal.tell_refusal-requires
tell_refusal-requires c =
    let a = c.args in
    named-fit a.session.now a.out.now 2 _ (names-verdict (session_in a.session.now) a.gates.now a.tables.now) c.in-Err.ensures

pub returns-in-Err : goal.returns-in-Err
unfolding verdict_call
returns-in-Err c = refused-with [] [] [] c.args.out.now (sym c.in-Err.ensures) c.tell_refusal.ensures.0 c.tell_refusal.ensures.1
