-- `blifline::signal_of` meets its contract. Assumes nothing.
use mathlib.Core.Path.{◌∙◌}
use native.Mathlib.Omega.{arith}
use Rattle.blifline.proofs.Lists.{place-is, place-few}
use Rattle.blifline.proofs.signal_of.Goals as goal

pub overflow_cast-result : goal.overflow_cast-result
overflow_cast-result c =
    let a = c.args in
    omega (arith, place-few a.text.now a.signals.now a.w.now c.place_of.result c.place_of.ensures, c.unwrap_or.ensures)

pub returns : goal.returns
returns c =
    let a = c.args in
    c.unwrap_or.ensures ∙ place-is a.text.now a.signals.now a.w.now c.place_of.result c.place_of.ensures
