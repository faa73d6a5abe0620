-- `compatible::sets::row_of` meets its contract. Assumes nothing.
use mathlib.Core.Path.{sym, ap, ◌∙◌}
use mathlib.Core.List.{List}
use Prim.Native.Nat.{ℕ, ◌*◌}
use native.Mathlib.Omega.{arith}
use lib.ListN.{get_or, drop}
use Rattle.std.proofs.lemmas.List.{get_or-take, get_or-drop}
use Rattle.bits.specs.Bounds.{row_words}
use Rattle.simulate.proofs.RowLaws.{words-at}
use Rattle.compatible.proofs.sets.row_of.Goals as goal

pub returns : goal.returns
returns c w h =
    let rows = c.args.rows.now in
    let at = row_words * c.args.s in
    ap (λ (l : List ℕ). get_or l w 0) c.copy_from_slice.ensures.after
    ∙ get_or-take _ (drop at rows) w 0 (omega arith) ∙ get_or-drop at rows w 0 ∙ sym (words-at rows w c.args.s c.requires)
