-- `boundary::tell_refusal` meets its contract. Assumes nothing.
use mathlib.Core.Path.{◌≡◌}
use native.Mathlib.Nat.{sub-zero}
use native.Mathlib.Omega.{arith}
use lib.ListN.{length}
use borrow.Author.Rules.{rules}
use Rattle.boundary.proofs.tell_refusal.Goals as goal

pub slice_bounds-give-end : goal.slice_bounds-give-end
slice_bounds-give-end c = let n : length c.told-t.result.2 ≡ 2 = search rules in omega (arith, c.told-t.ensures.few)

pub give-requires : goal.give-requires
give-requires c =
    rw (sub-zero, c.told-t.ensures.values) c.requires

pub returns : goal.returns
returns c =
    (c.told-t.ensures.number, rw (sub-zero, c.told-t.ensures.values) at c.give.ensures)
