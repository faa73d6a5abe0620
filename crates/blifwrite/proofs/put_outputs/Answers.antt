-- `put_outputs`: the first names of a list. Assumes nothing.
use mathlib.Core.Path.{◌≡◌}
use native.Mathlib.Omega.{arith}
use lib.ListN.{length}
use Rattle.network.specs.Bounds.{most_outputs}
use borrow.Author.Rules.{rules}
use Rattle.blifwrite.proofs.Pieces.{first-long, first_small, first-names}
use Rattle.blifwrite.proofs.put_outputs.Goals as goal

pub put_names-requires : goal.put_names-requires
put_names-requires c =
    let x = c.args in
    let h : length x.outs ≡ most_outputs = search rules in
    let n = first-long x.outs x.p (omega arith) in
    (first_small x.outs x.p (omega arith) c.requires.1, omega arith)

pub returns : goal.returns
returns c =
    let x = c.args in
    let h : length x.outs ≡ most_outputs = search rules in
    rw (first-names x.outs x.p (omega arith)) at c.put_names.ensures
