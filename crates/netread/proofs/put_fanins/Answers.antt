use mathlib.Core.Path.{◌≡◌}
use native.Mathlib.Omega.{arith}
use lib.ListN.{length}
use borrow.Author.Rules.{rules}
use Rattle.network.specs.Bounds.{fanin_places}
use Rattle.netread.proofs.Steps.{sets-there}
use Rattle.netread.proofs.put_fanins.Goals as goal

pub returns : goal.returns
returns c =
    let a = c.args in
    let l : length a.fanins ≡ fanin_places = search rules in
    rw c.copy_from_slice.ensures.after (sets-there a.fanins a.fs.now a.at (omega arith))
