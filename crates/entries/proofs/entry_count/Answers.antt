-- `entries::entry_count` meets its contract. Assumes nothing.
use native.Mathlib.Omega.{arith}
use mathlib.Core.Path.{refl}
use Rattle.bits.proofs.Cuts.{one_shl}
use Rattle.bits.proofs.Ranges.{entries-most}
use Rattle.entries.proofs.entry_count.Goals as goal

pub returns : goal.returns
returns c =
    let k = c.args.k in
    let few = entries-most k (omega arith) in
    rw (one_shl k 32 (omega arith)) (refl, few)
