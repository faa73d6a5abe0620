-- `network::set_bytes` meets its contract. Assumes nothing.
use native.Mathlib.Omega.{arith}
use Rattle.network.proofs.Bytes.{set-small, set-large}
use Rattle.network.proofs.set_bytes.Goals as goal

pub returns-then-n-lt3 : goal.returns-then-n-lt3
returns-then-n-lt3 c = (set-small _ c.if-n-lt3.true, omega arith)

pub returns : goal.returns
returns c = set-large c.args.n c.power.result c.if-n-lt3.false c.requires (rw c.from.ensures at c.power.ensures)
