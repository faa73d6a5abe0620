-- `replacements::is_gate` meets its contract. Assumes nothing.
use mathlib.Core.Path.{◌≡◌}
use mathlib.Core.Bool.{false, ◌&&◌}
use Prim.Native.Nat.{ℕ, ◌+◌, ◌<◌, ◌≤◌}
use lib.Dec.{leb, ltb}
use borrow.Author.Tests.{lt-leb, le-leb}
use Rattle.replacements.proofs.is_gate.Goals as goal

low : (n m g : ℕ) → g < n → false ≡ (leb n g && ltb g (n + m))
low n m g h = rw (lt-leb n g h)

other : (n m g : ℕ) → n ≤ g → ltb g (n + m) ≡ (leb n g && ltb g (n + m))
other n m g h = rw (le-leb n g h)

pub returns-then-gate-n : goal.returns-then-gate-n
returns-then-gate-n c = let a = c.args in low a.n a.m a.gate c.if-gate-n.true

pub returns : goal.returns
returns c = let a = c.args in other a.n a.m a.gate c.if-gate-n.false
