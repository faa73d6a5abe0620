-- `replacements::replace_tables` meets its contract: what is left to store gives the whole. Assumes nothing.
use mathlib.Core.Path.{◌≡◌, ap, ◌∙◌}
use mathlib.Core.List.{List}
use Prim.Native.Nat.{ℕ}
use native.Mathlib.Omega.{arith}
use lib.ListN.{length}
use borrow.Author.Rules.{rules}
use Rattle.network.specs.Bounds.{most_gates}
use Rattle.network.specs.Calls.{pairs}
use Rattle.replacements.proofs.Pairs.{stored-end, stored-length}
use Rattle.replacements.proofs.replace_tables.Goals as goal

pub returns : goal.returns
returns c =
    let l = c.loop-i in
    let a = c.args in
    let h : length a.current ≡ most_gates = search rules in
    let e = stored-end a.n a.gates.now a.tables.now l.all l.i (omega arith) ∙ l.invariant in
    (e, ap {B = ℕ} (λ (x : List ℕ). length x) e ∙ stored-length a.n (pairs a.gates.now a.tables.now) a.current ∙ h)
