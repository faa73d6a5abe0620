-- `answers::first_closed` meets its contract. Assumes nothing.
use mathlib.Core.Path.{ap, ◌∙◌}
use mathlib.Core.Bool.{not, ◌&&◌}
use Prim.Native.Nat.{ℕ, ◌^◌}
use Rattle.bits.specs.Range.{smallest}
use Rattle.bits.specs.Bit.{bit, differs}
use Rattle.network.specs.Calls.{entry_found}
use Rattle.answers.proofs.LowestClosed.{none-closed, lowest-closed}
use native.Mathlib.Omega.{arith}
use Rattle.answers.proofs.first_closed.Goals as goal

pub returns-then-altered-eq0 : goal.returns-then-altered-eq0
returns-then-altered-eq0 c =
    let a = c.args in
    none-closed c.entry_count-entries.result a.opens a.loaded a.table c.complement.result c.mask.result (omega (arith, c.entry_count-entries.ensures)) c.complement.ensures c.mask.ensures.1 c.if-altered-eq0.true
    ∙ ap (λ (n : ℕ). entry_found (smallest n (λ t. not (bit a.opens t) && differs (bit a.loaded t) (bit a.table t)))) (c.entry_count-entries.ensures.0 ∙ ap (λ (k : ℕ). 2 ^ k) c.from.ensures)

pub returns : goal.returns
returns c =
    let a = c.args in
    lowest-closed c.entry_count-entries.result a.opens a.loaded a.table c.complement.result c.mask.result (omega (arith, c.entry_count-entries.ensures)) c.complement.ensures c.mask.ensures.1 c.lowest_bit-t.result c.lowest_bit-t.ensures.1 c.lowest_bit-t.ensures.2
    ∙ ap (λ (n : ℕ). entry_found (smallest n (λ t. not (bit a.opens t) && differs (bit a.loaded t) (bit a.table t)))) (c.entry_count-entries.ensures.0 ∙ ap (λ (k : ℕ). 2 ^ k) c.from.ensures)
