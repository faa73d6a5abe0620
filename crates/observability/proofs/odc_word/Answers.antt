-- `observability::odc_word` meets its contract. Assumes nothing.
use mathlib.Core.Path.{sym, ap, ◌∙◌}
use mathlib.Core.Bool.{Bool, not, ◌&&◌}
use Prim.Native.Nat.{ℕ}
use native.Mathlib.Nat.{lt_of_le_of_lt}
use lib.Bits.{bit_and, and_le_l}
use Rattle.bits.specs.Bit.{bit, table_of}
use Rattle.bits.proofs.BitLaws.{bit-and, bit-ext}
use Rattle.bits.proofs.Ranges.{table-lt, bit-table}
use Rattle.observability.proofs.odc_word.Goals as goal

pub returns : goal.returns
returns c =
    let a = c.args in
    let test : ℕ → Bool = λ b. bit a.live b && not (bit a.seen b) in
    bit-ext 64 (bit_and a.live c.complement.result) (table_of 64 test) (lt_of_le_of_lt (and_le_l a.live c.complement.result) c.ranges.live.fits) (table-lt 64 test)
    (λ i h. bit-and a.live c.complement.result i ∙ ap (λ (x : Bool). bit a.live i && x) (c.complement.ensures i h) ∙ sym (bit-table 64 test i h))
