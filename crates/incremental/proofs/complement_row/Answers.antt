-- `incremental::complement_row` meets its contract. Assumes nothing.
use mathlib.Core.Bool.{not}
use Prim.Native.Nat.{◌+◌, ◌*◌}
use native.Mathlib.Omega.{arith}
use lib.ListN.{get_or, length-set}
use Rattle.bits.specs.Bounds.{row_words}
use Rattle.bits.specs.Bit.{bit}
use Rattle.simulate.proofs.RowLaws.{filled-bits}
use Rattle.incremental.proofs.complement_row.Goals as goal

pub loop-w-preserved : goal.loop-w-preserved
loop-w-preserved c =
    let a = c.args in (
      simp length-set c.loop-w.invariant.0,
      filled-bits c.loop-w.word-items (λ v b. not (bit (get_or a.rows.now (row_words * a.s + v) 0) b)) c.loop-w.w c.complement.result (omega arith) c.loop-w.invariant.1 c.complement.ensures,
    )
