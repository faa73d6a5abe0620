-- `edges::turned` meets its contract. Assumes nothing.
use Prim.Native.Nat.{ℕ, ◌*◌, ◌%◌, ◌^◌, ◌≤◌, ◌<◌}
use native.Mathlib.Omega.{arith}
use lib.Pow.{pow_mono}
use Rattle.bits.proofs.Cuts.{one_shl}
use Rattle.edges.proofs.EdgeWords.{turned-word}
use Rattle.edges.proofs.turned.Goals as goal

step_small : (r : ℕ) → r < 6 → (1 * 2 ^ r) % 2 ^ 64 < 64
step_small r h = let q : 2 ^ r ≤ 32 = pow_mono {j = 5} (omega arith) in omega (arith, one_shl r 64 (omega arith))

pub overflow_shl-x : goal.overflow_shl-x
overflow_shl-x c = step_small c.args.r (omega arith)

pub overflow_shr-x : goal.overflow_shr-x
overflow_shr-x c = step_small c.args.r (omega arith)

pub returns : goal.returns
returns c = λ t h.
    let a = c.args in
    turned-word a.x a.r ((1 * 2 ^ a.r) % 2 ^ 64) c.input_word.result c.mux.result t (omega arith) h (one_shl a.r 64 (omega arith)) (c.input_word.ensures t h) (c.mux.ensures t)
