-- `simulate::wide_row` meets its contract. Assumes nothing.
use borrow.Author.Rules.{rules}
use mathlib.Core.Path.{◌≡◌}
use native.Mathlib.Omega.{arith}
use Rattle.simulate.specs.Simulated.{first_fanins}
use Rattle.simulate.proofs.wide_row.Goals as goal

pub returns-then-k-eq5 : goal.returns-then-k-eq5
unfolding first_fanins
returns-then-k-eq5 c =
    let k_is : c.args.k ≡ 5 = omega arith in
    rw k_is (record { long = c.fill_row.ensures.0; each = λ w b h k. let word = c.fill_row.ensures.1 w h in let known = c.function_rows.ensures w h in search rules })

pub returns : goal.returns
unfolding first_fanins
returns c =
    let k_is : c.args.k ≡ 6 = omega arith in
    rw k_is (record { long = c.fill_row-2.ensures.0; each = λ w b h k. let word = c.fill_row-2.ensures.1 w h in let known = c.function_rows.ensures w h in search rules })
