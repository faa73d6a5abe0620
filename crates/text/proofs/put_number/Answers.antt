-- `put_number`: the digits, and the byte behind them. Assumes nothing.
use native.Mathlib.Omega.{arith}
use borrow.Author.Rules.{rules}
use Rattle.text.proofs.Digits.{length-decimal, place-behind, number-laid}
use Rattle.text.proofs.put_number.Goals as goal

pub put_decimal-e-requires : goal.put_decimal-e-requires
put_decimal-e-requires c =
    let n = length-decimal c.args.x in
    let h = c.requires.1 in
    (c.requires.0, omega arith)

pub bounds-buf-e : goal.bounds-buf-e
bounds-buf-e c =
    place-behind 4 (length-decimal c.args.x) c.put_decimal-e.ensures c.requires.1

pub overflow_add-result : goal.overflow_add-result
overflow_add-result c = let h = bounds-buf-e c in search rules

pub returns : goal.returns
returns c =
    number-laid c.args.x c.args.after c.put_decimal-e.ensures
