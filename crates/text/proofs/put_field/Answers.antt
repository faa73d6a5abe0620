-- `put_field`: the digits, and the byte behind them. Assumes nothing.
use native.Mathlib.Omega.{arith}
use borrow.Author.Rules.{rules}
use Rattle.text.proofs.Digits.{length-hex, place-behind, field-laid}
use Rattle.text.proofs.put_field.Goals as goal

pub put_hex-e-requires : goal.put_hex-e-requires
put_hex-e-requires c =
    let n = length-hex c.args.c c.args.x in
    let h = c.requires.1 in
    (c.requires.0, omega arith)

pub bounds-buf-e : goal.bounds-buf-e
bounds-buf-e c =
    place-behind c.args.c (let n = length-hex c.args.c c.args.x in omega arith) c.put_hex-e.ensures c.requires.1

pub overflow_add-result : goal.overflow_add-result
overflow_add-result c = let h = bounds-buf-e c in search rules

pub returns : goal.returns
returns c =
    field-laid c.args.c c.args.x c.put_hex-e.ensures
