-- `put_opening`: the word, the fan-ins' names, the own name, the newline. Assumes nothing.
use native.Mathlib.Omega.{arith}
use lib.ListN.{length, get_or}
use Rattle.buffer.proofs.Laying.{laid-length}
use Rattle.blifwrite.proofs.Pieces.{names-within, name-within, opening-laid}
use Rattle.blifwrite.proofs.put_opening.Goals as goal

pub put_name-c-requires : goal.put_name-c-requires
put_name-c-requires c =
    let fs = c.args.fs.now in
    let a = c.copy-a.ensures.behind in
    let l = laid-length c.copy-a.ensures in
    let v = names-within (λ i. get_or fs i 0) (length fs) c.requires.0 c.put_names-b.ensures in
    (c.requires.1, omega arith)

pub copy-requires : goal.copy-requires
copy-requires c =
    let fs = c.args.fs.now in
    let a = c.copy-a.ensures.behind in
    let l = laid-length c.copy-a.ensures in
    let v = names-within (λ i. get_or fs i 0) (length fs) c.requires.0 c.put_names-b.ensures in
    let k = name-within c.args.x c.requires.1 c.put_name-c.ensures in
    omega arith

pub returns : goal.returns
returns c =
    let x = c.args in
    let fs = x.fs.now in
    opening-laid (length fs) (λ i. get_or fs i 0) x.x c.copy-a.ensures c.put_names-b.ensures c.put_name-c.ensures c.copy.ensures
