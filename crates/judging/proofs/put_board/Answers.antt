-- `put_board`: the session that is written is the one with all tables in place. Assumes nothing.
use mathlib.Core.Path.{◌≡◌}
use Prim.Native.Nat.{◌-◌}
use lib.ListN.{length, take}
use borrow.Author.Rules.{rules}
use Rattle.judging.proofs.Judging.{gates-placed, board-fits, board-is}
use Rattle.judging.proofs.put_board.Goals as goal

pub replace_tables-all-requires : goal.replace_tables-all-requires
replace_tables-all-requires c =
    let n = c.count-n.result in
    let same : length (take (n - 0) c.args.o.gates) ≡ length (take (n - 0) c.args.o.tables) = search rules in
    record { gates_len = same; gates_in = gates-placed c.args.s c.args.o c.count-n.result same c.count-n.ensures c.requires.1 }

pub write_bytes-requires : goal.write_bytes-requires
write_bytes-requires c =
    board-fits c.args.s c.args.o c.count-n.result c.replace_tables-all.result c.count-n.ensures c.replace_tables-all.ensures.0 c.requires.1 c.requires.2

pub returns : goal.returns
returns c =
    board-is c.args.s c.args.o c.count-n.result c.replace_tables-all.result c.count-n.ensures c.replace_tables-all.ensures.0 _ c.args.buf.now _ c.write_bytes.ensures
