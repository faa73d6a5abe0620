use Prim.Native.Nat.{◌*◌, ◌≤◌}
use Rattle.buffer.specs.Laid.{Laid}
use Rattle.network.specs.Bounds.{most_gates}
use Rattle.promises.specs.Boundary.{all_table_words, tables_room}
use Rattle.boundary.proofs.put_tables.Given as goal

abbrev pub invariant-loop-g : goal.invariant-loop-g
invariant-loop-g l = (l.m ≤ most_gates) × Laid l.initial.out 0 (all_table_words l.s l.g) l.out (tables_room * l.g)
