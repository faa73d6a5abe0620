use mathlib.Core.Path.{◌≡◌}
use lib.ListN.{drop}
use Rattle.network.specs.Flat.{stored_all}
use Rattle.network.specs.Calls.{pairs}
use Rattle.replacements.proofs.replace_tables.Given as goal

abbrev pub invariant-loop-i : goal.invariant-loop-i
invariant-loop-i l = stored_all l.n (pairs (drop l.i l.gates) (drop l.i l.tables)) l.all ≡ stored_all l.n (pairs l.gates l.tables) l.initial.all
