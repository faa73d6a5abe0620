-- `dontcares::gate_tables` meets its contract. Assumes nothing.
use Prim.Native.Nat.{◌<◌}
use native.Mathlib.Omega.{arith}
use Rattle.network.specs.Bounds.{most_gates}
use Rattle.network.proofs.Valid.{net-ok}
use Rattle.dontcares.proofs.gate_tables.Goals as goal
use Rattle.dontcares.proofs.gate_tables.Goals.{Start}

few : (s : Start) → s.args.g < most_gates
few s = omega (arith, s.requires.g_lt_m, (net-ok s.args.s s.requires.s_value).most)

pub bounds-cdc-g : goal.bounds-cdc-g
bounds-cdc-g c = few (goal.at.bounds-cdc-g c).Start

pub bounds-full-g : goal.bounds-full-g
bounds-full-g c = few (goal.at.bounds-full-g c).Start

pub returns : goal.returns
returns c =
    c.sets_between-r.ensures.1.at c.args.g (omega arith) (omega arith)
