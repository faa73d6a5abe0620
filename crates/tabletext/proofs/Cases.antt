-- The cases of specs/Cases.antt hold, by computation. Assumes nothing.
use mathlib.Core.Path.{refl}
use Rattle.bits.specs.Lists.{Hold}
use Rattle.network.specs.Flat.{gate_at, gates_of, net_of, loaded_net}
use Rattle.tabletext.specs.Digits.{digits}
use Rattle.tabletext.specs.Cases.{counted}

pub cases-hold : Hold counted
unfolding gate_at gates_of net_of loaded_net digits
cases-hold = refl
