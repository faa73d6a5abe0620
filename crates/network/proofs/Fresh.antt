-- What a load gives: a session that passes refusal 10's test, whose current tables are the loaded ones, with the open tables of the
-- loaded network. Assumes nothing.
use mathlib.Core.Path.{◌≡◌}
use lib.ListN.{length}
use Rattle.network.specs.declared.Session.{Session}
use Rattle.network.specs.Answer.{Done}
use Rattle.network.specs.Bounds.{most_gates, fanin_places}
use Rattle.network.specs.Compatible.{open_tables}
use Rattle.network.specs.Flat.{loaded_net}
use Rattle.network.specs.State.{state_fault}

pub record Fresh (s : Session) : Type 0 where
  pub valid : state_fault s ≡ Done
  pub same : s.current ≡ s.loaded
  pub held : s.open_tables ≡ open_tables (loaded_net s)
  -- the lengths of its arrays
  pub slots : length s.fanins ≡ fanin_places
  pub arities : length s.arity ≡ most_gates
  pub tables : length s.loaded ≡ most_gates
