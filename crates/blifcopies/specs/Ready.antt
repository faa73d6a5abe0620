-- A network in flat arrays that can go out. Assumes nothing.
use Rattle.std.specs.Prelude.{ℕ, ◌+◌, ◌*◌, ◌≤◌, ◌<◌, get_or}
use Rattle.bits.specs.Bounds.{most_inputs, gate_places}
use Rattle.network.specs.declared.Session.{Session}
use Rattle.network.specs.Bounds.{most_gates, most_outputs, most_fanins, most_signals}
use Rattle.network.specs.State.{arity_of}

-- fan-in r of gate g
abbrev pub fanin_at : Session → (g r : ℕ) → ℕ
fanin_at s g r = get_or s.fanins (gate_places * g + r) 0

-- the bounds that keep the pieces of a text short
pub record Ready (s : Session) : Type 0 where
  pub inputs : s.n ≤ most_inputs
  pub gates : s.m ≤ most_gates
  pub outs : s.p ≤ most_outputs
  pub few : (g : ℕ) → g < s.m → arity_of s g ≤ most_fanins
  pub early : (g r : ℕ) → g < s.m → r < arity_of s g → fanin_at s g r < most_signals
  pub driven : (i : ℕ) → i < s.p → get_or s.outputs i 0 < most_signals
