-- What is known of the flat arrays: what refusal 10's tests show, in the form that loops over gates and outputs use, and what the
-- types of a session's arrays say. Assumes nothing.
use Rattle.std.specs.Prelude.{◌≡◌, List, ℕ, ◌+◌, ◌*◌, ◌^◌, ◌<◌, ◌≤◌, length, get_or}
use Rattle.bits.specs.Bounds.{most_inputs, gate_places}
use Rattle.bits.specs.Lists.{Bytes}
use Rattle.network.specs.declared.Session.{Session}
use Rattle.network.specs.Bounds.{most_gates, most_outputs, most_fanins, fanin_places, excluded_words}

-- gate g has one to most_fanins fan-ins, each a signal below e
pub record GateOk (arity fanins : List ℕ) (g e : ℕ) : Type 0 where
  pub some : 1 ≤ get_or arity g 0
  pub few : get_or arity g 0 ≤ most_fanins
  pub early : (r : ℕ) → r < get_or arity g 0 → get_or fanins (gate_places * g + r) 0 < e

-- the first m gates, each with earlier signals as fan-ins
pub record NetOk (arity fanins : List ℕ) (n m : ℕ) : Type 0 where
  pub ins : n ≤ most_inputs
  pub most : m ≤ most_gates
  pub gate : (g : ℕ) → g < m → GateOk arity fanins g (n + g)

-- the first p outputs are signals below e
pub record OutputsOk (outputs : List ℕ) (p e : ℕ) : Type 0 where
  pub most : p ≤ most_outputs
  pub each : (i : ℕ) → i < p → get_or outputs i 0 < e

-- the lengths of a session's arrays
pub record Sized (s : Session) : Type 0 where
  pub words : length s.excluded ≡ excluded_words
  pub arities : length s.arity ≡ most_gates
  pub slots : length s.fanins ≡ fanin_places
  pub loads : length s.loaded ≡ most_gates
  pub currents : length s.current ≡ most_gates
  pub opens : length s.open_tables ≡ most_gates
  pub outs : length s.outputs ≡ most_outputs

-- and the range of a word
pub record Shaped (s : Session) : Type 0 where
  pub sized : Sized s
  pub wide : (w : ℕ) → get_or s.excluded w 0 < 2 ^ 64

-- the range of what a session holds in bytes
pub record Narrow (s : Session) : Type 0 where
  pub counts : (s.n < 256) × (s.m < 256) × (s.p < 256)
  pub arities : Bytes s.arity
  pub slots : Bytes s.fanins
  pub outs : Bytes s.outputs
