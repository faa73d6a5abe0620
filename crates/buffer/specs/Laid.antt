-- Bytes or words laid into a buffer from a place on. Assumes nothing.
use Rattle.std.specs.Prelude.{◌≡◌, List, ℕ, ◌+◌, ◌≤◌, length}
use Rattle.std.proofs.lemmas.List.Edits.{sets}

-- they have room in the buffer
abbrev pub Room : List ℕ → ℕ → List ℕ → Type 0
Room buffer at new = at + length new ≤ length buffer

-- the buffer has them from place `at` on and is else as before; `next` is the place behind them
pub record Laid (before : List ℕ) (at : ℕ) (new after : List ℕ) (next : ℕ) : Type 0 where
  pub buffer : after ≡ sets before at new
  pub behind : next ≡ at + length new
