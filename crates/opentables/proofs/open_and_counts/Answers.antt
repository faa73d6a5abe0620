-- `opentables::open_and_counts` meets its contract. Assumes nothing.
use mathlib.Core.Path.{ap₂}
use mathlib.Core.List.{List}
use Prim.Native.Nat.{ℕ}
use Rattle.opentables.specs.declared.OpenCounts.{OpenCounts}
use Rattle.opentables.proofs.open_and_counts.Goals as goal

pub returns : goal.returns
returns c =
    ap₂ {C = OpenCounts} (λ (x y : List ℕ). record { opens = x; counts = y }) c.open_from-opens.ensures c.counts_of-counts.ensures
