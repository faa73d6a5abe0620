use mathlib.Core.Path.{◌≡◌}
use mathlib.Core.List.{List}
use Prim.Native.Nat.{ℕ, ◌≤◌, ◌<◌}
use lib.ListN.{length}
use Rattle.network.specs.Bounds.{signal_words, gate_words}
use Rattle.network.specs.Flat.{net_of}
use Rattle.simulate.specs.Simulated.{Rows}
use Rattle.observability.specs.Odc.{OdcAt}
use Rattle.observability.proofs.odc_words.Given as goal

abbrev pub invariant-loop-g : goal.invariant-loop-g
invariant-loop-g l =
    (length l.odc ≡ gate_words) × ((ex : List ℕ) (h : ℕ) → l.a ≤ h → h < l.g → OdcAt (net_of l.arity l.fanins l.tables l.n l.m ex l.outs l.p) l.odc l.n h l.count)
    × (length l.other ≡ signal_words) × Rows l.arity l.fanins l.tables l.other l.n l.m l.count
