use mathlib.Core.Path.{◌≡◌}
use Prim.Native.Nat.{◌*◌, ◌≤◌}
use Rattle.network.specs.Bounds.{most_entries}
use Rattle.render.specs.Text.{set_in}
use Rattle.render.proofs.set_in.Given as goal

abbrev pub invariant-loop-g : goal.invariant-loop-g
invariant-loop-g l = (l.sum ≡ set_in l.tables l.g) × (l.sum ≤ most_entries * l.g)
