use mathlib.Core.List.{[]}
use Prim.Native.Nat.{◌-◌}
use lib.ListN.{length, drop}
use Rattle.blif.specs.Text.{statements}
use Rattle.blif.specs.Read.{read_blocks}
use Rattle.bliftext.specs.Named.{names_at}
use Rattle.blifread.specs.Drafts.{draft_of, signals_at, Left}
use Rattle.blifread.proofs.blocks.Given as goal

abbrev pub invariant-loop-l : goal.invariant-loop-l
invariant-loop-l l = Left l.text (names_at l.text l.outputs) l.u l.ns l.i (read_blocks (draft_of (signals_at l.text l.initial.u l.initial.ns) (names_at l.text l.outputs) l.initial.u [] 0) (statements (drop l.at l.text)))

abbrev pub decreases-loop-l : goal.decreases-loop-l
decreases-loop-l l = length l.text - l.i
