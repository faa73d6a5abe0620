use mathlib.Core.Path.{◌≡◌}
use lib.ListN.{length}
use Rattle.network.specs.Bounds.{fanin_places}
use Rattle.buffer.specs.Laid.{Laid}
use Rattle.blifwrite.specs.Pieces.{blocks_bytes}
use Rattle.blifwrite.proofs.put_blocks.Given as goal

abbrev pub invariant-loop-g : goal.invariant-loop-g
invariant-loop-g l = Laid l.initial.buf l.at (blocks_bytes l.s l.g) l.buf l.a × (length l.fanins ≡ fanin_places)
