use mathlib.Core.Path.{◌≡◌}
use Prim.Native.Nat.{◌-◌, ◌^◌, ◌<◌}
use lib.ListN.{length, drop}
use Rattle.network.specs.Load.{little_endian}
use Rattle.netread.proofs.word.Given as goal

abbrev pub invariant-loop-j : goal.invariant-loop-j
invariant-loop-j l = (l.w ≡ little_endian (drop l.j l.bs)) × (l.w < 256 ^ (length l.bs - l.j))
