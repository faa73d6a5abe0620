use mathlib.Core.Path.{◌≡◌}
use mathlib.Core.List.{map}
use Prim.Native.Nat.{◌-◌}
use lib.ListN.{length}
use Rattle.bits.specs.Range.{up_from}
use Rattle.network.specs.Tests.{first, fanin_test, fanins_test}
use Rattle.state.proofs.fanins_test.Given as goal

abbrev pub invariant-loop-j : goal.invariant-loop-j
invariant-loop-j l = first (map (fanin_test l.limit l.fs) (up_from l.j (length l.fs - l.j))) ≡ fanins_test l.limit l.fs
