use mathlib.Core.Path.{◌≡◌}
use mathlib.Core.List.{List}
use Prim.Native.Nat.{ℕ}
use Rattle.bits.specs.Bit.{bit}
use Rattle.network.specs.Tests.{member}
use Rattle.replacements.proofs.Pairs.{Left}
use Rattle.replacements.proofs.pairs_test.Given as goal

abbrev pub invariant-loop-i : goal.invariant-loop-i
invariant-loop-i l = (named : List ℕ) × ((k : ℕ) → bit l.seen k ≡ member k named) × Left l.n l.m l.arity l.gates l.tables named l.i
