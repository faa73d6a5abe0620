use mathlib.Core.Path.{◌≡◌}
use mathlib.Core.List.{List}
use Prim.Native.Nat.{ℕ, ◌^◌}
use lib.ListN.{get_or}
use Rattle.dontcares.proofs.TableLaws.{delivers, up_to}
use Rattle.dontcares.proofs.delivered.Given as goal

abbrev pub invariant-loop-w : goal.invariant-loop-w
invariant-loop-w l = ((ts : List ℕ) → l.acc ≡ up_to (delivers l.arity l.fanins ts l.rows l.keep l.g) (2 ^ get_or l.arity l.g 0) l.w)
