use mathlib.Core.Path.{◌≡◌}
use mathlib.Core.List.{◌++◌}
use Prim.Native.Nat.{◌*◌, ◌-◌}
use lib.ListN.{length, take, drop}
use Rattle.network.specs.Bounds.{excluded_words}
use Rattle.network.specs.Load.{words_from}
use Rattle.netread.proofs.words.Given as goal

abbrev pub invariant-loop-i : goal.invariant-loop-i
invariant-loop-i l = (length l.ws ≡ excluded_words) × (take l.i l.ws ++ words_from (excluded_words - l.i) (drop (8 * l.i) l.bs) ≡ words_from excluded_words l.bs)
