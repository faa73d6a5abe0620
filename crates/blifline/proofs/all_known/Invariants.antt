use mathlib.Core.Path.{◌≡◌}
use Prim.Native.Nat.{◌-◌}
use lib.ListN.{take, drop}
use Rattle.text.specs.Words.{all}
use Rattle.blif.specs.Text.{fields}
use Rattle.blif.specs.Read.{known}
use Rattle.bliftext.specs.Named.{names_at}
use Rattle.bliftext.specs.Spans.{WordAt}
use Rattle.blifline.proofs.all_known.Given as goal

abbrev pub invariant-loop-i : goal.invariant-loop-i
invariant-loop-i l = WordAt l.s l.at (drop l._i (fields (drop l.at l.s))) l.x × (all (known (names_at l.text l.signals)) (take (l.k - l._i) (drop l._i (fields (drop l.at l.s)))) ≡ all (known (names_at l.text l.signals)) (take l.k (fields (drop l.at l.s))))
