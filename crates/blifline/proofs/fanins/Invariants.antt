use mathlib.Core.Path.{◌≡◌}
use mathlib.Core.List.{map}
use Prim.Native.Nat.{◌+◌, ◌-◌}
use lib.ListN.{take, drop}
use lib.Seq.{sets}
use Rattle.blif.specs.Text.{fields}
use Rattle.blif.specs.Read.{place_in}
use Rattle.bliftext.specs.Named.{names_at}
use Rattle.bliftext.specs.Spans.{WordAt}
use Rattle.blifline.proofs.fanins.Given as goal

abbrev pub invariant-loop-i : goal.invariant-loop-i
invariant-loop-i l = WordAt l.s l.at (drop l.i (fields (drop l.at l.s))) l.x × (sets l.u (l.b + l.i) (map (place_in (names_at l.text l.signals)) (take (l.k - l.i) (drop l.i (fields (drop l.at l.s))))) ≡ sets l.initial.u l.b (map (place_in (names_at l.text l.signals)) (take l.k (fields (drop l.at l.s)))))
