use mathlib.Core.Path.{◌≡◌}
use mathlib.Core.List.{map}
use lib.ListN.{drop}
use lib.Seq.{sets}
use Rattle.blif.specs.Read.{place_in}
use Rattle.bliftext.specs.Named.{names_at}
use Rattle.blifline.proofs.put_outputs.Given as goal

abbrev pub invariant-loop-i : goal.invariant-loop-i
invariant-loop-i l =
    (sets l.u l.i (map (place_in (names_at l.text l.signals)) (drop l.i (names_at l.text l.outputs))) ≡ sets l.initial.u 0 (map (place_in (names_at l.text l.signals)) (names_at l.text l.outputs)))
