-- Cases of the digits, each computed and held against what is stated. Assumes nothing.
use Rattle.std.specs.Prelude.{List, [], ◌∷◌, ℕ}
use Rattle.network.specs.Examples.{g, net, segment, twin_net, or_six}
use Rattle.tabletext.specs.Digits.{digits}

abbrev pub counted : List (ℕ × ℕ)
counted =
    (digits twin_net, 4)
    -- one gate of four fan-ins, and of five
    ∷ (digits segment, 4)
    ∷ (digits (net 5 0 (g (0 ∷ 1 ∷ 2 ∷ 3 ∷ 4 ∷ []) 0 ∷ []) (5 ∷ [])), 16)
    -- the first of two has five, the last of seven six
    ∷ (digits (net 5 0 (g (0 ∷ 1 ∷ 2 ∷ 3 ∷ 4 ∷ []) 0 ∷ g (5 ∷ []) 2 ∷ []) (6 ∷ [])), 16)
    ∷ (digits or_six, 16)
    ∷ []
