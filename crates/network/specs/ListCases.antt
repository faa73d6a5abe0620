-- Cases of the verdict on lists, each computed and held against what is stated. A case is a pair: what the definitions give, and what
-- is stated. Assumes nothing.
use Rattle.std.specs.Prelude.{List, [], ◌∷◌, ℕ, replicate}
use Rattle.std.proofs.lemmas.List.Edits.{sets}
use Rattle.network.specs.declared.Session.{Session}
use Rattle.network.specs.Bounds.{most_gates}
use Rattle.network.specs.Net.{Net, Replacement, replaced}
use Rattle.network.specs.Refusals.{said}
use Rattle.network.specs.Load.{session_of, load_of}
use Rattle.network.specs.Calls.{with_current, pairs, harm_test, verdict_of}
use Rattle.network.specs.Sessions.{after}
use Rattle.network.specs.Examples.{twin_session, two_copies, three_copies}
use Rattle.network.specs.Cases.{to}

-- a verdict on two lists after some exchanges, and the harm of a list on a loaded network, in 01's numbers
abbrev pub list_said : Session → List Replacement → (gates tables : List ℕ) → List ℕ
list_said s es gs ts = said (verdict_of (after s es) gs ts)

abbrev pub harm_said : Net → (gates tables : List ℕ) → List ℕ
harm_said N gs ts = said (harm_test N (replaced N (pairs gs ts)))

-- the twin network with both copies' current tables 0, as no load and exchange give it
abbrev pub by_hand : Session
by_hand = with_current twin_session (sets (replicate most_gates 0) 0 (0 ∷ 0 ∷ 0xE ∷ []))

abbrev pub lists : List (List ℕ × List ℕ)
lists =
    -- each alone is harmless, both are not; and a handful that is
    (list_said twin_session [] (1 ∷ 2 ∷ []) (0 ∷ 0 ∷ []), 14 ∷ 1 ∷ 0 ∷ [])
    ∷ (list_said twin_session [] (1 ∷ 3 ∷ []) (0 ∷ 0xC ∷ []), [])
    ∷ (list_said twin_session [] [] [], [])
    -- 15, not 11
    ∷ (list_said twin_session [] (1 ∷ []) [], 15 ∷ [])
    ∷ (list_said twin_session [] (0 ∷ []) [], 15 ∷ [])
    -- 16 before 12 of one pair; 12 of an earlier pair
    ∷ (list_said twin_session [] (1 ∷ 1 ∷ []) (0 ∷ 4 ∷ []), 16 ∷ [])
    ∷ (list_said twin_session [] (1 ∷ 1 ∷ []) (4 ∷ 0 ∷ []), 12 ∷ [])
    -- the first pair at fault decides
    ∷ (list_said twin_session [] (0 ∷ 1 ∷ []) (0 ∷ 4 ∷ []), 11 ∷ [])
    ∷ (list_said twin_session [] (3 ∷ 0 ∷ []) (0x10 ∷ 0 ∷ []), 12 ∷ [])
    ∷ (list_said twin_session [] (1 ∷ 2 ∷ 1 ∷ 9 ∷ []) (0 ∷ 2 ∷ 2 ∷ 0 ∷ []), 16 ∷ [])
    ∷ (list_said twin_session [] (1 ∷ 2 ∷ 9 ∷ 1 ∷ []) (0 ∷ 2 ∷ 0 ∷ 0 ∷ []), 11 ∷ [])
    ∷ (list_said twin_session [] (1 ∷ 2 ∷ 3 ∷ 1 ∷ []) (2 ∷ 2 ∷ 0xE ∷ 2 ∷ []), 16 ∷ [])
    -- the current network is judged: by the loaded tables the first would be harmless
    ∷ (list_said twin_session (to 1 0 ∷ []) (2 ∷ []) (0 ∷ []), 14 ∷ 1 ∷ 0 ∷ [])
    ∷ (list_said twin_session (to 1 0 ∷ []) (1 ∷ 2 ∷ []) (2 ∷ 0 ∷ []), [])
    ∷ (list_said by_hand [] [] [], 14 ∷ 1 ∷ 0 ∷ [])
    ∷ (list_said by_hand [] (1 ∷ []) (2 ∷ []), [])
    -- 10 before 15
    ∷ (list_said (session_of (load_of [])) [] (1 ∷ []) [], 10 ∷ [])
    -- one gate after the other would tell neither: each harmful, both harmless
    ∷ (harm_said two_copies (1 ∷ []) (1 ∷ []), 14 ∷ 0 ∷ 0 ∷ [])
    ∷ (harm_said two_copies (2 ∷ []) (1 ∷ []), 14 ∷ 0 ∷ 0 ∷ [])
    ∷ (harm_said two_copies (1 ∷ 2 ∷ []) (1 ∷ 1 ∷ []), [])
    -- and two at a time tell nothing of three
    ∷ (harm_said three_copies (1 ∷ 2 ∷ []) (0 ∷ 0 ∷ []), [])
    ∷ (harm_said three_copies (1 ∷ 3 ∷ []) (0 ∷ 0 ∷ []), [])
    ∷ (harm_said three_copies (2 ∷ 3 ∷ []) (0 ∷ 0 ∷ []), [])
    ∷ (harm_said three_copies (1 ∷ 2 ∷ 3 ∷ []) (0 ∷ 0 ∷ 0 ∷ []), 14 ∷ 1 ∷ 0 ∷ [])
    ∷ []
