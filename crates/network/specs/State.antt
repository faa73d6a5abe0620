-- Refusal 10 of 01: a state whose counts, fan-ins, tables, excluded set or outputs would fail 3 to 7. Assumes nothing.
-- Not tested: the held open tables, which are taken as they are, and places past the last gate or output.
use Rattle.std.specs.Prelude.{List, [], ◌∷◌, map, ℕ, ◌+◌, ◌^◌, get_or}
use Rattle.bits.specs.Bounds.{most_inputs}
use Rattle.bits.specs.Range.{up_from}
use Rattle.network.specs.declared.Session.{Session}
use Rattle.network.specs.declared.Refusal.TheVariants.{InvalidState}
use Rattle.network.specs.Answer.{Answer}
use Rattle.network.specs.Answer.{Done}
use Rattle.std.specs.Prelude.{Ok, Err}
use Rattle.network.specs.Bounds.{most_gates, most_outputs, most_fanins}
use Rattle.network.specs.Flat.{fanins_at}
use Rattle.network.specs.Tests.{first, count_test, fanins_test, width_test, excluded_test, output_test}

abbrev pub arity_of : Session → ℕ → ℕ
arity_of s g = get_or s.arity g 0

abbrev pub fanins_of : Session → ℕ → List ℕ
fanins_of s g = fanins_at s.arity s.fanins g

-- 3 to 6, of gate g
abbrev pub gate_tests : Session → ℕ → List Answer
gate_tests s g =
    count_test most_fanins (arity_of s g)
    ∷ fanins_test (s.n + g) (fanins_of s g)
    ∷ width_test (2 ^ arity_of s g) (get_or s.loaded g 0)
    ∷ width_test (2 ^ arity_of s g) (get_or s.current g 0)
    ∷ []

unfoldable pub gate_fault : Session → ℕ → Answer
gate_fault s g = first (gate_tests s g)

abbrev pub output_fault : Session → ℕ → Answer
output_fault s i = output_test (s.n + s.m) (get_or s.outputs i 0)

abbrev pub state_tests : Session → List Answer
state_tests s =
    count_test most_inputs s.n
    ∷ count_test most_gates s.m
    ∷ count_test most_outputs s.p
    ∷ excluded_test s.n s.excluded
    ∷ first (map (gate_fault s) (up_from 0 s.m))
    ∷ first (map (output_fault s) (up_from 0 s.p))
    ∷ []

-- the first of 3 to 7 that the state fails
unfoldable pub state_fault : Session → Answer
state_fault s = first (state_tests s)

abbrev pub as_invalid : Answer → Answer
as_invalid (Ok _) = Done
as_invalid (Err r) = Err InvalidState

-- 10: whichever of them it is
unfoldable pub state_test : Session → Answer
state_test s = as_invalid (state_fault s)
