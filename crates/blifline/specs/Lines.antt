-- The tests of a line, and its names as places. Assumes nothing.
use Rattle.std.specs.Prelude.{◌≡◌, not, List, [], ◌∷◌, ℕ, ◌+◌, ◌-◌, ◌≤◌, eqb, length, take}
use Rattle.network.specs.Answer.{Answer}
use Rattle.network.specs.declared.Refusal.TheVariants.{OutsideSubset, BadName}
use Rattle.network.specs.Bounds.{most_gates, most_fanins}
use Rattle.network.specs.Tests.{refuse_if, count_test}
use Rattle.text.specs.Words.{Text, all}
use Rattle.blif.specs.Read.{foreign, names, misnamed, own_names, known}
use Rattle.bliftext.specs.declared.Span.{Span}
use Rattle.bliftext.specs.Spans.{span_of}
use Rattle.bliftext.specs.Named.{names_at, Inside}

-- the names are those at the first c places
pub record Held (text : Text) (names : List Span) (c : ℕ) (ws : List Text) : Type 0 where
  pub many : length ws ≡ c
  pub names-are : names_at text (take c names) ≡ ws
  pub inside : Inside text (take c names)

-- the span is the last of the names
pub record OwnAt (s : Text) (ws : List Text) (w : Span) : Type 0 where
  pub own : own_names ws ≡ span_of s w ∷ []
  pub upto : w.start ≤ w.end
  pub inside : w.end ≤ length s

-- the tests of a `.names` line behind m blocks
abbrev pub block_tests_of : List Text → ℕ → List Text → List Answer
block_tests_of signals m line =
    refuse_if (foreign line) OutsideSubset
    ∷ refuse_if (misnamed signals (names line)) BadName
    ∷ count_test most_fanins (length (names line) - 1)
    ∷ count_test most_gates (m + 1)
    ∷ []

-- the tests of the `.end` line behind m blocks
abbrev pub end_tests_of : (signals outputs : List Text) → ℕ → List Text → List Answer
end_tests_of signals outputs m line =
    refuse_if (not (eqb (length line) 1)) OutsideSubset
    ∷ refuse_if (not (all (known signals) outputs)) BadName
    ∷ count_test most_gates m
    ∷ []
