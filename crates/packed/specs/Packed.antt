-- A session as a list of numbers, one to a word: how a program in another language holds it. Assumes nothing.
use Rattle.std.specs.Prelude.{Bool, true, not, ◌&&◌, List, [], ◌∷◌, ◌++◌, ℕ, ◌+◌, ltb, get_or, take, drop}
use Rattle.std.specs.Prelude.{Result}
use Rattle.network.specs.Answer.{Answer, giving}
use Rattle.network.specs.declared.Refusal.{Refusal}
use Rattle.network.specs.declared.Session.{Session}
use Rattle.network.specs.declared.Refusal.TheVariants.{InvalidState}
use Rattle.network.specs.Bounds.{most_gates, most_outputs, fanin_places, excluded_words}
use Rattle.network.specs.Tests.{refuse_if, first}
use Rattle.network.specs.State.{state_test}
use Rattle.network.specs.Calls.{room_test}

-- the numbers that a session holds in bytes
abbrev pub bytes_held : Session → List ℕ
bytes_held s = s.n ∷ s.m ∷ s.p ∷ s.arity ++ s.fanins ++ s.outputs

-- and those that it holds in words
abbrev pub words_held : Session → List ℕ
words_held s = s.excluded ++ s.loaded ++ s.current ++ s.open_tables

unfoldable pub packed_of : Session → List ℕ
packed_of s = bytes_held s ++ words_held s

-- ## The layout: where each part starts behind the three counts

abbrev pub arity_start : ℕ
arity_start = 3

abbrev pub fanins_start : ℕ
fanins_start = arity_start + most_gates

abbrev pub outputs_start : ℕ
outputs_start = fanins_start + fanin_places

abbrev pub excluded_start : ℕ
excluded_start = outputs_start + most_outputs

abbrev pub loaded_start : ℕ
loaded_start = excluded_start + excluded_words

abbrev pub current_start : ℕ
current_start = loaded_start + most_gates

abbrev pub open_start : ℕ
open_start = current_start + most_gates

-- how many words there are, and how many of them hold bytes
abbrev pub session_words : ℕ
session_words = open_start + most_gates

abbrev pub byte_words : ℕ
byte_words = excluded_start

-- c words from place at on
abbrev pub part : List ℕ → (at c : ℕ) → List ℕ
part ws at c = take c (drop at ws)

-- the session that the words hold
unfoldable pub session_in : List ℕ → Session
session_in ws = record {
  n = get_or ws 0 0;
  m = get_or ws 1 0;
  p = get_or ws 2 0;
  excluded = part ws excluded_start excluded_words;
  arity = part ws arity_start most_gates;
  fanins = part ws fanins_start fanin_places;
  loaded = part ws loaded_start most_gates;
  current = part ws current_start most_gates;
  open_tables = part ws open_start most_gates;
  outputs = part ws outputs_start most_outputs;
}

-- each of the numbers is a byte
abbrev pub all_bytes : List ℕ → Bool
all_bytes [] = true
all_bytes (x ∷ xs) = ltb x 256 && all_bytes xs

-- 10: a number past 255 where a session holds a byte
unfoldable pub bytes_test : List ℕ → Answer
bytes_test ws = refuse_if (not (all_bytes (take byte_words ws))) InvalidState

-- 9 where there are too few words to hold a session, else 10 where what they hold is none, or one that 01 refuses
unfoldable pub words_test : List ℕ → Answer
words_test ws = first (room_test session_words ws ∷ bytes_test ws ∷ state_test (session_in ws) ∷ [])

unfoldable pub unpack_of : List ℕ → Result Session Refusal
unpack_of ws = giving (words_test ws) (session_in ws)
