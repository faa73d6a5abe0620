-- The bytes of a session: 01, 'The file'. The current tables are written; the excluded set is left out where it is empty. Assumes nothing.
use Rattle.std.specs.Prelude.{Bool, true, cond, ◌&&◌, List, [], ◌∷◌, ◌++◌, ℕ, zero, suc, ◌+◌, ◌%◌, eqb, leb, get_or, take}
use Rattle.bits.specs.Lists.{bytes_in}
use Rattle.network.specs.declared.Session.{Session}
use Rattle.network.specs.State.{arity_of, fanins_of}
use Rattle.network.specs.Load.{set_bytes, GateForm, narrow, wide}

abbrev pub word_bytes : List ℕ → List ℕ
word_bytes [] = []
word_bytes (w ∷ ws) = bytes_in 8 w ++ word_bytes ws

abbrev pub all_zero : List ℕ → Bool
all_zero [] = true
all_zero (w ∷ ws) = eqb w 0 && all_zero ws

unfoldable pub header_bytes : Session → List ℕ
header_bytes s = 0x4E ∷ 0x49 ∷ s.n ∷ s.m ∷ s.p ∷ []

unfoldable pub excluded_bytes : Session → List ℕ
excluded_bytes s = cond (all_zero s.excluded) [] (0x4E ∷ 0x58 ∷ take (set_bytes s.n) (word_bytes s.excluded))

-- by k alone: the narrow record where it takes k fan-ins
abbrev pub form_for : ℕ → GateForm
form_for k = cond (leb k narrow.most) narrow wide

unfoldable pub gate_bytes : Session → ℕ → List ℕ
gate_bytes s g =
    let f = form_for (arity_of s g) in
    0x4E ∷ f.opening % 256 ∷ arity_of s g ∷ fanins_of s g ++ bytes_in f.bytes (get_or s.current g 0)

-- c gates from number g
abbrev pub gates_bytes : Session → ℕ → ℕ → List ℕ
gates_bytes s zero g = []
gates_bytes s (suc c) g = gate_bytes s g ++ gates_bytes s c (g + 1)

unfoldable pub output_bytes : Session → ℕ → List ℕ
output_bytes s i = 0x4E ∷ 0x4F ∷ get_or s.outputs i 0 ∷ []

-- c outputs from number i
abbrev pub outputs_bytes : Session → ℕ → ℕ → List ℕ
outputs_bytes s zero i = []
outputs_bytes s (suc c) i = output_bytes s i ++ outputs_bytes s c (i + 1)

unfoldable pub bytes_of : Session → List ℕ
bytes_of s = header_bytes s ++ (excluded_bytes s ++ (gates_bytes s s.m 0 ++ outputs_bytes s s.p 0))
