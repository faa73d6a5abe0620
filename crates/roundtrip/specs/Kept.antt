-- What request Five of 02 keeps of the file: 'stored gates with up to four fan-ins keep their record', 'old files load as before, and a
-- network that needs no new record is written with the bytes the old writer gave'. Assumes nothing.
use Rattle.std.specs.Prelude.{◌≡◌, List, [], ◌∷◌, ℕ, ◌≤◌, ◌<◌, length, Result}
use Rattle.network.specs.declared.Refusal.{Refusal}
use Rattle.network.specs.declared.Session.{Session}
use Rattle.network.specs.Refusals.{said}
use Rattle.network.specs.Tests.{first, mark}
use Rattle.network.specs.State.{arity_of}
use Rattle.network.specs.Load.{gate_record, read_of, load_of}
use Rattle.network.specs.Write.{gate_bytes, bytes_of}
use Rattle.roundtrip.specs.OldFile.{old_gate_tests, old_read_of, old_load_of, old_gate_bytes, old_bytes_of}

-- where no wide record opens what is left, a gate's tests are those of 01
abbrev pub OldRecord : Type 0
OldRecord = (limit : ℕ) (rest : List ℕ) → (2 ≤ length rest → mark rest ≡ 0x4E48 → ⊥) → gate_record limit rest ≡ first (old_gate_tests limit rest)

-- whatever was answered but 2, answer and session stay: a file that loaded loads to the same session, and one that was refused with
-- another number is refused with that number
abbrev pub Stays : (old new : List ℕ → Result Session Refusal) → Type 0
Stays old new = (bytes : List ℕ) → (said (old bytes) ≡ 2 ∷ [] → ⊥) → new bytes ≡ old bytes

abbrev pub OldFiles : Type 0
OldFiles = Stays old_read_of read_of × Stays old_load_of load_of

-- a gate of up to four fan-ins is written as before
abbrev pub OldBytes : Type 0
OldBytes = (s : Session) (g : ℕ) → arity_of s g ≤ 4 → gate_bytes s g ≡ old_gate_bytes s g

-- and so is a network of such gates
abbrev pub OldWritten : Type 0
OldWritten = (s : Session) → ((g : ℕ) → g < s.m → arity_of s g ≤ 4) → bytes_of s ≡ old_bytes_of s
