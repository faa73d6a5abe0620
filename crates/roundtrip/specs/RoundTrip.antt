-- 01, 'The file': a session that passes refusal 10's test, written and read again, is the same network; and which bytes matter.
-- The same network: the records `Net` are equal, in counts, fan-ins, tables, outputs and excluded set. Assumes nothing.
use Rattle.std.specs.Prelude.{◌≡◌, List, ℕ, ◌+◌, ◌≤◌, ◌<◌, length, take, Result, Ok, Err}
use Rattle.bits.specs.Lists.{Bytes}
use Rattle.network.specs.Answer.{Done}
use Rattle.network.specs.declared.Refusal.{Refusal}
use Rattle.network.specs.declared.Session.{Session}
use Rattle.network.specs.declared.Refusal.TheVariants.{Truncated}
use Rattle.network.specs.Bounds.{most_file_bytes}
use Rattle.network.specs.Flat.{loaded_net, current_net}
use Rattle.network.specs.Valid.{Shaped}
use Rattle.network.specs.State.{state_fault}
use Rattle.network.specs.Load.{read_of, load_of}
use Rattle.network.specs.Write.{bytes_of}

-- s written and read again is a session whose loaded and whose current network are the current one of s
pub record Returns (read : List ℕ → Result Session Refusal) (s : Session) : Type 0 where
  pub session : Session
  pub reads : read (bytes_of s) ≡ Ok session
  pub loaded : loaded_net session ≡ current_net s
  pub current : current_net session ≡ current_net s

abbrev pub RoundTrip : Type 0
RoundTrip = (s : Session) → Shaped s → state_fault s ≡ Done → Returns read_of s × Returns load_of s

-- no file that is written is longer than most_file_bytes
abbrev pub WrittenLength : Type 0
WrittenLength = (s : Session) → state_fault s ≡ Done → length (bytes_of s) ≤ most_file_bytes

-- and it is bytes
abbrev pub WrittenBytes : Type 0
WrittenBytes = (s : Session) → state_fault s ≡ Done → Bytes (bytes_of s)

-- none that loads is longer
abbrev pub LoadedLength : Type 0
LoadedLength = (bytes : List ℕ) (s : Session) → load_of bytes ≡ Ok s → length bytes ≤ most_file_bytes

-- the first most_file_bytes + 1 bytes decide what load answers
abbrev pub Prefix : Type 0
Prefix = (bytes : List ℕ) → load_of (take (most_file_bytes + 1) bytes) ≡ load_of bytes

-- a file that loads, cut short anywhere, is refused with 1
abbrev pub Truncation : Type 0
Truncation = (bytes : List ℕ) (s : Session) (i : ℕ) → load_of bytes ≡ Ok s → i < length bytes → load_of (take i bytes) ≡ Err Truncated
