-- BLIF out and back, what a text gives, and what a cover means. Assumes nothing.
use Rattle.std.specs.Prelude.{◌≡◌, ◌⊎◌, ◌↔◌, not, List, [], ℕ, ◌+◌, ◌^◌, ◌≤◌, ◌<◌, eqb, length, get_or, take, replicate, Ok}
use Rattle.bits.specs.Range.{num}
use Rattle.bits.specs.Bit.{bit}
use Rattle.bits.specs.Lists.{Bytes, overwritten}
use Rattle.network.specs.Answer.{Done}
use Rattle.network.specs.declared.Session.{Session}
use Rattle.network.specs.Bounds.{excluded_words}
use Rattle.network.specs.Net.{Net, Replacement, output}
use Rattle.network.specs.Compatible.{open_tables}
use Rattle.network.specs.Flat.{loaded_net, current_net}
use Rattle.network.specs.State.{state_fault, state_test}
use Rattle.network.specs.Valid.{Shaped}
use Rattle.network.specs.Load.{load_of}
use Rattle.network.specs.Write.{bytes_of}
use Rattle.network.specs.Sessions.{after, Demand3, LoneHarmless, Inside, Together}
use Rattle.text.specs.Words.{Text}
use Rattle.blif.specs.Cover.{cover_table}
use Rattle.blif.specs.Read.{read_blif, read_blif_of}
use Rattle.blif.specs.Write.{outgoing, blif_text, copies_test, write_blif_of, most_blif_bytes}

-- ## Out and back

-- M has all of N: the same inputs, each gate of N under its number, and each output's value at every pattern
pub record Survives (N M : Net) : Type 0 where
  pub inputs : M.inputs ≡ N.inputs
  pub gates : take (length N.gates) M.gates ≡ N.gates
  pub outputs : length M.outputs ≡ length N.outputs
  pub values : (x i : ℕ) → i < length N.outputs → output M x i ≡ output N x i

-- the text of s is read: the network that went out, fresh
pub record Returns (s : Session) : Type 0 where
  pub session : Session
  -- what was written is accepted
  pub reads : read_blif_of (blif_text s) ≡ Ok session
  pub loaded : loaded_net session ≡ outgoing (current_net s)
  pub current : current_net session ≡ outgoing (current_net s)
  -- once more, and it is the same text
  pub again : blif_text session ≡ blif_text s

-- of every state that 10 does not refuse, where 3 does not refuse the copies
abbrev pub BlifTrip : Type 0
BlifTrip = (s : Session) → state_test s ≡ Done → copies_test s ≡ Done → Returns s × Survives (current_net s) (outgoing (current_net s))

-- no text that goes out is longer
abbrev pub BlifLength : Type 0
BlifLength = (s : Session) → state_test s ≡ Done → copies_test s ≡ Done → length (blif_text s) ≤ most_blif_bytes

-- it is written into every buffer that is long enough
abbrev pub BlifRoom : Type 0
BlifRoom = (s : Session) (buffer : List ℕ) → state_test s ≡ Done → copies_test s ≡ Done → length (blif_text s) ≤ length buffer
    → write_blif_of s buffer ≡ record { answer = Ok (length (blif_text s)); buffer = overwritten (blif_text s) buffer }

-- ## What a text gives

-- a session as a load gives it, with nothing excluded
pub record AsLoaded (s : Session) : Type 0 where
  pub valid : state_test s ≡ Done
  pub shaped : Shaped s
  pub free : s.excluded ≡ replicate excluded_words 0
  -- the current tables are the loaded ones, and the open tables are theirs
  pub same : s.current ≡ s.loaded
  pub held : s.open_tables ≡ open_tables (loaded_net s)
  -- demand 3, and rule 4's second sentence
  pub demand3 : (rs : List Replacement) → Demand3 s rs
  pub rule4 : (rs : List Replacement) (r : Replacement) → LoneHarmless (after s rs) r
  -- each open entry is one of the full table
  pub inside : (rs : List Replacement) → Inside s rs
  -- exchanges that would each be accepted are harmless as one replacement
  pub together : (es : List Replacement) → Together s es

-- of every list of numbers: it need not be known that they are bytes
abbrev pub BlifFresh : Type 0
BlifFresh = (text : List ℕ) (s : Session) → read_blif_of text ≡ Ok s → AsLoaded s

-- word for word the session that a load of its file gives: what is proved of every load holds of it
abbrev pub BlifWords : Type 0
BlifWords = (text : List ℕ) (s : Session) → read_blif_of text ≡ Ok s → load_of (bytes_of s) ≡ Ok s

-- and that file is made of bytes
abbrev pub BlifFile : Type 0
BlifFile = (text : List ℕ) (s : Session) → read_blif_of text ≡ Ok s → Bytes (bytes_of s)

-- what is read passes refusal 10's test, before its open tables are worked out
abbrev pub BlifValid : Type 0
BlifValid = (text : List ℕ) (s : Session) → read_blif text ≡ Ok s → state_fault s ≡ Done

-- ## What a cover means, bit by bit

-- the row covers entry t: each of its bytes is a dash, or the digit of its fan-in's value
abbrev pub Covers : Text → ℕ → Type 0
Covers row t = (r : ℕ) → r < length row → (get_or row r 0 ≡ 0x2D) ⊎ (get_or row r 0 ≡ 0x30 + num (bit t r))

-- of any rows: the entries that some row covers are those that have the value of the cover's digit
abbrev pub BlifCover : Type 0
BlifCover = (k : ℕ) (rows : List Text) (digit t : ℕ) → t < 2 ^ k
    → ((i : ℕ) × (i < length rows) × Covers (get_or rows i []) t) ↔ (bit (cover_table k rows digit) t ≡ not (eqb digit 0x30))
