-- Lists of exchanges, and demand 3 as one claim about a session that a load gave and a list: 01, 'What about sequences?'. Assumes nothing.
use Rattle.std.specs.Prelude.{◌≡◌, ◌≢◌, ◌⊎◌, ◌↔◌, Bool, true, false, cond, List, [], ◌∷◌, ◌++◌, map, ℕ, suc, ◌+◌, ◌<◌, eqb, length, get_or}
use Rattle.bits.specs.Range.{places}
use Rattle.bits.specs.Bit.{bit}
use Rattle.network.specs.declared.Session.{Session}
use Rattle.network.specs.Answer.{Answer, answer_of, given_or}
use Rattle.std.specs.Prelude.{Ok, Err}
use Rattle.network.specs.Bounds.{most_gates}
use Rattle.network.specs.Net.{Net, is_gate, gate, entries, patterns, excluded_for, weight, output, Replacement}
use Rattle.network.specs.DontCares.{full, harms}
use Rattle.network.specs.Compatible.{closed, open_table}
use Rattle.network.specs.Flat.{loaded_net, current_net}
use Rattle.network.specs.Refusals.{said}
use Rattle.network.specs.Tests.{first, member}
use Rattle.network.specs.Load.{load_of}
use Rattle.network.specs.Calls.{fits, alters, exchange_tests, exchange_of, with_current, verdict_of, verdict_on}

-- ## A list of exchanges: each gets the session that the one before it returned; one that is refused returns none, and the session stays

abbrev pub next : Session → Replacement → Session
next s r = given_or s (exchange_of s r)

abbrev pub after : Session → List Replacement → Session
after s [] = s
after s (r ∷ rs) = after (next s r) rs

abbrev pub answers : Session → List Replacement → List Answer
answers s [] = []
answers s (r ∷ rs) = answer_of (exchange_of s r) ∷ answers (next s r) rs

-- ## What they come to, said of the loaded network alone

-- the loaded network, the number given for the gate and the new table alone fix an exchange's answer:
-- the first of 11, 12 and 13 that applies, with 13's entry by rule 7; Done where none does
unfoldable pub answer_by : Net → Replacement → Answer
answer_by N r = first (exchange_tests N (closed N r.signal) r)

-- the table of signal s after an exchange with that answer, where it was t
abbrev pub took : Answer → Replacement → ℕ → ℕ → ℕ
took (Ok _) r s t = cond (eqb r.signal s) r.table t
took (Err f) r s t = t

-- the table of signal s's last accepted exchange, t where it has none
abbrev pub last_accepted : Net → List Replacement → ℕ → ℕ → ℕ
last_accepted N [] s t = t
last_accepted N (r ∷ rs) s t = last_accepted N rs s (took (answer_by N r) r s t)

-- each gate's last accepted table, or the loaded one
abbrev pub final_tables : Session → List Replacement → List ℕ
final_tables s rs = places most_gates (λ g. last_accepted (loaded_net s) rs (s.n + g) (get_or s.loaded g 0))

-- a closed entry that the replacement alters
abbrev pub AltersClosed : Net → Replacement → ℕ → Type 0
AltersClosed N r t = (t < entries N r.signal) × (closed N r.signal t ≡ true) × (alters N r t ≡ true)

-- each answer, in 01's numbers, has exactly its cause
pub record Exact (N : Net) (r : Replacement) : Type 0 where
  pub no_gate : (said (answer_by N r) ≡ 11 ∷ []) ↔ (is_gate N r.signal ≡ false)
  pub too_wide : (said (answer_by N r) ≡ 12 ∷ []) ↔ ((is_gate N r.signal ≡ true) × (fits N r ≡ false))
  -- 13 names the smallest
  pub closes : (t : ℕ)
      → (said (answer_by N r) ≡ 13 ∷ t ∷ [])
      ↔ ((is_gate N r.signal ≡ true) × (fits N r ≡ true) × AltersClosed N r t × ((u : ℕ) → u < t → AltersClosed N r u → ⊥))
  pub accepts : (said (answer_by N r) ≡ []) ↔ ((is_gate N r.signal ≡ true) × (fits N r ≡ true) × ((t : ℕ) → AltersClosed N r t → ⊥))
  -- an exchange at a gate, with a table that fits, is refused exactly when it alters an entry that is closed
  pub refuses : is_gate N r.signal ≡ true → fits N r ≡ true → (said (answer_by N r) ≡ [] → ⊥) ↔ ((t : ℕ) × AltersClosed N r t)

-- ## Demand 3: of the session s, fresh from a load, and every list of exchanges

pub record Demand3 (s : Session) (rs : List Replacement) : Type 0 where
  -- each answer, wherever it stands in the list
  pub answered : answers s rs ≡ map (answer_by (loaded_net s)) rs
  -- and its cause, measured against the loaded table
  pub exact : (r : Replacement) → Exact (loaded_net s) r
  -- the session after the list: the last accepted tables are current, all else stays
  pub session : after s rs ≡ with_current s (final_tables s rs)
  -- each gate has the table of its last accepted exchange, or the loaded one
  pub tables : (g : ℕ) → g < s.m
      → gate (current_net (after s rs)) (s.n + g)
      ≡ record { fanins = (gate (loaded_net s) (s.n + g)).fanins; table = last_accepted (loaded_net s) rs (s.n + g) (gate (loaded_net s) (s.n + g)).table }
  -- every output at every pattern not excluded is that of the loaded network
  pub outputs : (x i : ℕ) → x < patterns (loaded_net s) → i < s.p → excluded_for (loaded_net s) i x ≡ false
      → output (current_net (after s rs)) x i ≡ output (loaded_net s) x i
  -- two neighbours at different gates may change places: the same answers to each, the same session
  pub swap : (before behind : List Replacement) (a b : Replacement) → rs ≡ before ++ a ∷ b ∷ behind → a.signal ≢ b.signal
      → (after s (before ++ b ∷ a ∷ behind) ≡ after s rs)
      × (answers s rs ≡ map (answer_by (loaded_net s)) before ++ answer_by (loaded_net s) a ∷ answer_by (loaded_net s) b ∷ map (answer_by (loaded_net s)) behind)
      × (answers s (before ++ b ∷ a ∷ behind) ≡ map (answer_by (loaded_net s)) before ++ answer_by (loaded_net s) b ∷ answer_by (loaded_net s) a ∷ map (answer_by (loaded_net s)) behind)

-- of every list of bytes that loads
abbrev pub Demand3Of : Type 0
Demand3Of = (bytes : List ℕ) (s : Session) (rs : List Replacement) → load_of bytes ≡ Ok s → Demand3 s rs

-- ## Harm: what a verdict finds of the network M against the loaded one, L

-- no pattern below n harms an output
abbrev pub NoHarm : Net → Net → ℕ → Type 0
NoHarm L M n = (x i : ℕ) → x < n → i < length L.outputs → harms L M x i ≡ false

-- the pattern y is quicker to set than x: fewer of the n lines are on, or as many and its number is smaller
abbrev pub Quicker : (n y x : ℕ) → Type 0
Quicker n y x = (weight n y < weight n x) ⊎ ((weight n y ≡ weight n x) × (y < x))

-- the pattern that harms an output and is the quickest to set and, there, the lowest output
pub record FirstHarm (L M : Net) (x i : ℕ) : Type 0 where
  pub pattern : x < patterns L
  pub output : i < length L.outputs
  pub harm : harms L M x i ≡ true
  pub before : (y j : ℕ) → y < patterns L → j < length L.outputs → Quicker L.inputs y x → harms L M y j ≡ false
  pub lower : (j : ℕ) → j < i → harms L M x j ≡ false

-- ## Rule 4's second sentence, in every session that a load and exchanges give: a replacement at a gate, with a table that fits,
-- is harmless exactly when it alters only entries of the full table

abbrev pub LoneHarmless : Session → Replacement → Type 0
LoneHarmless s r =
    is_gate (loaded_net s) r.signal ≡ true → fits (loaded_net s) r ≡ true
    → (said (verdict_on s (r ∷ [])) ≡ []) ↔ ((t : ℕ) → t < entries (loaded_net s) r.signal → alters (current_net s) r t ≡ true → bit (full (current_net s) r.signal) t ≡ true)

abbrev pub Rule4Of : Type 0
Rule4Of = (bytes : List ℕ) (s : Session) (rs : List Replacement) (r : Replacement) → load_of bytes ≡ Ok s → LoneHarmless (after s rs) r

-- ## Open lies inside full, in every session that a load and exchanges give: s is the session of a load, rs are the exchanges

pub record Inside (s : Session) (rs : List Replacement) : Type 0 where
  -- each open entry of a gate is an entry of its full table
  pub open_in_full : (g t : ℕ) → is_gate (loaded_net s) g ≡ true → bit (open_table (loaded_net s) g) t ≡ true → bit (full (current_net (after s rs)) g) t ≡ true
  -- rule 4's second sentence, with the loaded table for what is altered
  pub rule4_loaded : (r : Replacement) → is_gate (loaded_net s) r.signal ≡ true → fits (loaded_net s) r ≡ true
      → (said (verdict_on (after s rs) (r ∷ [])) ≡ [])
      ↔ ((t : ℕ) → t < entries (loaded_net s) r.signal → alters (loaded_net s) r t ≡ true → bit (full (current_net (after s rs)) r.signal) t ≡ true)

-- of every list of bytes that loads
abbrev pub InsideOf : Type 0
InsideOf = (bytes : List ℕ) (s : Session) (rs : List Replacement) → load_of bytes ≡ Ok s → Inside s rs

-- ## Several gates on one verdict, in every session that a load and exchanges give: s is the session of a load, es are the exchanges

-- each of the pairs would be accepted as an exchange, and no gate stands twice among them and the named ones
abbrev pub Acceptable : Net → (named : List ℕ) → List Replacement → Type 0
Acceptable N named [] = Unit {0}
Acceptable N named (r ∷ rs) = (said (answer_by N r) ≡ []) × (member r.signal named ≡ false) × Acceptable N (r.signal ∷ named) rs

-- the pairs at the places that are picked
abbrev pub picked : (ℕ → Bool) → List Replacement → List Replacement
picked p [] = []
picked p (r ∷ rs) = cond (p 0) (r ∷ []) [] ++ picked (λ i. p (suc i)) rs

pub record Together (s : Session) (es : List Replacement) : Type 0 where
  -- such a list, all in place at once, is harmless
  pub whole : (rs : List Replacement) → Acceptable (loaded_net s) [] rs → said (verdict_on (after s es) rs) ≡ []
  -- and so is every part of it
  pub part : (rs : List Replacement) (p : ℕ → Bool) → Acceptable (loaded_net s) [] rs → said (verdict_on (after s es) (picked p rs)) ≡ []
  -- the list of one: an exchange that would be accepted is harmless
  pub lone : (r : Replacement) → said (answer_by (loaded_net s) r) ≡ [] → said (verdict_on (after s es) (r ∷ [])) ≡ []
  -- nothing at all is harmless
  pub empty : said (verdict_of (after s es) [] []) ≡ []

-- of every list of bytes that loads
abbrev pub TogetherOf : Type 0
TogetherOf = (bytes : List ℕ) (s : Session) (es : List Replacement) → load_of bytes ≡ Ok s → Together s es
