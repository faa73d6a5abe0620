-- What the desk promises of every file of bytes and every order. Assumes nothing.
use Rattle.std.specs.Prelude.{◌≡◌, ◌↔◌, Bool, true, false, cond, List, [], ◌∷◌, ◌++◌, map, ℕ, ◌+◌, ◌-◌, ◌*◌, ◌<◌, ◌≤◌, length, take}
use Rattle.std.specs.Prelude.{Ok, Err}
use Rattle.network.specs.Answer.{Done}
use Rattle.network.specs.declared.Session.{Session}
use Rattle.network.specs.declared.Refusal.{Refusal}
use Rattle.network.specs.Bounds.{most_gates, most_file_bytes}
use Rattle.network.specs.Net.{Net, patterns, excluded_for, output, Replacement, signals, with_gates, replaced}
use Rattle.network.specs.Flat.{loaded_net, current_net}
use Rattle.network.specs.Tests.{is_done, member}
use Rattle.network.specs.Load.{load_of}
use Rattle.network.specs.Calls.{exchange_answer, pairs_test}
use Rattle.network.specs.Sessions.{after, answers, NoHarm, FirstHarm}
use Rattle.bits.specs.Lists.{Bytes}
use Rattle.text.specs.Numbers.{word_digits}
use Rattle.text.specs.Ascii.{ascii}
use Rattle.ordertext.specs.Order.{most_order_bytes, Pair, replacement_of, Pairs, order_of}
use Rattle.desk.specs.declared.Reply.{Reply}
use Rattle.desk.specs.declared.Reply.TheVariants.{Open, Alone, Harmful, PairRefused, FileRefused}
use Rattle.desk.specs.Reply.{all_open, reply_of, grants, board_of}
use Rattle.desk.specs.Answer.{answer_text}

abbrev pub replacements : List Pair → List Replacement
replacements ps = map replacement_of ps

-- the file loads to s, and no pair is refused
pub record Asked (file : List ℕ) (s : Session) (ps : List Pair) : Type 0 where
  pub loads : load_of file ≡ Ok s
  pub sound : pairs_test (loaded_net s) [] (replacements ps) ≡ Done

-- the board with the order done
abbrev pub changed : Session → List Pair → Net
changed s ps = replaced (loaded_net s) (replacements ps)

-- ## 1: each reply has exactly its cause

pub record ReplyExact (file : List ℕ) (s : Session) (ps : List Pair) : Type 0 where
  pub granted : (grants (reply_of file ps) ≡ true) ↔ NoHarm (loaded_net s) (changed s ps) (patterns (loaded_net s))
  pub harmful : (x i : ℕ) → (reply_of file ps ≡ Harmful x i) ↔ FirstHarm (loaded_net s) (changed s ps) x i
  -- harm cannot come where each pair would be accepted
  pub opens : (reply_of file ps ≡ Open) ↔ (all_open s (replacements ps) ≡ true)

abbrev pub ReplyExactOf : Type 0
ReplyExactOf = (file : List ℕ) (s : Session) (ps : List Pair) → Asked file s ps → ReplyExact file s ps

-- ## 2: an open order stands with all exchanges before it

pub record Standing (s : Session) (ps : List Pair) (es : List Replacement) : Type 0 where
  pub accepted : answers (after s es) (replacements ps) ≡ map (λ r. Done) (replacements ps)
  pub outputs : (x i : ℕ) → x < patterns (loaded_net s) → i < s.p → excluded_for (loaded_net s) i x ≡ false
      → output (current_net (after s (es ++ replacements ps))) x i ≡ output (loaded_net s) x i

abbrev pub StandingOf : Type 0
StandingOf = (file : List ℕ) (s : Session) (ps : List Pair) (es : List Replacement) → load_of file ≡ Ok s → reply_of file ps ≡ Open → Standing s ps es

-- ## 3: two open orders with no gate in both are one open order, whichever comes first

abbrev pub Apart : List Pair → List Pair → Type 0
Apart ps qs = (k : ℕ) → member k (signals (replacements ps)) ≡ true → member k (signals (replacements qs)) ≡ false

abbrev pub OpenTogetherOf : Type 0
OpenTogetherOf = (file : List ℕ) (s : Session) (ps qs : List Pair) → load_of file ≡ Ok s → Apart ps qs
    → reply_of file ps ≡ Open → reply_of file qs ≡ Open → (reply_of file (ps ++ qs) ≡ Open) × (reply_of file (qs ++ ps) ≡ Open)

-- ## 4: the pairs that are marked open, alone, are an open order

abbrev pub kept : {A : Type 0} → (A → Bool) → List A → List A
kept p [] = []
kept p (x ∷ xs) = cond (p x) (x ∷ []) [] ++ kept p xs

abbrev pub marked : Session → List Pair → List Pair
marked s ps = kept (λ p. is_done (exchange_answer s (replacement_of p))) ps

abbrev pub OfferOf : Type 0
OfferOf = (file : List ℕ) (s : Session) (ps : List Pair) → Asked file s ps → reply_of file (marked s ps) ≡ Open

-- ## 5: the board that is written is the board with the order done

pub record Written (file : List ℕ) (s : Session) (ps : List Pair) : Type 0 where
  pub session : Session
  pub loads : load_of (board_of file ps) ≡ Ok session
  pub loaded : loaded_net session ≡ changed s ps

abbrev pub BoardOf : Type 0
BoardOf = (file : List ℕ) (s : Session) (ps : List Pair) → Bytes file → load_of file ≡ Ok s → grants (reply_of file ps) ≡ true → Written file s ps

-- ## 6: orders, each asked on the board that the last granted one gave

abbrev pub next : List ℕ → List Pair → List ℕ
next file ps = cond (grants (reply_of file ps)) (board_of file ps) file

abbrev pub chain : List ℕ → List (List Pair) → List ℕ
chain file [] = file
chain file (ps ∷ orders) = chain (next file ps) orders

-- the last board loads; but for its gates it is the first, with the same patterns excluded; and its outputs are those of the first
pub record Chained (file : List ℕ) (s : Session) (orders : List (List Pair)) : Type 0 where
  pub session : Session
  pub loads : load_of (chain file orders) ≡ Ok session
  pub stays : loaded_net session ≡ with_gates (loaded_net s) (loaded_net session).gates
  pub same : (x i : ℕ) → x < patterns (loaded_net s) → i < length (loaded_net s).outputs → excluded_for (loaded_net s) i x ≡ false
      → output (loaded_net session) x i ≡ output (loaded_net s) x i

abbrev pub ChainOf : Type 0
ChainOf = (file : List ℕ) (s : Session) (orders : List (List Pair)) → Bytes file → load_of file ≡ Ok s → Chained file s orders

-- ## 7: the text's first word is the reply

pub record Begins (file : List ℕ) (ps : List Pair) : Type 0 where
  pub grant : (take 3 (answer_text file ps) ≡ ascii "yes") ↔ (grants (reply_of file ps) ≡ true)
  pub harm : (take 2 (answer_text file ps) ≡ ascii "no") ↔ ((x : ℕ) × (i : ℕ) × (reply_of file ps ≡ Harmful x i))

abbrev pub BeginsOf : Type 0
BeginsOf = (file : List ℕ) (ps : List Pair) → Begins file ps

-- ## Refusals are of the file, or of the first pair at fault

abbrev pub FileRefusedOf : Type 0
FileRefusedOf = (file : List ℕ) (ps : List Pair) (f : Refusal) → load_of file ≡ Err f → reply_of file ps ≡ FileRefused f

-- the pairs in front pass, and with the next one they do not: its place is named, whatever is behind it
abbrev pub PairRefusedOf : Type 0
PairRefusedOf = (file : List ℕ) (s : Session) (front behind : List Pair) (p : Pair) (f : Refusal) → load_of file ≡ Ok s
    → pairs_test (loaded_net s) [] (replacements front) ≡ Done → pairs_test (loaded_net s) [] (replacements (front ++ p ∷ [])) ≡ Err f
    → reply_of file (front ++ p ∷ behind) ≡ PairRefused f (length front)

-- ## On a board that loads a reply is of the order: 14 in its bounds, or 11, 16 or 12 of one of its pairs

abbrev pub Comes : Session → List Pair → Reply → Type 0
Comes s ps Open = Unit {0}
Comes s ps Alone = Unit {0}
Comes s ps (Harmful x i) = (x < patterns (loaded_net s)) × (i < length (loaded_net s).outputs)
Comes s ps (PairRefused r k) = k < length ps
Comes s ps (FileRefused r) = ⊥

abbrev pub ComesOf : Type 0
ComesOf = (file : List ℕ) (s : Session) (ps : List Pair) → load_of file ≡ Ok s → Comes s ps (reply_of file ps)

-- ## The first bytes of a board's file decide

pub record Decided (file : List ℕ) (ps : List Pair) : Type 0 where
  pub text : answer_text (take (most_file_bytes + 1) file) ps ≡ answer_text file ps
  pub board : board_of (take (most_file_bytes + 1) file) ps ≡ board_of file ps

abbrev pub DecidedOf : Type 0
DecidedOf = (file : List ℕ) (ps : List Pair) → Decided file ps

-- ## How long an answer to an order's text is

-- a pair's line: the gate in four digits, two tables in sixteen, and `: entry 63 is closed`
abbrev pub most_line_bytes : ℕ
most_line_bytes = (5 + 4) + (6 + word_digits) + (4 + word_digits) + 21

-- the first line, and a line for each gate at the most
abbrev pub most_answer_bytes : ℕ
most_answer_bytes = 68 + most_gates * most_line_bytes

-- a name has = and a digit of the text behind it
abbrev pub most_refusal_bytes : ℕ
most_refusal_bytes = (most_order_bytes - 2) + 24

pub record AnswerLength (file : List ℕ) (ps : List Pair) : Type 0 where
  pub most : length (answer_text file ps) ≤ most_answer_bytes
  -- where a pair is refused
  pub refusal : (s : Session) (f : Refusal) → load_of file ≡ Ok s → pairs_test (loaded_net s) [] (replacements ps) ≡ Err f
      → length (answer_text file ps) ≤ most_refusal_bytes

abbrev pub AnswerLengthOf : Type 0
AnswerLengthOf = (file text : List ℕ) (p : Pair) (ps : List Pair) → length text ≤ most_order_bytes → order_of text ≡ Pairs p ps → AnswerLength file (p ∷ ps)
