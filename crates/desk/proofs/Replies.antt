-- What each reply comes from: the verdict on all pairs, and each pair's exchange. Assumes nothing.
use mathlib.Core.Path.{◌≡◌, refl, sym, ap, ap₂, ◌∙◌}
use mathlib.Core.Logic.{◌↔◌}
use mathlib.Core.Bool.{Bool, true, false, cond, false≢true}
use mathlib.Core.List.{List, [], ◌∷◌, map}
use Prim.Native.Nat.{ℕ}
use native.Mathlib.Omega.{arith}
use lib.ListN.{get_or}
use Rattle.bits.proofs.Ranges.{and_l, and_r}
use Rattle.std.specs.Prelude.{Ok, Err}
use Rattle.network.specs.Answer.{Answer, Done, answer_of}
use Rattle.network.specs.declared.Session.{Session}
use Rattle.network.specs.declared.Refusal.{Refusal}
use Rattle.network.specs.declared.Refusal.TheVariants.{Truncated, UnexpectedMark, OutOfBounds, FaninNotEarlier, FaninRepeated, BitPastEnd, NotASignal, TrailingBytes, BufferTooShort, InvalidState, NotAGate, TableTooWide, ClosedEntry, Harm, ListsUnequal, GateRepeated, OutsideSubset, BadName}
use Rattle.network.specs.Net.{Net, Replacement, signals, new_tables, replaced}
use Rattle.network.specs.Flat.{loaded_net, current_net}
use Rattle.network.specs.Refusals.{said}
use Rattle.network.specs.Tests.{is_done}
use Rattle.network.specs.State.{state_test}
use Rattle.network.specs.Load.{load_of}
use Rattle.network.specs.Calls.{harm_test, exchange_answer, exchanged, exchange_of, lengths_test, pairs, pairs_test, refused_at, verdict_of, verdict_on}
use Rattle.network.specs.Lists.{Sound}
use Rattle.network.specs.Sessions.{answer_by, Acceptable}
use Rattle.network.proofs.TestLaws.{refused-done, clear-e}
use Rattle.network.proofs.Valid.{state-i}
use Rattle.network.proofs.Fresh.{Fresh}
use Rattle.network.proofs.Said.{said-done}
use Rattle.network.proofs.Lists.{pairs-back, sound-e, verdict-is}
use Rattle.network.proofs.Exchanges.{answers-are}
use Rattle.network.proofs.Together.{together}
use Rattle.text.specs.Words.{all}
use Rattle.ordertext.specs.Order.{Pair}
use Rattle.desk.specs.declared.Reply.{Reply}
use Rattle.desk.specs.declared.Reply.TheVariants.{Open, Alone, Harmful, PairRefused, FileRefused}
use Rattle.desk.specs.Reply.{all_open, refused_reply, reply_by, reply_on, reply_of, grants}
use Rattle.desk.specs.Promises.{replacements}
use Rattle.desk.proofs.Placed.{fresh-net}

-- ## From a reply back to the verdict

abbrev back : Reply → Answer
back Open = Done
back Alone = Done
back (Harmful x i) = Err (Harm x i)
back (PairRefused r k) = Err r
back (FileRefused r) = Err r

back-refused : (r : Refusal) (k : ℕ) → back (refused_reply r k) ≡ Err r
back-refused (Harm x i) k = refl
back-refused NotAGate k = refl
back-refused InvalidState k = refl
back-refused TableTooWide k = refl
back-refused Truncated k = refl
back-refused UnexpectedMark k = refl
back-refused OutOfBounds k = refl
back-refused FaninNotEarlier k = refl
back-refused FaninRepeated k = refl
back-refused BitPastEnd k = refl
back-refused NotASignal k = refl
back-refused TrailingBytes k = refl
back-refused BufferTooShort k = refl
back-refused (ClosedEntry t) k = refl
back-refused ListsUnequal k = refl
back-refused GateRepeated k = refl
back-refused OutsideSubset k = refl
back-refused BadName k = refl

back_either : (b : Bool) → back (cond b Open Alone) ≡ Done
back_either true = refl
back_either false = refl

back_is : (a : Answer) (s : Session) (rs : List Replacement) → back (reply_by a s rs) ≡ a
back_is (Ok _) s rs = back_either (all_open s rs)
back_is (Err r) s rs = back-refused r (refused_at (loaded_net s) [] rs)

pub granted-e : (q : Reply) → grants q ≡ true → back q ≡ Done
granted-e Open h = refl
granted-e Alone h = refl
granted-e (Harmful x i) h = absurd (false≢true h)
granted-e (PairRefused r k) h = absurd (false≢true h)
granted-e (FileRefused r) h = absurd (false≢true h)

pub granted-i : (q : Reply) → back q ≡ Done → grants q ≡ true
granted-i Open h = refl
granted-i Alone h = refl
granted-i (Harmful x i) h = refused-done (Harm x i) h
granted-i (PairRefused r k) h = refused-done r h
granted-i (FileRefused r) h = refused-done r h

harmful-i : (a : Answer) (s : Session) (rs : List Replacement) (x i : ℕ) → a ≡ Err (Harm x i) → reply_by a s rs ≡ Harmful x i
harmful-i a s rs x i h = ap (λ (a : Answer). reply_by a s rs) h

either-open : (b : Bool) → cond b Open Alone ≡ Open → b ≡ true
either-open true h = refl
either-open false h = let z : ◌≡◌ {A = ℕ} 0 1 = cc in absurd (omega arith)

-- ## On a loaded board

module _ (s : Session) (rs : List Replacement) where
  pub reply-back : back (reply_on s rs) ≡ verdict_on s rs
  unfolding reply_on
  reply-back = back_is (verdict_on s rs) s rs

  pub reply-done : verdict_on s rs ≡ Done → reply_on s rs ≡ cond (all_open s rs) Open Alone
  unfolding reply_on
  reply-done h = ap (λ (a : Answer). reply_by a s rs) h

  pub granted-verdict : grants (reply_on s rs) ≡ true → verdict_on s rs ≡ Done
  granted-verdict h = sym reply-back ∙ granted-e (reply_on s rs) h

  pub verdict-granted : verdict_on s rs ≡ Done → grants (reply_on s rs) ≡ true
  verdict-granted h = granted-i (reply_on s rs) (reply-back ∙ h)

  pub harmful-verdict : (x i : ℕ) → (reply_on s rs ≡ Harmful x i) ↔ (verdict_on s rs ≡ Err (Harm x i))
  unfolding reply_on
  harmful-verdict x i = (λ h. sym reply-back ∙ ap back h, λ h. harmful-i (verdict_on s rs) s rs x i h)

  pub open-e : reply_on s rs ≡ Open → (verdict_on s rs ≡ Done) × (all_open s rs ≡ true)
  open-e h =
      let v : verdict_on s rs ≡ Done = sym reply-back ∙ ap back h in
      (v, either-open (all_open s rs) (sym (reply-done v) ∙ h))

  pub open-i : verdict_on s rs ≡ Done → all_open s rs ≡ true → reply_on s rs ≡ Open
  open-i v o = reply-done v ∙ ap (λ (b : Bool). cond b Open Alone) o

pub reply-loaded : (file : List ℕ) (s : Session) (ps : List Pair) → load_of file ≡ Ok s → reply_of file ps ≡ reply_on s (replacements ps)
unfolding reply_of
reply-loaded file s ps e = rw e

-- the verdict on a board as it loads
module _ (s : Session) (fresh : Fresh s) (rs : List Replacement) where
  pub verdict-harm : pairs_test (loaded_net s) [] rs ≡ Done → verdict_on s rs ≡ harm_test (loaded_net s) (replaced (loaded_net s) rs)
  verdict-harm h =
      verdict-is s rs (state-i s fresh.valid) (sound-e (loaded_net s) [] rs h)
      ∙ ap (λ (N : Net). harm_test (loaded_net s) (replaced N rs)) (fresh-net s fresh)

-- where it refuses nothing, no pair is refused
pub verdict-sound : (s : Session) (rs : List Replacement) → verdict_on s rs ≡ Done → Sound (loaded_net s) [] rs
unfolding verdict_of
verdict-sound s rs h =
    let gs = signals rs in
    let ts = new_tables rs in
    let c = clear-e (state_test s ∷ lengths_test gs ts ∷ pairs_test (loaded_net s) [] (pairs gs ts) ∷ harm_test (loaded_net s) (replaced (current_net s) (pairs gs ts)) ∷ []) h in
    sound-e (loaded_net s) [] rs (ap (pairs_test (loaded_net s) []) (sym (pairs-back rs)) ∙ c.1.1.0)

-- ## Exchanges that are all accepted

abbrev pub dones : List Replacement → List Answer
dones rs = map (λ r. Done) rs

done-e : (a : Answer) → is_done a ≡ true → a ≡ Done
done-e (Ok _) h = refl
done-e (Err r) h = absurd (false≢true h)

exchange-answer : (s : Session) (r : Replacement) → answer_of (exchange_of s r) ≡ exchange_answer s r
unfolding exchange_of
exchange-answer s r = go (exchange_answer s r)
  where
    go : (a : Answer) → answer_of (exchanged a s r) ≡ a
    go (Ok _) = refl
    go (Err f) = refl

module _ (s : Session) (fresh : Fresh s) where
  -- in a fresh session the held open tables are those of rule 7
  pub answer-loaded : (r : Replacement) → exchange_answer s r ≡ answer_by (loaded_net s) r
  answer-loaded r = sym (exchange-answer s r) ∙ ap (λ (l : List Answer). get_or l 0 Done) (answers-are s fresh (r ∷ []))

  accepted : (r : Replacement) (rs : List Replacement) → all_open s (r ∷ rs) ≡ true → (answer_by (loaded_net s) r ≡ Done) × (all_open s rs ≡ true)
  unfolding all_open
  accepted r rs h =
      let a = is_done (exchange_answer s r) in
      let b = all (λ r. is_done (exchange_answer s r)) rs in
      (sym (answer-loaded r) ∙ done-e (exchange_answer s r) (and_l a b h), and_r a b h)

  pub all-accepted : (rs : List Replacement) → all_open s rs ≡ true → map (answer_by (loaded_net s)) rs ≡ dones rs
  all-accepted [] h = refl
  all-accepted (r ∷ rs) h = let a = accepted r rs h in ap₂ (λ (x : Answer) (l : List Answer). x ∷ l) a.0 (all-accepted rs a.1)

  acceptable : (named : List ℕ) (rs : List Replacement) → Sound (loaded_net s) named rs → all_open s rs ≡ true → Acceptable (loaded_net s) named rs
  acceptable named [] f h = tt
  acceptable named (r ∷ rs) f h = let a = accepted r rs h in (ap said a.0, f.1, acceptable (r.signal ∷ named) rs f.3 a.1)

  -- such a list is harmless as one replacement
  pub open-verdict : (rs : List Replacement) → Sound (loaded_net s) [] rs → all_open s rs ≡ true → verdict_on s rs ≡ Done
  open-verdict rs f h = (said-done (verdict_on s rs)).0 ((together s fresh []).whole rs (acceptable [] rs f h))
