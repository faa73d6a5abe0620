-- The desk's promises hold. Assumes nothing.
use mathlib.Core.Path.{◌≡◌, refl, sym, ap, ◌∙◌}
use mathlib.Core.Logic.{◌↔◌}
use mathlib.Core.Bool.{Bool, true, false, false≢true}
use mathlib.Core.List.{List, [], ◌∷◌, ◌++◌, map, map-append}
use Prim.Native.Nat.{ℕ, suc}
use native.Mathlib.Omega.{arith}
use lib.Dec.{eqb}
use lib.ListN.{get_or, take, drop}
use Rattle.bits.proofs.Ranges.{and_l, and_r, and_i, by_cases}
use Rattle.std.specs.Prelude.{Result, Ok}
use Rattle.network.specs.Answer.{Answer, answer_of}
use Rattle.network.specs.declared.Session.{Session}
use Rattle.network.specs.declared.Refusal.{Refusal}
use Rattle.network.specs.Net.{Net, Replacement, replaced}
use Rattle.network.specs.Flat.{loaded_net}
use Rattle.network.specs.Refusals.{number_of, said}
use Rattle.network.specs.Tests.{is_done}
use Rattle.network.specs.Lists.{Sound}
use Rattle.network.specs.Load.{session_of, load_of}
use Rattle.network.specs.Write.{bytes_of}
use Rattle.network.specs.Calls.{exchange_answer, exchange_of}
use Rattle.network.specs.Sessions.{next, after, answers, answer_by}
use Rattle.network.proofs.Lists.{sound-e}
use Rattle.network.proofs.Harm.{harm-done, harm-answer, harm-at}
use Rattle.network.proofs.Exchanges.{answers-are}
use Rattle.network.proofs.Demand3.{demand3}
use Rattle.network.proofs.Reached.{loaded-fresh, loaded-shaped}
use Rattle.roundtrip.proofs.RoundTrip.{round_trip}
use Rattle.roundtrip.proofs.Prefix.{prefix}
use Rattle.text.specs.Ascii.{ascii}
use Rattle.text.specs.Words.{all}
use Rattle.ordertext.specs.Order.{Pair, replacement_of}
use Rattle.desk.specs.declared.Reply.{Reply}
use Rattle.desk.specs.declared.Reply.TheVariants.{Open, Alone, Harmful, PairRefused, FileRefused}
use Rattle.desk.specs.Reply.{all_open, reply_on, reply_for, reply_of, grants, placed, board_of}
use Rattle.desk.specs.Answer.{open_line, alone_line, harm_line, refused_line, file_line, pair_refused_line, no_pair, answer_for, answer_text}
use Rattle.desk.specs.Promises.{replacements, ReplyExactOf, StandingOf, Apart, OpenTogetherOf, kept, marked, OfferOf, BoardOf, BeginsOf, DecidedOf}
use Rattle.desk.proofs.Placed.{placed-valid, placed-net, placed-shaped, fresh-net}
use Rattle.desk.proofs.Sounds.{apart-sym, sound-append, sound-kept}
use Rattle.desk.proofs.Replies.{granted-verdict, verdict-granted, harmful-verdict, open-e, open-i, reply-loaded, verdict-harm, verdict-sound, all-accepted, open-verdict}

-- ## 1

pub exact : ReplyExactOf
exact file s ps a =
    let rs = replacements ps in
    let L = loaded_net s in
    let fresh = loaded-fresh file s a.loads in
    let e = reply-loaded file s ps a.loads in
    let v = verdict-harm s fresh rs a.sound in
    record {
      granted = (
        λ h. (harm-done L (replaced L rs)).0 (sym v ∙ granted-verdict s rs (ap grants (sym e) ∙ h)),
        λ h. ap grants e ∙ verdict-granted s rs (v ∙ (harm-done L (replaced L rs)).1 h),
      );
      harmful = λ x i. (
        λ h. (harm-at L (replaced L rs) x i).0 (ap said (sym v ∙ (harmful-verdict s rs x i).0 (sym e ∙ h))),
        λ h. e ∙ (harmful-verdict s rs x i).1 (v ∙ harm-answer L (replaced L rs) x i h),
      );
      opens = (
        λ h. (open-e s rs (sym e ∙ h)).1,
        λ h. e ∙ open-i s rs (open-verdict s fresh rs (sound-e L [] rs a.sound) h) h,
      );
    }

-- ## 2

cancel : (xs ys zs : List Answer) → xs ++ ys ≡ xs ++ zs → ys ≡ zs
cancel [] ys zs h = h
cancel (x ∷ xs) ys zs h = cancel xs ys zs (ap (λ (l : List Answer). drop 1 l) h)

answers-append : (s : Session) (es rs : List Replacement) → answers s (es ++ rs) ≡ answers s es ++ answers (after s es) rs
answers-append s [] rs = refl
answers-append s (e ∷ es) rs = ap (λ (l : List Answer). answer_of (exchange_of s e) ∷ l) (answers-append (next s e) es rs)

pub standing : StandingOf
standing file s ps es loads h =
    let rs = replacements ps in
    let f = answer_by (loaded_net s) in
    let fresh = loaded-fresh file s loads in
    let o = (open-e s rs (sym (reply-loaded file s ps loads) ∙ h)).1 in
    record {
      accepted =
          cancel (map f es) (answers (after s es) rs) (map f rs)
          (ap (λ (l : List Answer). l ++ answers (after s es) rs) (sym (answers-are s fresh es))
          ∙ sym (answers-append s es rs) ∙ answers-are s fresh (es ++ rs) ∙ map-append f es rs)
          ∙ all-accepted s fresh rs o;
      outputs = (demand3 s fresh (es ++ rs)).outputs;
    }

-- ## 3

open-append : (s : Session) (qs rs : List Replacement) → all_open s qs ≡ true → all_open s rs ≡ true → all_open s (qs ++ rs) ≡ true
unfolding all_open
open-append s [] rs a b = b
open-append s (q ∷ qs) rs a b =
    let x = is_done (exchange_answer s q) in
    let y = all (λ r. is_done (exchange_answer s r)) qs in
    and_i x (all (λ r. is_done (exchange_answer s r)) (qs ++ rs)) (and_l x y a) (open-append s qs rs (and_r x y a) b)

-- an order that is answered Open: its pairs are sound, and each would be accepted
open_order : (file : List ℕ) (s : Session) (ps : List Pair) → load_of file ≡ Ok s → reply_of file ps ≡ Open
    → Sound (loaded_net s) [] (replacements ps) × (all_open s (replacements ps) ≡ true)
open_order file s ps loads h =
    let rs = replacements ps in
    let o = open-e s rs (sym (reply-loaded file s ps loads) ∙ h) in
    (verdict-sound s rs o.0, o.1)

-- and back
order_open : (file : List ℕ) (s : Session) (ps : List Pair) (rs : List Replacement) → load_of file ≡ Ok s → replacements ps ≡ rs
    → Sound (loaded_net s) [] rs → all_open s rs ≡ true → reply_of file ps ≡ Open
order_open file s ps rs loads e a o =
    reply-loaded file s ps loads ∙ ap (reply_on s) e ∙ open-i s rs (open-verdict s (loaded-fresh file s loads) rs a o) o

joined : (file : List ℕ) (s : Session) (ps qs : List Pair) → load_of file ≡ Ok s → Apart ps qs → reply_of file ps ≡ Open → reply_of file qs ≡ Open → reply_of file (ps ++ qs) ≡ Open
joined file s ps qs loads apart hp hq =
    let p = open_order file s ps loads hp in
    let q = open_order file s qs loads hq in
    order_open file s (ps ++ qs) (replacements ps ++ replacements qs) loads (map-append replacement_of ps qs)
    (sound-append (loaded_net s) ps qs apart p.0 q.0) (open-append s (replacements ps) (replacements qs) p.1 q.1)

pub together : OpenTogetherOf
together file s ps qs loads apart hp hq = (joined file s ps qs loads apart hp hq, joined file s qs ps loads (apart-sym ps qs apart) hq hp)

-- ## 4

kept-open : (s : Session) (rs : List Replacement) → all_open s (kept (λ r. is_done (exchange_answer s r)) rs) ≡ true
unfolding all_open
kept-open s [] = refl
kept-open s (r ∷ rs) = by_cases (is_done (exchange_answer s r)) (λ e. rw e (rw e (kept-open s rs))) (λ e. rw e (kept-open s rs))

kept_map : (p : Replacement → Bool) (ps : List Pair) → replacements (kept (λ q. p (replacement_of q)) ps) ≡ kept p (replacements ps)
kept_map p [] = refl
kept_map p (q ∷ ps) = by_cases (p (replacement_of q)) (λ e. rw e (ap (λ (l : List Replacement). replacement_of q ∷ l) (kept_map p ps))) (λ e. rw e (kept_map p ps))

pub offer : OfferOf
offer file s ps a =
    let rs = replacements ps in
    let p : Replacement → Bool = λ r. is_done (exchange_answer s r) in
    order_open file s (marked s ps) (kept p rs) a.loads (kept_map p ps)
    (sound-kept (loaded_net s) [] [] p rs (λ k e. e) (sound-e (loaded_net s) [] rs a.sound)) (kept-open s rs)

-- ## 5

pub board : BoardOf
unfolding board_of
board file s ps bytes loads h =
    let rs = replacements ps in
    let fresh = loaded-fresh file s loads in
    let v = granted-verdict s rs (ap grants (sym (reply-loaded file s ps loads)) ∙ h) in
    let sound = verdict-sound s rs v in
    let r = (round_trip (placed s rs) (placed-shaped s rs (loaded-shaped file s bytes loads)) (placed-valid s fresh rs sound)).1 in
    record {
      session = r.session;
      loads = rw loads r.reads;
      loaded = r.loaded ∙ placed-net s fresh rs sound ∙ ap (λ (N : Net). replaced N rs) (fresh-net s fresh);
    }

-- ## 7

-- a text that begins with another byte
other : {P : Type 0} {l : List ℕ} (a b : ℕ) {m : List ℕ} → get_or l 0 0 ≡ a → l ≡ b ∷ m → (a ≡ b → ⊥) → P
other a b e h n = absurd (n (sym e ∙ ap (λ (l : List ℕ). get_or l 0 0) h))

-- a refused pair's line begins as any refusal
refused-first : (r : Refusal) (gate : List ℕ) (n : ℕ) → get_or (take (suc n) (pair_refused_line r gate)) 0 0 ≡ 0x72
unfolding pair_refused_line refused_line
refused-first r gate n = by_cases (eqb (number_of r) 11) (λ e. rw e) (λ e. rw e (by_cases (eqb (number_of r) 12) (λ f. rw f) (λ f. rw f)))

begin-yes : (q : Reply) (s : Session) (ps : List Pair) → (take 3 (answer_for q s ps) ≡ ascii "yes") ↔ (grants q ≡ true)
unfolding open_line alone_line harm_line file_line refused_line
begin-yes Open s ps = (λ h. refl, λ h. refl)
begin-yes Alone s ps = (λ h. refl, λ h. refl)
begin-yes (Harmful x i) s ps = (λ h. other 0x6E 0x79 refl h (λ z. omega arith), λ h. absurd (false≢true h))
begin-yes (PairRefused r k) s ps = (λ h. other 0x72 0x79 (refused-first r (get_or ps k no_pair).gate 2) h (λ z. omega arith), λ h. absurd (false≢true h))
begin-yes (FileRefused r) s ps = (λ h. other 0x72 0x79 refl h (λ z. omega arith), λ h. absurd (false≢true h))

abbrev is_harm : Reply → Bool
is_harm Open = false
is_harm Alone = false
is_harm (Harmful x i) = true
is_harm (PairRefused r k) = false
is_harm (FileRefused r) = false

no-harm : {P : Type 0} (q : Reply) → is_harm q ≡ false → (x : ℕ) × (i : ℕ) × (q ≡ Harmful x i) → P
no-harm q e h = absurd (false≢true (sym e ∙ ap is_harm h.2))

begin-no : (q : Reply) (s : Session) (ps : List Pair) → (take 2 (answer_for q s ps) ≡ ascii "no") ↔ ((x : ℕ) × (i : ℕ) × (q ≡ Harmful x i))
unfolding open_line alone_line harm_line file_line refused_line
begin-no Open s ps = (λ h. other 0x79 0x6E refl h (λ z. omega arith), no-harm Open refl)
begin-no Alone s ps = (λ h. other 0x79 0x6E refl h (λ z. omega arith), no-harm Alone refl)
begin-no (Harmful x i) s ps = (λ h. (x, i, refl), λ h. refl)
begin-no (PairRefused r k) s ps = (λ h. other 0x72 0x6E (refused-first r (get_or ps k no_pair).gate 1) h (λ z. omega arith), no-harm (PairRefused r k) refl)
begin-no (FileRefused r) s ps = (λ h. other 0x72 0x6E refl h (λ z. omega arith), no-harm (FileRefused r) refl)

pub begins : BeginsOf
unfolding answer_text
begins file ps = record { grant = begin-yes (reply_of file ps) (session_of (load_of file)) ps; harm = begin-no (reply_of file ps) (session_of (load_of file)) ps }

-- ## The first bytes

pub decided : DecidedOf
unfolding answer_text reply_of board_of
decided file ps = record {
  text = ap (λ (l : Result Session Refusal). answer_for (reply_for l (replacements ps)) (session_of l) ps) (prefix file);
  board = ap (λ (l : Result Session Refusal). bytes_of (placed (session_of l) (replacements ps))) (prefix file);
}
