-- Which replies come on a board that loads. Assumes nothing.
use mathlib.Core.Path.{◌≡◌, refl, sym, ap, ◌∙◌, subst}
use mathlib.Core.Logic.{◌⊎◌, inl, inr, ⊎_elim}
use mathlib.Core.Bool.{Bool, true, false, not, cond}
use mathlib.Core.List.{List, [], ◌∷◌, ◌++◌}
use Prim.Native.Nat.{ℕ, suc, ◌<◌}
use native.Mathlib.Omega.{arith}
use lib.ListN.{length, get_or, length-map}
use Rattle.bits.proofs.Ranges.{by_cases}
use Rattle.std.specs.Prelude.{Ok, Err}
use Rattle.network.specs.Answer.{Answer, Done}
use Rattle.network.specs.declared.Session.{Session}
use Rattle.network.specs.declared.Refusal.{Refusal}
use Rattle.network.specs.declared.Refusal.TheVariants.{NotAGate, TableTooWide, Harm, GateRepeated}
use Rattle.network.specs.Net.{Net, is_gate, Replacement, replaced}
use Rattle.network.specs.Flat.{loaded_net}
use Rattle.network.specs.Refusals.{said}
use Rattle.network.specs.Tests.{refuse_if, or_else, first, is_done, member}
use Rattle.network.specs.Calls.{fits, gate_test, table_test, harm_test, pair_test, pairs_test, refused_at, verdict_of, verdict_on}
use Rattle.network.proofs.TestLaws.{refused-done}
use Rattle.network.proofs.Harm.{harm-only, harm-at}
use Rattle.network.proofs.Lists.{pairs-back, lengths-fine}
use Rattle.network.proofs.Fresh.{Fresh}
use Rattle.network.proofs.Valid.{state-i}
use Rattle.network.proofs.Reached.{loaded-fresh}
use Rattle.ordertext.specs.Order.{Pair, signal_of, replacement_of}
use Rattle.desk.specs.declared.Reply.TheVariants.{Open, Alone, PairRefused}
use Rattle.desk.specs.Reply.{all_open, refused_reply, reply_by, reply_on, reply_of}
use Rattle.desk.specs.Answer.{no_pair}
use Rattle.desk.specs.Promises.{replacements, FileRefusedOf, PairRefusedOf, Comes, ComesOf}
use Rattle.desk.proofs.Replies.{reply-loaded, verdict-harm}

-- a refusal of a pair
abbrev pub OfPair : Refusal → Type 0
OfPair r = (k : ℕ) → refused_reply r k ≡ PairRefused r k

pair-only : (N : Net) (named : List ℕ) (r : Replacement) → (pair_test N named r ≡ Done) ⊎ ((f : Refusal) × (pair_test N named r ≡ Err f) × OfPair f)
unfolding pair_test gate_test table_test
pair-only N named r = go (not (is_gate N r.signal)) (member r.signal named) (not (fits N r))
  where
    go : (a b c : Bool) → (first (refuse_if a NotAGate ∷ refuse_if b GateRepeated ∷ refuse_if c TableTooWide ∷ []) ≡ Done)
        ⊎ ((f : Refusal) × (first (refuse_if a NotAGate ∷ refuse_if b GateRepeated ∷ refuse_if c TableTooWide ∷ []) ≡ Err f) × OfPair f)
    go true b c = inr (NotAGate, refl, λ k. refl)
    go false true c = inr (GateRepeated, refl, λ k. refl)
    go false false true = inr (TableTooWide, refl, λ k. refl)
    go false false false = inl refl

-- the first pair that is refused stands in the list
pub pairs-only : (N : Net) (named : List ℕ) (rs : List Replacement)
    → (pairs_test N named rs ≡ Done) ⊎ ((f : Refusal) × (pairs_test N named rs ≡ Err f) × OfPair f × (refused_at N named rs < length rs))
pairs-only N named [] = inl refl
pairs-only N named (r ∷ rs) = go (pair_test N named r) (pair-only N named r) (pairs-only N (r.signal ∷ named) rs)
  where
    go : (a : Answer) → (a ≡ Done) ⊎ ((f : Refusal) × (a ≡ Err f) × OfPair f)
        → (pairs_test N (r.signal ∷ named) rs ≡ Done) ⊎ ((f : Refusal) × (pairs_test N (r.signal ∷ named) rs ≡ Err f) × OfPair f × (refused_at N (r.signal ∷ named) rs < length rs))
        → (or_else a (pairs_test N (r.signal ∷ named) rs) ≡ Done)
        ⊎ ((f : Refusal) × (or_else a (pairs_test N (r.signal ∷ named) rs) ≡ Err f) × OfPair f × (cond (is_done a) (suc (refused_at N (r.signal ∷ named) rs)) 0 < suc (length rs)))
    go a (inl e) (inl h) = rw e (inl h)
    go a (inl e) (inr h) = rw e (inr (h.0, h.1, h.2, let l = h.3 in omega arith))
    go a (inr f) h = rw f.1 (inr (f.0, refl, f.2, omega arith))

-- and is one of these refusals
pub of_pair : (N : Net) (named : List ℕ) (rs : List Replacement) (f : Refusal) → pairs_test N named rs ≡ Err f → OfPair f
of_pair N named rs f e =
    ⊎_elim (λ d. refused-done f (sym e ∙ d)) (λ g. let k : Err g.0 ≡ Err f = sym g.1 ∙ e in let q : g.0 ≡ f = cc k in subst OfPair q g.2) (pairs-only N named rs)

-- a pair that is refused is no gate, or is one
pair-fault : (N : Net) (named : List ℕ) (r : Replacement) (f : Refusal) → pair_test N named r ≡ Err f → (f ≡ NotAGate) ⊎ (is_gate N r.signal ≡ true)
unfolding pair_test gate_test
pair-fault N named r f e = by_cases (is_gate N r.signal) (λ t. inr t) (λ n. inl (let k : Err NotAGate ≡ Err f = rw n at e in cc k))

pub fault-gate : (N : Net) (named : List ℕ) (ps : List Pair) (f : Refusal) → pairs_test N named (replacements ps) ≡ Err f
    → (f ≡ NotAGate) ⊎ (is_gate N (signal_of (get_or ps (refused_at N named (replacements ps)) no_pair)) ≡ true)
fault-gate N named [] f e = refused-done f (sym e)
fault-gate N named (p ∷ ps) f e = go (pair_test N named (replacement_of p)) refl (fault-gate N (signal_of p ∷ named) ps f) e
  where
    rest : Answer
    rest = pairs_test N (signal_of p ∷ named) (replacements ps)

    at : ℕ
    at = refused_at N (signal_of p ∷ named) (replacements ps)

    go : (a : Answer) → pair_test N named (replacement_of p) ≡ a → (rest ≡ Err f → (f ≡ NotAGate) ⊎ (is_gate N (signal_of (get_or ps at no_pair)) ≡ true))
        → or_else a rest ≡ Err f → (f ≡ NotAGate) ⊎ (is_gate N (signal_of (get_or (p ∷ ps) (cond (is_done a) (suc at) 0) no_pair)) ≡ true)
    go (Ok _) k next e = next e
    go (Err g) k next e = pair-fault N named (replacement_of p) f (k ∙ e)

either-comes : (s : Session) (ps : List Pair) (b : Bool) → Comes s ps (cond b Open Alone)
either-comes s ps true = tt
either-comes s ps false = tt

module _ (s : Session) (fresh : Fresh s) (ps : List Pair) where
  abbrev rs : List Replacement
  rs = replacements ps

  abbrev L : Net
  L = loaded_net s

  after-pairs : pairs_test (loaded_net s) [] rs ≡ Done → Comes s ps (reply_on s rs)
  unfolding reply_on
  after-pairs e = go (harm-only L (replaced L rs))
    where
      go : (harm_test L (replaced L rs) ≡ Done) ⊎ ((x : ℕ) × (i : ℕ) × (harm_test L (replaced L rs) ≡ Err (Harm x i))) → Comes s ps (reply_by (verdict_on s rs) s rs)
      go (inl h) = subst (λ (a : Answer). Comes s ps (reply_by a s rs)) (sym (verdict-harm s fresh rs e ∙ h)) (either-comes s ps (all_open s rs))
      go (inr h) =
          let f = (harm-at L (replaced L rs) h.0 h.1).0 (ap said h.2) in
          subst (λ (a : Answer). Comes s ps (reply_by a s rs)) (sym (verdict-harm s fresh rs e ∙ h.2)) (f.pattern, f.output)

  -- a refused pair is the reply
  pub pair-reply : (f : Refusal) → pairs_test (loaded_net s) [] rs ≡ Err f → OfPair f → reply_on s rs ≡ PairRefused f (refused_at (loaded_net s) [] rs)
  unfolding reply_on verdict_of
  pair-reply f e o =
      let v : verdict_on s rs ≡ Err f = rw (state-i s fresh.valid, lengths-fine rs, pairs-back rs, e) in
      ap (λ (a : Answer). reply_by a s rs) v ∙ o (refused_at (loaded_net s) [] rs)

  at_pair : (f : Refusal) → pairs_test (loaded_net s) [] rs ≡ Err f → OfPair f → refused_at (loaded_net s) [] rs < length rs → Comes s ps (reply_on s rs)
  at_pair f e o l = subst (Comes s ps) (sym (pair-reply f e o)) (let m = length-map ps replacement_of in omega arith)

  comes-on : Comes s ps (reply_on s rs)
  comes-on = go (pairs-only (loaded_net s) [] rs)
    where
      go : (pairs_test (loaded_net s) [] rs ≡ Done) ⊎ ((f : Refusal) × (pairs_test (loaded_net s) [] rs ≡ Err f) × OfPair f × (refused_at (loaded_net s) [] rs < length rs)) → Comes s ps (reply_on s rs)
      go (inl e) = after-pairs e
      go (inr h) = at_pair h.0 h.1 h.2 h.3

-- ## The first pair at fault

first-fault : (N : Net) (named : List ℕ) (front behind : List Pair) (p : Pair) (f : Refusal)
    → pairs_test N named (replacements front) ≡ Done → pairs_test N named (replacements (front ++ p ∷ [])) ≡ Err f
    → (pairs_test N named (replacements (front ++ p ∷ behind)) ≡ Err f) × (refused_at N named (replacements (front ++ p ∷ behind)) ≡ length front)
first-fault N named [] behind p f d e = go (pair_test N named (replacement_of p)) e
  where
    rest : List Replacement
    rest = replacements behind

    go : (a : Answer) → or_else a Done ≡ Err f
        → (or_else a (pairs_test N (signal_of p ∷ named) rest) ≡ Err f) × (cond (is_done a) (suc (refused_at N (signal_of p ∷ named) rest)) 0 ≡ 0)
    go (Ok _) e = refused-done f (sym e)
    go (Err g) e = (e, refl)
first-fault N named (q ∷ front) behind p f d e = go (pair_test N named (replacement_of q)) d e (first-fault N (signal_of q ∷ named) front behind p f)
  where
    test : List Pair → Answer
    test ps = pairs_test N (signal_of q ∷ named) (replacements ps)

    at : ℕ
    at = refused_at N (signal_of q ∷ named) (replacements (front ++ p ∷ behind))

    go : (a : Answer) → or_else a (test front) ≡ Done → or_else a (test (front ++ p ∷ [])) ≡ Err f
        → (test front ≡ Done → test (front ++ p ∷ []) ≡ Err f → (test (front ++ p ∷ behind) ≡ Err f) × (at ≡ length front))
        → (or_else a (test (front ++ p ∷ behind)) ≡ Err f) × (cond (is_done a) (suc at) 0 ≡ suc (length front))
    go (Ok _) d e next = let n = next d e in (n.0, ap suc n.1)
    go (Err g) d e next = refused-done g d

pub pair-refused : PairRefusedOf
pair-refused file s front behind p f loads d e =
    let h = first-fault (loaded_net s) [] front behind p f d e in
    let ps = front ++ p ∷ behind in
    reply-loaded file s ps loads
    ∙ pair-reply s (loaded-fresh file s loads) ps f h.0 (of_pair (loaded_net s) [] (replacements ps) f h.0)
    ∙ ap (PairRefused f) h.1

pub file-refused : FileRefusedOf
unfolding reply_of
file-refused file ps f e = rw e

pub comes : ComesOf
comes file s ps loads = subst (Comes s ps) (sym (reply-loaded file s ps loads)) (comes-on s (loaded-fresh file s loads) ps)
