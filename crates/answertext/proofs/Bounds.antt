-- Every reply that comes can be printed. Assumes nothing.
use mathlib.Core.Path.{◌≡◌, refl, sym, ◌∙◌, subst}
use mathlib.Core.Logic.{◌⊎◌, inl, inr}
use mathlib.Core.Bool.{true}
use mathlib.Core.List.{List, [], ◌∷◌}
use Prim.Native.Nat.{ℕ, zero, suc, ◌^◌, ◌<◌, ◌≤◌}
use native.Mathlib.Omega.{arith}
use lib.Pow.{pow_mono}
use lib.ListN.{length, get_or, length-map}
use Rattle.bits.specs.Bounds.{most_inputs}
use Rattle.std.specs.Prelude.{Result, Ok, Err}
use Rattle.network.specs.Answer.{Answer, Done}
use Rattle.network.specs.declared.Session.{Session}
use Rattle.network.specs.declared.Refusal.{Refusal}
use Rattle.network.specs.Bounds.{most_entries}
use Rattle.network.specs.Net.{Net, is_gate, entries, patterns, Replacement}
use Rattle.network.specs.Flat.{net_of, loaded_net}
use Rattle.network.specs.Load.{session_of, load_of}
use Rattle.network.specs.Sessions.{answer_by}
use Rattle.network.proofs.Fresh.{Fresh}
use Rattle.network.proofs.Valid.{net-ok}
use Rattle.network.proofs.Exchanges.{no-gate, too_wide, closes, accepts, Cause, answer-because, gate-e}
use Rattle.network.proofs.Reached.{loaded-fresh}
use Rattle.buffer.specs.Laid.{Room}
use Rattle.ordertext.specs.Order.{Pair, Parsed, Pairs, NoPair, Blank, replacement_of, signal_of, order_of, pairs_of}
use Rattle.desk.specs.declared.Reply.{Reply}
use Rattle.desk.specs.declared.Reply.TheVariants.{Open, Alone, Harmful, PairRefused, FileRefused}
use Rattle.network.specs.Calls.{pairs_test, refused_at}
use Rattle.network.specs.Lists.{Sound}
use Rattle.desk.specs.Reply.{reply_of}
use Rattle.desk.specs.Answer.{no_pair, answer_text}
use Rattle.answertext.specs.Prints.{entry_of, Shown, AllShown, Prints, PrintsOf, RoomOf}
use Rattle.desk.specs.Promises.{replacements, Comes}
use Rattle.network.proofs.Lists.{sound-e}
use Rattle.desk.proofs.Replies.{reply-loaded, answer-loaded}
use Rattle.desk.proofs.Comes.{OfPair, pairs-only, pair-reply, comes}
use Rattle.desk.proofs.Lengths.{gate-entries, outputs-few, answer-length}

entry-small : (N : Net) (r : Replacement) (a : Answer) → (is_gate N r.signal ≡ true → entries N r.signal ≤ most_entries) → Cause N r a → entry_of a < 10000
entry-small N r a f (no-gate p) = omega arith
entry-small N r a f (too_wide p q) = omega arith
entry-small N r a f (closes t p q w) = let e = f p in omega (arith, w.0)
entry-small N r a f (accepts p q w) = omega arith

module _ (s : Session) (fresh : Fresh s) where
  abbrev L : Net
  L = loaded_net s

  shown : (r : Replacement) → is_gate L r.signal ≡ true → Shown s r
  shown r w =
      let b = gate-e s r.signal w in
      let n = (net-ok s fresh.valid).most in
      record {
        from = b.0;
        below = let k = b.1 in omega arith;
        entry = subst (λ (a : Answer). entry_of a < 10000) (sym (answer-loaded s fresh r)) (entry-small L r (answer_by L r) (gate-entries s fresh r.signal) (answer-because L r));
      }

  each-shown : (named : List ℕ) (ps : List Pair) → Sound L named (replacements ps) → (i : ℕ) → i < length ps → Shown s (replacement_of (get_or ps i no_pair))
  each-shown named [] a i h = absurd (omega arith)
  each-shown named (p ∷ ps) a zero h = shown (replacement_of p) a.0
  each-shown named (p ∷ ps) a (suc i) h = each-shown (signal_of p ∷ named) ps a.3 i (omega arith)

  all_shown : (ps : List Pair) → Sound L [] (replacements ps) → AllShown s ps
  all_shown ps a = record { gates = (net-ok s fresh.valid).most; each = each-shown [] ps a }

  patterns-few : patterns L ≤ 2 ^ most_inputs
  unfolding loaded_net net_of
  patterns-few = pow_mono {j = most_inputs} (net-ok s fresh.valid).ins

  sound-prints : (ps : List Pair) → Sound L [] (replacements ps) → (q : Reply) → Comes s ps q → Prints s ps q
  sound-prints ps a Open c = all_shown ps a
  sound-prints ps a Alone c = all_shown ps a
  sound-prints ps a (Harmful x i) c =
      let n = (net-ok s fresh.valid).ins in
      let p = patterns-few in
      let o = outputs-few s fresh in
      (n, omega (arith, c.0), omega (arith, c.1), all_shown ps a)
  sound-prints ps a (PairRefused r k) c = c
  sound-prints ps a (FileRefused r) c = tt

module _ (file : List ℕ) (ps : List Pair) where
  abbrev s : Session
  s = (session_of (load_of file))

  by-load : (l : Result Session Refusal) → load_of file ≡ l → Prints (session_of l) ps (reply_of file ps)
  unfolding reply_of
  by-load (Err r) e = rw e tt
  by-load (Ok s) loads = go (pairs-only (loaded_net s) [] (replacements ps))
    where
      go : (pairs_test (loaded_net s) [] (replacements ps) ≡ Done)
          ⊎ ((f : Refusal) × (pairs_test (loaded_net s) [] (replacements ps) ≡ Err f) × OfPair f × (refused_at (loaded_net s) [] (replacements ps) < length (replacements ps)))
          → Prints s ps (reply_of file ps)
      go (inl t) = sound-prints s (loaded-fresh file s loads) ps (sound-e (loaded_net s) [] (replacements ps) t) (reply_of file ps) (comes file s ps loads)
      go (inr f) =
          subst (Prints s ps) (sym (reply-loaded file s ps loads ∙ pair-reply s (loaded-fresh file s loads) ps f.0 f.1 f.2))
          (let m = length-map ps replacement_of in omega (arith, f.3))

pub prints-of : PrintsOf
prints-of file ps = by-load file ps (load_of file) refl

-- ## Its room

pub room_of : RoomOf
room_of file text buffer l n h = go (order_of text) refl n
  where
    go : (q : Parsed) → order_of text ≡ q → 1 ≤ length (pairs_of q) → Room buffer 0 (answer_text file (pairs_of q))
    go (Pairs p ps) e k = let a = (answer-length file text p ps l e).most in omega arith
    go (NoPair w) e k = absurd (omega arith)
    go Blank e k = absurd (omega arith)
