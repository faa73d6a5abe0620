-- The turns of the loop over all pairs, and what a reply, a file's judgement and a new board come to. Assumes nothing.
use mathlib.Core.Path.{◌≡◌, refl, sym, ap, subst, ◌∙◌}
use mathlib.Core.Bool.{Bool, true, false, not, ◌&&◌, false≢true}
use mathlib.Core.List.{List, [], ◌∷◌, map}
use Prim.Native.Nat.{ℕ, zero, suc, ◌+◌, ◌-◌, ◌<◌, ◌≤◌}
use native.Mathlib.Omega.{arith}
use lib.ListN.{length, get_or, take, drop, drop_of_length-le, length-append}
use Rattle.bits.specs.Lists.{overwritten}
use Rattle.std.specs.Prelude.{Result, Ok, Err}
use Rattle.std.specs.Result.{is_err}
use Rattle.network.specs.Answer.{Answer, Done}
use Rattle.network.specs.declared.Session.{Session}
use Rattle.network.specs.declared.Refusal.{Refusal}
use Rattle.network.specs.Bounds.{most_gates, most_file_bytes}
use Rattle.network.specs.Net.{Replacement, signals}
use Rattle.network.specs.Flat.{loaded_net, stored_all}
use Rattle.network.specs.Lists.{Sound}
use Rattle.network.specs.Tests.{is_done}
use Rattle.network.specs.State.{state_fault}
use Rattle.network.specs.Load.{started, session_of, load_of}
use Rattle.network.specs.Write.{bytes_of}
use Rattle.network.specs.Calls.{with_current, exchange_answer, pairs, refused_at, verdict_of}
use Rattle.network.proofs.Fresh.{Fresh}
use Rattle.network.proofs.Exchanges.{gate-e, gates-most}
use Rattle.network.proofs.Reached.{loaded-fresh}
use Rattle.network.proofs.Lists.{signals-back, listed_of}
use Rattle.roundtrip.proofs.Lengths.{written-length}
use Rattle.replacements.specs.Pair.{GatesIn}
use Rattle.replacements.proofs.Pairs.{pairs-at}
use Rattle.ordertext.specs.declared.Order.{Order}
use Rattle.ordertext.specs.Order.{Pair, signal_of, replacement_of, order_of, pairs_of}
use Rattle.ordertext.specs.Reads.{count_in, pairs_given, Reads}
use Rattle.ordertext.proofs.Given.{given-pairs}
use Rattle.desk.specs.declared.Reply.{Reply}
use Rattle.desk.specs.declared.Reply.TheVariants.{FileRefused}
use Rattle.desk.specs.Reply.{all_open, reply_with, reply_on, reply_for, reply_of, grants, placed, board_of}
use Rattle.desk.proofs.Placed.{placed-valid}
use Rattle.desk.proofs.Replies.{granted-verdict, verdict-sound}
use Rattle.judging.specs.Judged.{replacements_in, judged_of, Placeable, Put, GivenOf}

-- ## All pairs open

done-not_err : (a : Answer) → is_done a ≡ not (is_err a)
done-not_err (Ok _) = refl
done-not_err (Err r) = refl

module _ (s : Session) (gs ts : List ℕ) where
  -- those from pair i on are all open as all are
  abbrev pub Left : ℕ → Type 0
  Left i = all_open s (pairs (drop i gs) (drop i ts)) ≡ all_open s (pairs gs ts)

  module _ (i : ℕ) (h : i < length gs) (l : i < length ts) (left : Left i) {a : Answer}
      (e : a ≡ exchange_answer s (record { signal = get_or gs i 0; table = get_or ts i 0 })) where
    turn : {b : Bool} → b ≡ is_err a → not b && all_open s (pairs (drop (i + 1) gs) (drop (i + 1) ts)) ≡ all_open s (pairs gs ts)
    unfolding all_open
    turn {b} d =
        ap (λ (x : Bool). x && all_open s (pairs (drop (i + 1) gs) (drop (i + 1) ts))) (ap not d ∙ sym (done-not_err a) ∙ ap is_done e)
        ∙ sym (ap (all_open s) (pairs-at gs ts i h l)) ∙ left

    pub open-stops : true ≡ is_err a → false ≡ all_open s (pairs gs ts)
    open-stops d = turn d

    pub open_next : false ≡ is_err a → Left (i + 1)
    open_next d = turn d

  pub open-end : (i : ℕ) → length gs ≤ i → Left i → true ≡ all_open s (pairs gs ts)
  unfolding all_open
  open-end i h left = ap (λ (l : List ℕ). all_open s (pairs l (drop i ts))) (sym (drop_of_length-le gs h)) ∙ left

  -- ## The reply

  pub reply-is : length gs ≡ length ts → {v : Answer} {k : ℕ} {b : Bool} → v ≡ verdict_of s gs ts
      → k ≡ refused_at (loaded_net s) [] (pairs gs ts) → b ≡ all_open s (pairs gs ts) → reply_with v k b ≡ reply_on s (pairs gs ts)
  unfolding reply_on
  reply-is same ev ek eb = rw (ev ∙ listed_of s gs ts same, ek, eb)

-- ## The first n places of two arrays, lent as slices

abbrev slices : Order → ℕ → List Replacement
slices o n = pairs (take (n - 0) (drop 0 o.gates)) (take (n - 0) (drop 0 o.tables))

slices-are : (o : Order) (n : ℕ) → n ≡ count_in o.case → slices o n ≡ replacements_in o
slices-are o n e = let q : n - 0 ≡ count_in o.case = omega arith in rw q

-- ## A file

module _ (file : List ℕ) where
  pub loaded-valid : {s : Session} → Ok s ≡ load_of file → state_fault s ≡ Done
  loaded-valid {s} e = (loaded-fresh file s (sym e)).valid

  judged-is : (l : Result Session Refusal) (rs : List Replacement) → l ≡ load_of file → record { reply = reply_for l rs; session = session_of l } ≡ judged_of file rs
  unfolding judged_of
  judged-is l rs e = ap (λ (l : Result Session Refusal). record { reply = reply_for l rs; session = session_of l }) e

  pub judged-refused : {r : Refusal} (rs : List Replacement) {s : Session} → Err r ≡ load_of file → s ≡ started 0 0 0 → record { reply = FileRefused r; session = s } ≡ judged_of file rs
  judged-refused {r} rs e q = rw q (judged-is (Err r) rs e)

  pub judged-done : {s : Session} (o : Order) (n : ℕ) (q : Reply) → Ok s ≡ load_of file → n ≡ count_in o.case → q ≡ reply_on s (slices o n)
      → record { reply = q; session = s } ≡ judged_of file (replacements_in o)
  judged-done {s} o n q e c r =
      ap (λ (q : Reply). record { reply = q; session = s }) (r ∙ ap (reply_on s) (slices-are o n c)) ∙ judged-is (Ok s) (replacements_in o) e

-- ## An order that was read

pairs-map : (ps : List Pair) → pairs (map signal_of ps) (map (λ p. p.table) ps) ≡ map replacement_of ps
pairs-map [] = refl
pairs-map (p ∷ ps) = ap (λ (rs : List Replacement). replacement_of p ∷ rs) (pairs-map ps)

module _ (text : List ℕ) (o : Order) (r : Reads text o) where
  -- the replacements that it holds are those of the text's pairs
  held-pairs : replacements_in o ≡ map replacement_of (pairs_of (order_of text))
  held-pairs = rw (r.signals, r.tables) (pairs-map (pairs_given text o)) ∙ ap (map replacement_of) (given-pairs text o r)

  judged-reply : (file : List ℕ) → (judged_of file (replacements_in o)).reply ≡ reply_of file (pairs_of (order_of text))
  unfolding judged_of reply_of
  judged-reply file = ap (reply_for (load_of file)) held-pairs

-- ## The new board

module _ (s : Session) (o : Order) (n : ℕ) where
  -- each gate's table has a place
  pub gates-placed : length (take (n - 0) (drop 0 o.gates)) ≡ length (take (n - 0) (drop 0 o.tables)) → n ≡ count_in o.case → Placeable s (replacements_in o)
      → GatesIn s.n most_gates (take (n - 0) (drop 0 o.gates))
  gates-placed same c p =
      subst (GatesIn s.n most_gates)
      (sym (ap (λ (rs : List Replacement). signals rs) (slices-are o n c)) ∙ signals-back (take (n - 0) (drop 0 o.gates)) (take (n - 0) (drop 0 o.tables)) same)
      p.gates

  -- the session that is written, where these tables were made current
  module _ (all : List ℕ) (c : n ≡ count_in o.case) (e : all ≡ stored_all s.n (slices o n) s.current) where
    written : with_current s all ≡ placed s (replacements_in o)
    written = ap (with_current s) (e ∙ ap (λ (rs : List Replacement). stored_all s.n rs s.current) (slices-are o n c))

    pub board-fits : Placeable s (replacements_in o) → {size : ℕ} → most_file_bytes ≤ size → (state_fault (with_current s all) ≡ Done) × (length (bytes_of (with_current s all)) ≤ size)
    board-fits p h = rw written (p.valid, omega (arith, written-length (placed s (replacements_in o)) p.valid))

    pub board-is : (size : ℕ) (before after : List ℕ) → (size ≡ length (bytes_of (with_current s all))) × (after ≡ overwritten (bytes_of (with_current s all)) before)
        → Put s (replacements_in o) before after size
    board-is size before after w =
        let new = bytes_of (with_current s all) in
        let l = ap length w.1 ∙ length-append new (drop (length new) before) in
        let e = w.0 in
        let h : size ≤ length after = omega arith in
        let v = rw written at w in
        record { long = v.0; bytes = v.1; within = h }

sound-gates : (s : Session) → Fresh s → (named : List ℕ) (rs : List Replacement) → Sound (loaded_net s) named rs → GatesIn s.n most_gates (signals rs)
sound-gates s fresh named [] a i h = absurd (omega arith)
sound-gates s fresh named (r ∷ rs) a zero h = let b = gate-e s r.signal a.0 in (b.0, omega (arith, gates-most s fresh))
sound-gates s fresh named (r ∷ rs) a (suc i) h = sound-gates s fresh (r.signal ∷ named) rs a.3 i (omega arith)

-- ## A granted order can be done

placeable : (s : Session) → Fresh s → (rs : List Replacement) → grants (reply_on s rs) ≡ true → Placeable s rs
placeable s fresh rs g =
    let sound = verdict-sound s rs (granted-verdict s rs g) in
    record { valid = placed-valid s fresh rs sound; gates = sound-gates s fresh [] rs sound }

-- where the file is refused, nothing is granted
on-file : (file : List ℕ) (rs : List Replacement) (l : Result Session Refusal) → load_of file ≡ l → grants (reply_for l rs) ≡ true → Placeable (session_of l) rs
on-file file rs (Err r) e g = absurd (false≢true g)
on-file file rs (Ok s) e g = placeable s (loaded-fresh file s e) rs g

pub given : GivenOf
unfolding reply_of board_of
given file text o r =
    let rs = map replacement_of (pairs_of (order_of text)) in
    let s = session_of (load_of file) in
    let e = held-pairs text o r in
    record {
      pairs = e;
      reply = judged-reply text o r file;
      placeable = λ g. subst (Placeable s) (sym e) (on-file file rs (load_of file) refl g);
      board = ap (λ (rs : List Replacement). bytes_of (placed s rs)) e;
    }
