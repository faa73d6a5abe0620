-- What the tables and the counts of gates leave by their answers. Assumes nothing.
use mathlib.Core.Path.{◌≡◌, refl, sym, ap, ◌∙◌}
use mathlib.Core.Bool.{cond}
use mathlib.Core.List.{List, [], ◌∷◌}
use Prim.Native.Nat.{ℕ, ◌+◌, ◌-◌, ◌≤◌}
use native.Mathlib.Nat.{zero-add}
use native.Mathlib.Omega.{arith}
use lib.Dec.{ltb}
use lib.ListN.{length, get_or, take}
use Rattle.bits.specs.Range.{places}
use Rattle.bits.specs.Lists.{overwritten}
use Rattle.bits.proofs.Ranges.{length-places, places-ext}
use Rattle.buffer.proofs.Laying.{part-places}
use Rattle.std.specs.Prelude.{Result, Ok, Err}
use Rattle.network.specs.Answer.{Answer, Done, answer_of, giving, given_or}
use Rattle.network.specs.declared.Session.{Session}
use Rattle.network.specs.declared.Tables.{Tables}
use Rattle.network.specs.declared.Tables.{Tables}
use Rattle.network.specs.declared.Refusal.{Refusal}
use Rattle.network.specs.declared.Refusal.{Refusal}
use Rattle.network.specs.Bounds.{most_gates}
use Rattle.network.specs.Compatible.{compatible_count}
use Rattle.network.specs.Flat.{loaded_net}
use Rattle.network.specs.Refusals.{number_of}
use Rattle.network.specs.Tests.{first}
use Rattle.network.specs.State.{state_test}
use Rattle.network.specs.Calls.{gate_test, room_test, filled, gate_tables, tables_of, set_words, pattern_sets_of, pattern_counts, counts_of}
use Rattle.network.proofs.Valid.{state-e, net-ok}
use Rattle.network.proofs.TestLaws.{refused-done}
use Rattle.network.proofs.CountLaws.{counts-at}
use Rattle.answers.proofs.Given.{counts-done}
use Rattle.promises.specs.Boundary.{left, number_for, table_words, tables_work, pattern_sets_work}
use Rattle.promises.proofs.Names.{names-first, names-gate}
use Rattle.promises.proofs.Leaves.{Leaves, refused, done, worked}
use Rattle.promises.proofs.Fills.{filled-refused, filled-done, names-filling}

-- ## Tables of a gate

module _ (s : Session) (gate : ℕ) (out : List ℕ) (valid : state_test s ≡ Done) {x : Result Tables Refusal} (e : x ≡ tables_of s gate) where
  abbrev answer : Answer
  answer = first (gate_test (loaded_net s) gate ∷ [])

  by-gate : x ≡ giving answer (gate_tables s gate)
  unfolding tables_of
  by-gate = e ∙ rw valid

  pub tables-given : {t : Tables} {o : List ℕ} → x ≡ Ok t → o ≡ overwritten (table_words t) out → Leaves (worked (tables_work gate s) [] out) 0 [] o
  tables-given {t} h p =
      let g = go answer (sym h ∙ by-gate) in
      done (table_words (gate_tables s gate)) [] [] out g.0 refl (p ∙ ap (λ (y : Tables). overwritten (table_words y) out) g.1)
    where
      go : (a : Answer) → Ok t ≡ giving a (gate_tables s gate) → (a ≡ Done) × (t ≡ gate_tables s gate)
      go (Ok _) q = (refl, cc)
      go (Err r) q = let z : ◌≡◌ {A = ℕ} 0 1 = cc in let n : ⊥ = omega arith in absurd n

  pub tables-refused : {r : Refusal} {k : ℕ} → x ≡ Err r → k ≡ number_of r → Leaves (worked (tables_work gate s) [] out) k [] out
  tables-refused {r} h p =
      refused (table_words (gate_tables s gate)) [] [] out (go answer (sym h ∙ by-gate)) (names-first 0 (gate_test (loaded_net s) gate ∷ []) (names-gate 0 (loaded_net s) gate, tt)) p
    where
      go : (a : Answer) → Err r ≡ giving a (gate_tables s gate) → a ≡ Err r
      go (Ok _) q = cc
      go (Err f) q = cc

-- ## The number of patterns in H of each gate, off the array of all gates

module _ (s : Session) (valid : state_test s ≡ Done) where
  module _ {cs : List ℕ} (e : Ok cs ≡ counts_of s) where
    abbrev counted : ℕ → ℕ
    counted g = compatible_count (loaded_net s) (s.n + g)

    counts-are : cs ≡ pattern_counts s
    counts-are = ap (given_or []) (e ∙ sym (counts-done s valid))

    pub counts-long : s.m ≤ length cs
    counts-long =
        let n = ap length counts-are ∙ length-places most_gates (λ g. cond (ltb g s.m) (counted g) 0) in
        let m = (net-ok s (state-e s valid)).most in
        omega arith

    pub counts-part : take (s.m - 0) cs ≡ places s.m counted
    counts-part =
        let q : s.m - 0 ≡ s.m = omega arith in
        rw q (part-places cs 0 s.m (let n = counts-long in omega arith)
        ∙ places-ext s.m (λ g. get_or cs (0 + g) 0) counted (λ g h. rw (zero-add, counts-are) (counts-at s valid g h)))

    pub counts-few : (out : List ℕ) → s.m ≤ length out → length (take (s.m - 0) cs) ≤ length out
    counts-few out r = let n = ap length counts-part ∙ length-places s.m counted in omega arith

-- ## The sets of all gates

module _ (s : Session) (words : List ℕ) where
  abbrev new : List ℕ
  new = set_words s s.m

  abbrev tested : Answer
  tested = first (state_test s ∷ room_test (length (set_words s s.m)) words ∷ [])

  pub sets-left : {v : Answer} {b : List ℕ} → record { answer = v; buffer = b } ≡ pattern_sets_of s words → Leaves (worked (pattern_sets_work words s) words []) (number_for v) b []
  unfolding pattern_sets_of
  sets-left {v} {b} q = go v q
    where
      go : (v : Answer) → record { answer = v; buffer = b } ≡ filled tested new words
          → Leaves (left (first ((filled tested new words).answer ∷ [])) [] new words []) (number_for v) b []
      go (Ok u) q = filled-done tested [] new words [] q refl refl
      go (Err r) q = filled-refused tested [] new words [] q (names-filling s (length new) words) refl refl
