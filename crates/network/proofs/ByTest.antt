-- The tests of a call: what holds of each refusal that a test gives, and of Done where it passes, holds of its answer; and what holds
-- of each test of a list holds of the list's answer. Assumes nothing.
use mathlib.Core.Path.{◌≡◌, refl}
use mathlib.Core.Logic.{⊎_elim}
use mathlib.Core.Bool.{Bool, true, false, not, ◌&&◌}
use mathlib.Core.List.{List, [], ◌∷◌}
use Prim.Native.Nat.{ℕ, ◌≤◌}
use lib.Dec.{eqb, ltb}
use lib.ListN.{length}
use borrow.Author.Tests.{eqb-true, ltb-false, not-false}
use Rattle.std.specs.Prelude.{Option}
use Rattle.std.specs.Prelude.{Some, None}
use Rattle.bits.specs.Range.{smallest}
use Rattle.network.specs.declared.Session.{Session}
use Rattle.network.specs.declared.Refusal.{Refusal}
use Rattle.network.specs.declared.Refusal.TheVariants.{BufferTooShort, InvalidState, NotAGate, TableTooWide, ClosedEntry, Harm, ListsUnequal, GateRepeated}
use Rattle.network.specs.Answer.{Answer}
use Rattle.network.specs.Answer.{Done}
use Rattle.std.specs.Prelude.{Ok, Err}
use Rattle.network.specs.Net.{Net, is_gate, entries, Replacement}
use Rattle.network.specs.Tests.{refuse_if, or_else, first, member}
use Rattle.network.specs.State.{state_fault, as_invalid, state_test}
use Rattle.network.specs.Calls.{gate_test, fits, table_test, alters, entry_found, closed_test, harm_test, lengths_test, pair_test, pairs_test, room_test}
use Rattle.network.proofs.Harm.{harm-only}

-- Q of the answer of a test and of those behind it, as a property of the test
abbrev pub Before : (Answer → Type 0) → Answer → Answer → Type 0
Before Q behind a = Q (or_else a behind)

module _ (Q : Answer → Type 0) where
  -- ## One test

  pub if-by : (b : Bool) (r : Refusal) → Q (Err r) → (b ≡ false → Q Done) → Q (refuse_if b r)
  if-by true r p q = p
  if-by false r p q = q refl

  pub not-by : (b : Bool) (r : Refusal) → Q (Err r) → (b ≡ true → Q Done) → Q (refuse_if (not b) r)
  not-by b r p q = if-by (not b) r p (λ e. q (not-false b e))

  -- 9
  pub room_by : (needed : ℕ) (buffer : List ℕ) → Q (Err BufferTooShort) → (needed ≤ length buffer → Q Done) → Q (room_test needed buffer)
  room_by needed buffer p q = if-by (ltb (length buffer) needed) BufferTooShort p (λ e. q (ltb-false (length buffer) needed e))

  -- 10
  pub state-by : (s : Session) → Q (Err InvalidState) → (state_test s ≡ Done → Q Done) → Q (state_test s)
  unfolding state_test
  state-by s p q = go (state_fault s) q
    where
      go : (a : Answer) → (as_invalid a ≡ Done → Q Done) → Q (as_invalid a)
      go (Ok _) q = q refl
      go (Err r) q = p

  -- 11
  pub gate-by : (N : Net) (g : ℕ) → Q (Err NotAGate) → (is_gate N g ≡ true → Q Done) → Q (gate_test N g)
  unfolding gate_test
  gate-by N g = not-by (is_gate N g) NotAGate

  -- 12
  pub table-by : (N : Net) (r : Replacement) → Q (Err TableTooWide) → (fits N r ≡ true → Q Done) → Q (table_test N r)
  unfolding table_test
  table-by N r = not-by (fits N r) TableTooWide

  -- 13
  pub closed-by : (N : Net) (shut : ℕ → Bool) (r : Replacement) → ((t : ℕ) → Q (Err (ClosedEntry t))) → Q Done → Q (closed_test N shut r)
  unfolding closed_test
  closed-by N shut r p q = go (smallest (entries N r.signal) (λ t. shut t && alters N r t))
    where
      go : (f : Option ℕ) → Q (entry_found f)
      go (Some t) = p t
      go None = q

  -- 14
  pub harm-by : (L M : Net) → ((x i : ℕ) → Q (Err (Harm x i))) → Q Done → Q (harm_test L M)
  harm-by L M p q = ⊎_elim (λ e. rw e q) (λ f. rw f.2 (p f.0 f.1)) (harm-only L M)

  -- 15
  pub lengths-by : (gs ts : List ℕ) → Q (Err ListsUnequal) → (length gs ≡ length ts → Q Done) → Q (lengths_test gs ts)
  unfolding lengths_test
  lengths-by gs ts p q = not-by (eqb (length gs) (length ts)) ListsUnequal p (λ e. q (eqb-true (length gs) (length ts) e))

  -- ## A list of tests

  pub or-by : (a b : Answer) → Q a → Q b → Q (or_else a b)
  or-by (Ok _) b p q = q
  or-by (Err r) b p q = p

  abbrev pub Each : List Answer → Type 0
  Each [] = Unit {0}
  Each (a ∷ rest) = Q a × Each rest

  pub first_by : Q Done → (tests : List Answer) → Each tests → Q (first tests)
  first_by done [] p = done
  first_by done (a ∷ rest) p = or-by a (first rest) p.0 (first_by done rest p.1)

  -- 11, 16 and 12 of each pair
  pub pairs-by : (N : Net) (named : List ℕ) (rs : List Replacement) → Q (Err NotAGate) → Q (Err GateRepeated) → Q (Err TableTooWide) → Q Done
      → Q (pairs_test N named rs)
  unfolding pair_test
  pairs-by N named [] g t w done = done
  pairs-by N named (r ∷ rs) g t w done =
      or-by (pair_test N named r) _
      (first_by done (gate_test N r.signal ∷ refuse_if (member r.signal named) GateRepeated ∷ table_test N r ∷ [])
      (gate-by N r.signal g (λ _. done), (if-by (member r.signal named) GateRepeated t (λ _. done), (table-by N r w (λ _. done), tt))))
      (pairs-by N _ rs g t w done)
