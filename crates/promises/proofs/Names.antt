-- What a call leaves by what its answer says; and how many values an answer names: 13 one, 14 two, and no other refusal any.
-- Assumes nothing.
use mathlib.Core.Path.{◌≡◌, refl}
use mathlib.Core.Bool.{true, false}
use mathlib.Core.List.{List, []}
use Prim.Native.Nat.{ℕ, ◌≤◌}
use native.Mathlib.Omega.{arith}
use lib.ListN.{length, get_or, drop}
use Rattle.bits.proofs.Logic.{clash}
use Rattle.std.specs.Prelude.{Ok, Err}
use Rattle.network.specs.Answer.{Answer, Done}
use Rattle.network.specs.declared.Session.{Session}
use Rattle.network.specs.declared.Refusal.{Refusal}
use Rattle.network.specs.Net.{Net, Replacement}
use Rattle.network.specs.Refusals.{values_of, said}
use Rattle.network.specs.Tests.{member, first}
use Rattle.network.specs.State.{state_test}
use Rattle.network.specs.Calls.{gate_test, table_test, room_test}
use Rattle.network.proofs.Said.{told-by}
use Rattle.network.proofs.ByTest.{room_by, state-by, gate-by, table-by, Each, first_by}
use Rattle.demands.specs.Demands.{Numbered}
use Rattle.packed.specs.Packed.{words_test}
use Rattle.promises.specs.Boundary.{number_for, values_for}
use Rattle.promises.proofs.Tested.{words-by}

-- the number that a call returns is the first that its answer says, and what it names is the rest
pub number-said : (a : Answer) → number_for a ≡ get_or (said a) 0 0
number-said (Ok _) = refl
number-said (Err r) = refl

pub values-said : (a : Answer) → values_for a [] ≡ drop 1 (said a)
values-said (Ok _) = refl
values-said (Err r) = refl

-- 0 is no refusal's number
pub zero-done : (a : Answer) → number_for a ≡ 0 → a ≡ Done
zero-done (Ok _) e = refl
zero-done (Err r) e = let l = told-by (λ x. 1 ≤ x.0) (λ n a. a) (λ t. omega arith) (λ x i. omega arith) r in absurd (omega arith)

-- it names at most k values
abbrev pub NamesMost : ℕ → Answer → Type 0
NamesMost k a = length (values_for a []) ≤ k

-- so there is room for what it names
pub named-room : {a : Answer} {r : Refusal} {k : ℕ} (out : List ℕ) → a ≡ Err r → NamesMost k a → k ≤ length out → length (values_of r) ≤ length out
named-room out e h l = let n = rw e at h in omega arith

module _ (k : ℕ) where
  pub names-first : (tests : List Answer) → Each (NamesMost k) tests → NamesMost k (first tests)
  names-first = first_by (NamesMost k) (omega arith)

  pub names-room : (needed : ℕ) (buffer : List ℕ) → NamesMost k (room_test needed buffer)
  names-room needed buffer = room_by (NamesMost k) needed buffer (omega arith) (λ l. omega arith)

  pub names-state : (s : Session) → NamesMost k (state_test s)
  names-state s = state-by (NamesMost k) s (omega arith) (λ v. omega arith)

  pub names-gate : (N : Net) (g : ℕ) → NamesMost k (gate_test N g)
  names-gate N g = gate-by (NamesMost k) N g (omega arith) (λ w. omega arith)

  pub names_table : (N : Net) (r : Replacement) → NamesMost k (table_test N r)
  names_table N r = table-by (NamesMost k) N r (omega arith) (λ f. omega arith)

  pub names-words : (ws : List ℕ) → NamesMost k (words_test ws)
  names-words ws = words-by (NamesMost k) ws (omega arith) (omega arith) (λ v. omega arith)

-- a refusal other than 13 and 14 names nothing
pub nameless : (ns : List ℕ) → member 13 ns ≡ false → member 14 ns ≡ false → (r : Refusal) → Numbered ns r → values_of r ≡ []
nameless ns no13 no14 = told-by (λ x. member x.0 ns ≡ true → x.1 ≡ []) (λ n a h. refl) (λ t h. clash h no13) (λ x i h. clash h no14)
