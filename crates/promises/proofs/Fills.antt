-- What a call leaves that fills a buffer by the answer y, which names nothing. Assumes nothing.
use mathlib.Core.Path.{◌≡◌, refl, sym, ap, ◌∙◌}
use mathlib.Core.List.{List, [], ◌∷◌}
use Prim.Native.Nat.{ℕ}
use native.Mathlib.Omega.{arith}
use lib.ListN.{length}
use Rattle.bits.specs.Lists.{overwritten}
use Rattle.std.specs.Prelude.{Result, Ok, Err}
use Rattle.network.specs.Answer.{Answer, Done, giving}
use Rattle.network.specs.declared.Session.{Session}
use Rattle.network.specs.declared.Refusal.{Refusal}
use Rattle.network.specs.declared.Refusal.{Refusal}
use Rattle.network.specs.Refusals.{number_of}
use Rattle.network.specs.Tests.{first}
use Rattle.network.specs.State.{state_test}
use Rattle.network.specs.Calls.{Filled, room_test, filled, Written, with_length}
use Rattle.network.proofs.TestLaws.{refused-done}
use Rattle.promises.specs.Boundary.{Left, left}
use Rattle.promises.proofs.Names.{NamesMost, names-first, names-room, names-state}
use Rattle.promises.proofs.Leaves.{Leaves, refused}

abbrev pub fills : Answer → (given new buffer out : List ℕ) → Left
fills y given new buffer out = left (first ((filled y new buffer).answer ∷ [])) given new buffer out

module _ (y : Answer) (given new buffer out : List ℕ) {v : Answer} {b : List ℕ} (q : record { answer = v; buffer = b } ≡ filled y new buffer) where
  answer-is : (filled y new buffer).answer ≡ v
  answer-is = ap (λ (f : Filled). f.answer) (sym q)

  buffer-is : b ≡ (filled y new buffer).buffer
  buffer-is = ap (λ (f : Filled). f.buffer) q

  pub filled-refused : {r : Refusal} {k : ℕ} → NamesMost 0 y → v ≡ Err r → k ≡ number_of r → Leaves (fills y given new buffer out) k b out
  filled-refused {r} {k} n h p = rw buffer-is (go y n (answer-is ∙ h))
    where
      go : (a : Answer) → NamesMost 0 a → (filled a new buffer).answer ≡ Err r → Leaves (fills a given new buffer out) k (filled a new buffer).buffer out
      go (Ok _) m e = refused-done r (sym e)
      go (Err f) m e = refused given new buffer out e m p

  pub filled-done : {o : List ℕ} → v ≡ Done → o ≡ overwritten given out → Leaves (fills y given new buffer out) 0 b o
  filled-done {o} h p = rw buffer-is (go y (answer-is ∙ h))
    where
      go : (a : Answer) → (filled a new buffer).answer ≡ Done → Leaves (fills a given new buffer out) 0 (filled a new buffer).buffer o
      go (Ok _) e = rw p
      go (Err f) e = refused-done f e

-- and gives the length in `out`
module _ (y : Answer) (new buffer out : List ℕ) {w : Result ℕ Refusal} {b : List ℕ}
    (q : record { answer = w; buffer = b } ≡ with_length (length new) (filled y new buffer)) where
  told-as : w ≡ giving (filled y new buffer).answer (length new)
  told-as = ap (λ (x : Written). x.answer) q

  filled-as : record { answer = (filled y new buffer).answer; buffer = b } ≡ filled y new buffer
  filled-as = rw (ap (λ (x : Written). x.buffer) q)

  pub written : {n : ℕ} {o : List ℕ} → w ≡ Ok n → o ≡ overwritten (n ∷ []) out → Leaves (fills y (length new ∷ []) new buffer out) 0 b o
  written {n} h p =
      let g = go (filled y new buffer).answer (sym h ∙ told-as) in
      filled-done y (length new ∷ []) new buffer out filled-as g.0 (p ∙ ap (λ (i : ℕ). overwritten (i ∷ []) out) g.1)
    where
      go : (a : Answer) → Ok n ≡ giving a (length new) → (a ≡ Done) × (n ≡ length new)
      go (Ok _) d = (refl, cc)
      go (Err r) d = let z : ◌≡◌ {A = ℕ} 0 1 = cc in let m : ⊥ = omega arith in absurd m

  pub unwritten : {r : Refusal} {k : ℕ} → NamesMost 0 y → w ≡ Err r → k ≡ number_of r → Leaves (fills y (length new ∷ []) new buffer out) k b out
  unwritten {r} m h p = filled-refused y (length new ∷ []) new buffer out filled-as m (go (filled y new buffer).answer (sym h ∙ told-as)) p
    where
      go : (a : Answer) → Err r ≡ giving a (length new) → a ≡ Err r
      go (Ok _) d = cc
      go (Err f) d = cc

-- the session, then the room
pub names-filling : (s : Session) (needed : ℕ) (buffer : List ℕ) → NamesMost 0 (first (state_test s ∷ room_test needed buffer ∷ []))
names-filling s needed buffer = names-first 0 (state_test s ∷ room_test needed buffer ∷ []) (names-state 0 s, (names-room 0 needed buffer, tt))
