-- A text laid piece after piece. Assumes nothing.
use mathlib.Core.Path.{◌≡◌, refl}
use mathlib.Core.List.{List, [], ◌∷◌, ◌++◌}
use Prim.Native.Nat.{ℕ}
use Rattle.buffer.specs.Laid.{Room, Laid}
use Rattle.buffer.proofs.Laying.{Pending, pending-start, pending-step, pending-room, pending_done}
use Rattle.text.specs.Words.{Text}

abbrev pub joined : List Text → Text
joined [] = []
joined (p ∷ ps) = p ++ joined ps

-- the whole has room in b₀ from place `at` on, and stands there once these pieces are laid into b from place a on
pub record Due (b₀ : Text) (at : ℕ) (whole b : Text) (a : ℕ) (ps : List Text) : Type 0 where
  pub room : Room b₀ at whole
  pub left : Pending b₀ at whole b a (joined ps)

pub due : {whole : Text} (b : Text) (at : ℕ) (ps : List Text) → whole ≡ joined ps → Room b at whole → Due b at whole b at ps
due {whole} b at ps e h = record { room = h; left = rw e (pending-start b (joined ps) at) }

module _ {b₀ whole b p : Text} {ps : List Text} {at a : ℕ} (d : Due b₀ at whole b a (p ∷ ps)) where
  pub due-room : Room b a p
  due-room = pending-room p (joined ps) d.left refl d.room

  pub due-next : {b₁ : Text} {r : ℕ} → Laid b a p b₁ r → Due b₀ at whole b₁ r ps
  due-next l = record { room = d.room; left = pending-step (joined ps) d.left refl l }

pub due-done : {b₀ whole b : Text} {at a : ℕ} → Due b₀ at whole b a [] → Laid b₀ at whole b a
due-done d = pending_done d.left refl
