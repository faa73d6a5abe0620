-- What is laid one stretch after the other, and place after place. Assumes nothing.
use mathlib.Core.Path.{◌≡◌, refl, sym, ap, ◌∙◌}
use mathlib.Core.List.{List, [], ◌∷◌, ◌++◌}
use Prim.Native.Nat.{ℕ, zero, suc, ◌+◌, ◌-◌, ◌≤◌}
use native.Mathlib.Nat.{add-zero}
use native.Mathlib.Omega.{arith}
use lib.ListN.{length, get_or, take, drop, set, length-append, length-drop}
use lib.Seq.{sets, sets-eq, take_all, take-suc, take-append_seam, get_or-drop, length-sets}
use borrow.Rule.Slice.PartMut.{put_mid}
use Rattle.std.proofs.lemmas.Slice.{put_mid-paste}
use Rattle.bits.specs.Range.{places}
use Rattle.bits.specs.Lists.{overwritten}
use Rattle.buffer.specs.Laid.{Room, Laid}

-- ## One stretch after the other

sets-append : (us l vs : List ℕ) (i : ℕ) → sets (sets l i us) (i + length us) vs ≡ sets l i (us ++ vs)
sets-append [] l vs i = rw add-zero
sets-append (u ∷ us) l vs i =
    let q : i + suc (length us) ≡ suc i + length us = omega arith in
    rw q (sets-append us (set l i u) vs (suc i))

pub laid_none : (b : List ℕ) (at : ℕ) → Laid b at [] b at
laid_none b at = record { buffer = refl; behind = sym (add-zero at) }

pub laid-append : {b b₁ b₂ xs ys : List ℕ} {at r₁ r₂ : ℕ} → Laid b at xs b₁ r₁ → Laid b₁ r₁ ys b₂ r₂ → Laid b at (xs ++ ys) b₂ r₂
laid-append {b} {b₁} {b₂} {xs} {ys} {at} f s = record {
  buffer = s.buffer ∙ rw (f.buffer, f.behind) (sets-append xs b ys at);
  behind = let n = length-append xs ys in let p = f.behind in let q = s.behind in omega arith;
}

-- a buffer keeps its length
pub laid-length : {b b₁ xs : List ℕ} {at r : ℕ} → Laid b at xs b₁ r → length b₁ ≡ length b
laid-length {b} {b₁} {xs} {at} l = ap length l.buffer ∙ length-sets b at xs

-- no more than k places are laid
pub record Within (b b₁ : List ℕ) (at r k : ℕ) : Type 0 where
  pub behind : r ≤ at + k
  pub long : length b₁ ≡ length b

pub laid-within : {b b₁ xs : List ℕ} {at r : ℕ} (k : ℕ) → length xs ≤ k → Laid b at xs b₁ r → Within b b₁ at r k
laid-within k h l = record { behind = let p = l.behind in omega arith; long = laid-length l }

-- at the buffer's start
pub laid-start : (buffer new after : List ℕ) (r : ℕ) → length new ≤ length buffer → Laid buffer 0 new after r
    → (r ≡ length new) × (after ≡ overwritten new buffer)
laid-start buffer new after r h l =
    let p = l.behind in
    let q : 0 + length new ≡ length new = omega arith in
    (omega arith, l.buffer ∙ rw q at (sets-eq new buffer 0 (omega arith)))

-- and read off again
pub laid-part : {b b₁ : List ℕ} {n : ℕ} (new : List ℕ) → Laid b 0 new b₁ n → length new ≤ length b → take (n - 0) (drop 0 b₁) ≡ new
laid-part {b} {b₁} {n} new l h =
    let k = l.behind in
    let w = laid-start b new b₁ n h l in
    let q : n - 0 ≡ length new = omega arith in
    rw (q, w.1) (take-append_seam new (drop (length new) b))

-- two and four stretches, each at the place behind the one before
laid : {b₁ : List ℕ} {r : ℕ} (b xs : List ℕ) (at : ℕ) → b₁ ≡ sets b at xs → r ≡ at + length xs → Laid b at xs b₁ r
laid b xs at e p = record { buffer = e; behind = p }

pub lay-two : {b₁ b₂ : List ℕ} (b xs ys : List ℕ) (at i : ℕ) → b₁ ≡ sets b at xs → b₂ ≡ sets b₁ i ys → i ≡ at + length xs → b₂ ≡ sets b at (xs ++ ys)
lay-two {b₁} b xs ys at i e f p = (laid-append (laid b xs at e p) (laid b₁ ys i f refl)).buffer

pub lay-four : {b₁ b₂ b₃ b₄ : List ℕ} (b ws xs ys zs : List ℕ) (at i j k : ℕ)
    → b₁ ≡ sets b at ws → b₂ ≡ sets b₁ i xs → b₃ ≡ sets b₂ j ys → b₄ ≡ sets b₃ k zs
    → i ≡ at + length ws → j ≡ i + length xs → k ≡ j + length ys
    → b₄ ≡ sets b at (ws ++ xs ++ ys ++ zs)
lay-four {b₁} {b₂} {b₃} b ws xs ys zs at i j k e f g h p q r =
    (laid-append (laid-append (laid-append (laid b ws at e p) (laid b₁ xs i f q)) (laid b₂ ys j g r)) (laid b₃ zs k h refl)).buffer

-- ## In a loop

-- with `rest` laid into b from place a on, all of `whole` stands in b₀ from place `at` on
pub record Pending (b₀ : List ℕ) (at : ℕ) (whole b : List ℕ) (a : ℕ) (rest : List ℕ) : Type 0 where
  pub long : length b ≡ length b₀
  pub place : a + length rest ≡ at + length whole
  pub same : sets b a rest ≡ sets b₀ at whole

pub pending-start : (b whole : List ℕ) (at : ℕ) → Pending b at whole b at whole
pending-start b whole at = record { long = refl; place = refl; same = refl }

pub pending-step : {b₀ whole b xs b₁ todo : List ℕ} {at a r : ℕ} (rest : List ℕ) → Pending b₀ at whole b a todo → todo ≡ xs ++ rest → Laid b a xs b₁ r
    → Pending b₀ at whole b₁ r rest
pending-step {b₀} {whole} {b} {xs} {b₁} {todo} {at} {a} {r} rest l e n = record {
  long = laid-length n ∙ l.long;
  place = let p = l.place in let q = n.behind in let k = ap length e ∙ length-append xs rest in omega arith;
  same = rw (n.buffer, n.behind, sets-append xs b rest a, ← e) l.same;
}

pub pending-room : {b₀ whole b todo : List ℕ} {at a : ℕ} (xs rest : List ℕ) → Pending b₀ at whole b a todo → todo ≡ xs ++ rest → Room b₀ at whole → Room b a xs
pending-room xs rest l e h = let p = l.place in let q = l.long in let k = ap length e ∙ length-append xs rest in omega arith

pub pending_done : {b₀ whole b todo : List ℕ} {at a : ℕ} → Pending b₀ at whole b a todo → todo ≡ [] → Laid b₀ at whole b a
pending_done l e = record { buffer = rw e at l.same; behind = let p = l.place in let k = ap length e in omega arith }

-- one byte or word
pub stored : (b : List ℕ) (a x v : ℕ) → v ≡ x → Laid b a (x ∷ []) (set b a v) (a + 1)
stored b a x v e = record { buffer = rw e; behind = refl }

-- ## A whole stretch at once

pub laid-whole : (l vs new : List ℕ) (at : ℕ) → vs ≡ new → Room l at new → Laid l at new (put_mid at (at + length new - at) l vs) (at + length new)
laid-whole l vs new at e h = record {
  buffer = put_mid-paste at (at + length new - at) l vs new (length new) e (omega arith) refl ∙ rw (take_all (length new) new (omega arith), sets-eq new l at h);
  behind = refl;
}

-- ## A part of a list, place by place

pub part-places : (l : List ℕ) (b k : ℕ) → b + k ≤ length l → take k (drop b l) ≡ places k (λ r. get_or l (b + r) 0)
part-places l b zero h = refl
part-places l b (suc k) h =
    let n = length-drop b l in
    rw (take-suc (drop b l) k 0 (omega arith), part-places l b k (omega arith), get_or-drop b l k 0)
