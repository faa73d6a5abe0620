-- The fan-ins of a block whose names pass: different signals that stand before it. Assumes nothing.
use mathlib.Core.Path.{◌≡◌, refl, sym, ap, ap₂, ◌∙◌}
use mathlib.Core.Bool.{Bool, true, false, not, cond, false≢true}
use mathlib.Core.List.{List, [], ◌∷◌, map}
use Prim.Native.Nat.{ℕ, zero, suc, ◌-◌, ◌<◌}
use native.Mathlib.Omega.{arith}
use lib.Dec.{ltb, eqb}
use lib.ListN.{length, get_or, take, length-map}
use lib.Seq.{length-take-le, get_or-take}
use borrow.Author.Tests.{ltb-true, lt-ltb, eqb-true}
use Rattle.bits.proofs.Ranges.{and_l, and_r, or-false}
use Rattle.network.specs.Answer.{Done}
use Rattle.network.specs.declared.Refusal.TheVariants.{FaninNotEarlier, FaninRepeated}
use Rattle.network.specs.Tests.{refuse_if, member, fanin_test, fanins_test}
use Rattle.network.proofs.TestLaws.{clear-i, each-i}
use Rattle.text.specs.Words.{Text, all}
use Rattle.blif.specs.Read.{same, place_in, known, repeats, fanin_names}
use Rattle.bliftrip.proofs.Names.{Different, same_refl}
use Rattle.bliftrip.proofs.Outgoing.{member-i}

-- ## Names and places

same-eq : (u v : Text) → same u v ≡ true → u ≡ v
same-eq [] [] h = refl
same-eq [] (b ∷ v) h = absurd (false≢true h)
same-eq (a ∷ u) [] h = absurd (false≢true h)
same-eq (a ∷ u) (b ∷ v) h =
    ap₂ (λ (x : ℕ) (y : Text). x ∷ y) (eqb-true a b (and_l (eqb a b) (same u v) h)) (same-eq u v (and_r (eqb a b) (same u v) h))

-- at its place stands the name
place_is : (vs : List Text) (w : Text) → place_in vs w < length vs → get_or vs (place_in vs w) [] ≡ w
place_is [] w h = let z : ⊥ = omega arith in absurd z
place_is (v ∷ vs) w h = go (same v w) refl h (place_is vs w)
  where
    go : (b : Bool) → same v w ≡ b → cond b 0 (suc (place_in vs w)) < suc (length vs) → (place_in vs w < length vs → get_or vs (place_in vs w) [] ≡ w)
        → get_or (v ∷ vs) (cond b 0 (suc (place_in vs w))) [] ≡ w
    go true e l f = same-eq v w e
    go false e l f = f (omega arith)

-- a name that stands at some place is known
found : (vs : List Text) (i : ℕ) (w : Text) → i < length vs → get_or vs i [] ≡ w → place_in vs w < length vs
found [] i w h e = let z : ⊥ = omega arith in absurd z
found (v ∷ vs) zero w h e = rw (e, same_refl w) (omega arith)
found (v ∷ vs) (suc i) w h e = go (same v w) (found vs i w (omega arith) e)
  where
    go : (b : Bool) → place_in vs w < length vs → cond b 0 (suc (place_in vs w)) < suc (length vs)
    go true l = omega arith
    go false l = omega arith

-- a list without repetition has different names at different places
apart-names : (l : List Text) → repeats l ≡ false → (i j : ℕ) → i < j → j < length l → get_or l i [] ≡ get_or l j [] → ⊥
apart-names [] h i j a b e = omega arith
apart-names (w ∷ l) h zero zero a b e = omega arith
apart-names (w ∷ l) h zero (suc j) a b e =
    let k = (or-false (known l w) (repeats l) h).0 in
    absurd (false≢true (sym k ∙ lt-ltb (place_in l w) (length l) (found l j w (omega arith) (sym e))))
apart-names (w ∷ l) h (suc i) zero a b e = omega arith
apart-names (w ∷ l) h (suc i) (suc j) a b e = apart-names l (or-false (known l w) (repeats l) h).1 i j (omega arith) (omega arith) e

pub all-known-e : (vs ws : List Text) → all (known vs) ws ≡ true → (r : ℕ) → r < length ws → place_in vs (get_or ws r []) < length vs
all-known-e vs [] h r l = let z : ⊥ = omega arith in absurd z
all-known-e vs (w ∷ ws) h zero l = ltb-true (place_in vs w) (length vs) (and_l (known vs w) (all (known vs) ws) h)
all-known-e vs (w ∷ ws) h (suc r) l = all-known-e vs ws (and_r (known vs w) (all (known vs) ws) h) r (omega arith)

pub map_at : (vs ws : List Text) (r : ℕ) → r < length ws → get_or (map (place_in vs) ws) r 0 ≡ place_in vs (get_or ws r [])
map_at vs [] r h = let z : ⊥ = omega arith in absurd z
map_at vs (w ∷ ws) zero h = refl
map_at vs (w ∷ ws) (suc r) h = map_at vs ws r (omega arith)

-- ## Fan-ins

-- 4 and 5, passed
pub fanins-i : (limit : ℕ) (fs : List ℕ) → ((r : ℕ) → r < length fs → get_or fs r 0 < limit) → Different fs → fanins_test limit fs ≡ Done
unfolding fanins_test fanin_test
fanins-i limit fs f d =
    each-i (fanin_test limit fs) (length fs) (λ j h.
    let n = length-take-le j fs (omega arith) in
    clear-i (refuse_if (not (ltb (get_or fs j 0) limit)) FaninNotEarlier ∷ refuse_if (member (get_or fs j 0) (take j fs)) FaninRepeated ∷ []) (
      rw (lt-ltb (get_or fs j 0) limit (f j h)),
      (rw (member-i (get_or fs j 0) (take j fs) (λ i l e. d i j (omega arith) h (sym (get_or-take j fs i 0 (omega arith)) ∙ e))), tt),
    ))

module _ (vs ws : List Text) (there : all (known vs) (fanin_names ws) ≡ true) (once : repeats ws ≡ false) where
  abbrev pub places_of : List ℕ
  places_of = map (place_in vs) (fanin_names ws)

  pub length-fanins : length places_of ≡ length ws - 1
  length-fanins = length-map (fanin_names ws) (place_in vs) ∙ length-take-le (length ws - 1) ws (omega arith)

  pub places-in : (r : ℕ) → r < length places_of → get_or places_of r 0 < length vs
  places-in r h =
      let n = length-map (fanin_names ws) (place_in vs) in
      rw (map_at vs (fanin_names ws) r (omega arith)) (all-known-e vs (fanin_names ws) there r (omega arith))

  pub places-apart : Different places_of
  places-apart i j a b e =
      let n = length-map (fanin_names ws) (place_in vs) in
      let fs = fanin_names ws in
      let l = length-fanins in
      let x = map_at vs fs i (omega arith) in
      let y = map_at vs fs j (omega arith) in
      let p = place_is vs (get_or fs i []) (all-known-e vs fs there i (omega arith)) in
      let q = place_is vs (get_or fs j []) (all-known-e vs fs there j (omega arith)) in
      let s : get_or fs i [] ≡ get_or fs j [] = sym p ∙ ap (λ (z : ℕ). get_or vs z []) (sym x ∙ e ∙ y) ∙ q in
      let u = get_or-take (length ws - 1) ws i [] (omega arith) in
      let v = get_or-take (length ws - 1) ws j [] (omega arith) in
      apart-names ws once i j a (omega arith) (sym u ∙ s ∙ v)
