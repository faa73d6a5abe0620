-- The tests of pairs by numbers, and the turns of the loops over two lists. Assumes nothing.
use mathlib.Core.Path.{◌≡◌, refl, sym, ap, ap₂, subst, ◌∙◌}
use mathlib.Core.Bool.{Bool, not, cond, ◌&&◌, ◌||◌}
use mathlib.Core.List.{List, [], ◌∷◌}
use Prim.Native.Nat.{ℕ, zero, suc, ◌+◌, ◌-◌, ◌^◌, ◌<◌, ◌≤◌}
use native.Mathlib.Nat.{not-suc-le-zero}
use native.Mathlib.Numerals.{add-one}
use native.Mathlib.Omega.{arith}
use lib.Dec.{eqb, leb, ltb}
use lib.Bits.{bit_or}
use lib.ListN.{length, get_or, drop, set, length-set, drop_of_length-le}
use lib.Seq.{drop-cons}
use Rattle.bits.specs.Bit.{bit}
use Rattle.bits.proofs.BitLaws.{bit-or, bit-power}
use Rattle.bits.proofs.Ranges.{or_comm}
use Rattle.network.specs.Answer.{Answer, Done}
use Rattle.network.specs.declared.Refusal.TheVariants.{NotAGate}
use Rattle.network.specs.Net.{Replacement}
use Rattle.network.specs.Flat.{stored_all}
use Rattle.network.specs.Tests.{refuse_if, or_else, is_done, member}
use Rattle.network.specs.Calls.{pairs}
use Rattle.network.proofs.Earlier.{gate-in}
use Rattle.network.proofs.TestLaws.{both, kept}
use Rattle.replacements.specs.Pair.{GatesIn, pair_by, pairs_by, refused_by}

-- ## What a pair that is not refused tells

module _ (n m : ℕ) (ks : List ℕ) where
  pub pair-in : (again : Bool) (g t : ℕ) → pair_by n m ks again g t ≡ Done → (n ≤ g) × (g < n + m)
  unfolding pair_by
  pair-in again g t e = gate-in n m g (kept (leb n g && ltb g (n + m)) NotAGate (both (refuse_if (not (leb n g && ltb g (n + m))) NotAGate) _ e).0)

  pub pairs-in : (named gs ts : List ℕ) → length gs ≡ length ts → pairs_by n m ks named (pairs gs ts) ≡ Done → GatesIn n m gs
  pairs-in named [] ts l e i h = absurd (not-suc-le-zero h)
  pairs-in named (g ∷ gs) [] l e i h = let z : ⊥ = omega arith in absurd z
  pairs-in named (g ∷ gs) (t ∷ ts) l e zero h = pair-in (member g named) g t (both (pair_by n m ks (member g named) g t) _ e).0
  pairs-in named (g ∷ gs) (t ∷ ts) l e (suc i) h =
      pairs-in (g ∷ named) gs ts (omega arith) (both (pair_by n m ks (member g named) g t) _ e).1 i (omega arith)

-- ## The turns of the loops

-- each signal's bit of the word says whether it is named
pub seen_next : (gs named : List ℕ) (i seen p : ℕ) → ((k : ℕ) → bit seen k ≡ member k named) → p ≡ 2 ^ get_or gs i 0
    → (k : ℕ) → bit (bit_or seen p) k ≡ member k (get_or gs i 0 ∷ named)
seen_next gs named i seen p so_far q k =
    bit-or seen p k ∙ ap₂ (λ (x y : Bool). x || y) (so_far k) (ap (λ (x : ℕ). bit x k) q ∙ bit-power (get_or gs i 0) k)
    ∙ or_comm (member k named) (eqb (get_or gs i 0) k)

-- the pair at i, and those behind it
pub pairs-at : (gs ts : List ℕ) (i : ℕ) → i < length gs → i < length ts
    → pairs (drop i gs) (drop i ts) ≡ record { signal = get_or gs i 0; table = get_or ts i 0 } ∷ pairs (drop (i + 1) gs) (drop (i + 1) ts)
pairs-at gs ts i h l = rw (add-one, drop-cons gs i 0 h, drop-cons ts i 0 l)

module _ (n m : ℕ) (ks gs ts : List ℕ) where
  -- what is left from pair i on, those before it naming these gates, gives the whole answer, and where it stops
  abbrev pub Left : List ℕ → ℕ → Type 0
  Left named i =
      (pairs_by n m ks named (pairs (drop i gs) (drop i ts)) ≡ pairs_by n m ks [] (pairs gs ts))
      × (i + refused_by n m ks named (pairs (drop i gs) (drop i ts)) ≡ refused_by n m ks [] (pairs gs ts))

  module _ (named : List ℕ) (i : ℕ) (h : i < length gs) (l : i < length ts) (left : Left named i) (a : Answer)
      (e : a ≡ pair_by n m ks (member (get_or gs i 0) named) (get_or gs i 0) (get_or ts i 0)) where
    abbrev rest : List Replacement
    rest = pairs (drop (i + 1) gs) (drop (i + 1) ts)

    -- where the pair at i is answered b
    abbrev From : Answer → Type 0
    From b =
        (or_else b (pairs_by n m ks (get_or gs i 0 ∷ named) rest) ≡ pairs_by n m ks [] (pairs gs ts))
        × (i + cond (is_done b) (suc (refused_by n m ks (get_or gs i 0 ∷ named) rest)) 0 ≡ refused_by n m ks [] (pairs gs ts))

    whole : (b : Answer) → a ≡ b → From b
    whole b d =
        subst From (sym e ∙ d)
        (sym (ap (pairs_by n m ks named) (pairs-at gs ts i h l)) ∙ left.0, ap (λ (rs : List Replacement). i + refused_by n m ks named rs) (sym (pairs-at gs ts i h l)) ∙ left.1)

    pub pair-next : a ≡ Done → Left (get_or gs i 0 ∷ named) (i + 1)
    pair-next d = ((whole Done d).0, omega (arith, (whole Done d).1))

pub stored-length : (n : ℕ) (rs : List Replacement) (ts : List ℕ) → length (stored_all n rs ts) ≡ length ts
stored-length n [] ts = refl
stored-length n (r ∷ rs) ts = stored-length n rs (set ts (r.signal - n) r.table) ∙ length-set ts (r.signal - n) r.table

module _ (n : ℕ) (gs ts all : List ℕ) (i : ℕ) where
  pub stored-end : length gs ≤ i → all ≡ stored_all n (pairs (drop i gs) (drop i ts)) all
  stored-end h = ap (λ (l : List ℕ). stored_all n (pairs l (drop i ts)) all) (sym (drop_of_length-le gs h))
