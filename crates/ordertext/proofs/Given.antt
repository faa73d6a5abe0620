-- What a caller has of an order that was read, pair by pair. Assumes nothing.
use mathlib.Core.Path.{◌≡◌, refl, sym, ap, ◌∙◌}
use mathlib.Core.List.{List, [], ◌∷◌}
use Prim.Native.Nat.{ℕ, ◌<◌, ◌≤◌}
use native.Mathlib.Omega.{arith}
use lib.ListN.{length, get_or}
use lib.Seq.{get_or-take}
use Rattle.bits.proofs.Ranges.{length-places, places-at, map-places}
use Rattle.text.specs.Words.{Text}
use Rattle.ordertext.specs.declared.Case.{Case}
use Rattle.ordertext.specs.declared.Case.TheVariants as case
use Rattle.ordertext.specs.declared.Order.{Order}
use Rattle.ordertext.specs.Order.{most_pairs, Pair, signal_of, ordered, order_of, pairs_of}
use Rattle.ordertext.specs.Reads.{pair_in, pairs_in, count_in, pairs_given, parsed_in, CaseFits, Reads}

ordered-pairs : (ps : List Pair) → pairs_of (ordered ps) ≡ ps
ordered-pairs [] = refl
ordered-pairs (p ∷ ps) = refl

module _ (text : Text) (o : Order) (r : Reads text o) where
  abbrev n : ℕ
  n = count_in o.case

  -- the arrays have a place for each pair
  pub given-few : n ≤ most_pairs
  given-few = go o.case r.fits
    where
      go : (c : Case) → CaseFits text c → count_in c ≤ most_pairs
      go (case.Pairs k) f = f.1
      go (case.NoPair a e) f = omega arith
      go case.Blank f = omega arith

  -- they are those of the text
  pub given-pairs : pairs_given text o ≡ pairs_of (order_of text)
  given-pairs = go o.case r.parsed
    where
      go : (c : Case) → parsed_in text o c ≡ order_of text → pairs_in text o (count_in c) ≡ pairs_of (order_of text)
      go (case.Pairs k) e = sym (ordered-pairs (pairs_in text o k)) ∙ ap pairs_of e
      go (case.NoPair a b) e = ap pairs_of e
      go case.Blank e = ap pairs_of e

  pub given-length : length (pairs_given text o) ≡ n
  given-length = length-places n (pair_in text o)

  pub given-at : (other : Pair) (i : ℕ) → i < n → get_or (pairs_given text o) i other ≡ pair_in text o i
  given-at other i h = places-at other n (pair_in text o) i h

  pub given-signal : (i : ℕ) → i < n → get_or o.gates i 0 ≡ signal_of (pair_in text o i)
  given-signal i h =
      sym (get_or-take n o.gates i 0 h) ∙ ap (λ (l : List ℕ). get_or l i 0) (r.signals ∙ map-places signal_of n (pair_in text o)) ∙ places-at 0 n (λ j. signal_of (pair_in text o j)) i h
