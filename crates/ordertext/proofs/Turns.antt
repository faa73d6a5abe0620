-- One turn of the loop over the words: what the arrays hold, and what is left. Assumes nothing.
use mathlib.Core.Path.{◌≡◌, refl, sym, ap, ◌∙◌}
use mathlib.Core.Bool.{Bool, true, false, cond, false≢true}
use mathlib.Core.List.{List, [], ◌∷◌, ◌++◌, map}
use Prim.Native.Nat.{ℕ, ◌+◌, ◌-◌, ◌*◌, ◌≤◌, ◌<◌}
use native.Mathlib.Numerals.{add-one}
use native.Mathlib.Omega.{arith}
use native.Mathlib.Nat.{sub-zero}
use lib.ListN.{length, get_or, take, drop, set, length-set, length-drop, drop_of_length-le}
use lib.Seq.{length-take-le, take-take, get_or-set_same, get_or-set_other, take-suc-set}
use borrow.Author.Rules.{part_to_end}
use Rattle.bits.proofs.Ranges.{places-ext, map_snoc, lt-cases}
use Rattle.text.specs.Words.{Text, before, words}
use Rattle.text.proofs.Places.{begin, Word, word}
use Rattle.ordertext.specs.declared.Case.{Case}
use Rattle.ordertext.specs.declared.Case.TheVariants as case
use Rattle.ordertext.specs.declared.Order.{Order}
use Rattle.ordertext.specs.declared.Split.{Split}
use Rattle.ordertext.specs.Order.{most_order_bytes, most_pairs, Pair, NoPair, is_gap, gap_is, name_length, numeral, table_text, is_pair, pair_of, signal_named, signal_of, ordered, parse, order_of}
use Rattle.ordertext.specs.Reads.{part, split_of, pair_at, pairs_at, Inside, Reads}
use Rattle.ordertext.proofs.Numerals.{numeral-e, pair-e}

-- ## A pair in its word

module _ (text : Text) (a e : ℕ) (h : a ≤ e) (k : e ≤ length text) where
  pub part_length : length (part text a e) ≡ e - a
  part_length = let l = length-drop a text in length-take-le (e - a) (drop a text) (omega arith)

  -- the front of a part
  pub part-front : (n : ℕ) → n ≤ e - a → part text a (a + n) ≡ take n (part text a e)
  part-front n l =
      let q : a + n - a ≡ n = omega arith in
      ap (λ (m : ℕ). take m (drop a text)) q ∙ sym (take-take n (e - a) (drop a text) l)

-- a pair has at least three bytes: a name, = and a digit
pub pair-long : (w : Text) → is_pair w ≡ true → name_length w + 2 ≤ length w
pair-long w h =
    let p = pair-e w h in
    let n = (numeral-e 16 16 (table_text w) p.1).0 in
    let l = length-drop (name_length w + 1) w in
    omega arith

-- a pair by its numbers
pub split-is : (w : Text) (e v t : ℕ) → e ≡ name_length w → v ≡ signal_named (take (e - 0) (drop 0 w)) → t ≡ numeral 16 (take (length w - (e + 1)) (drop (e + 1) w))
    → ◌≡◌ {A = Split} (record { signal = v; table = t; size = e }) (split_of w)
unfolding split_of pair_of
split-is w e v t he hv ht =
    let a : take (e - 0) w ≡ take (name_length w) w = ap (λ (k : ℕ). take k w) (sub-zero e ∙ he) in
    let b : take (length w - (e + 1)) (drop (e + 1) w) ≡ table_text w = part_to_end w (e + 1) ∙ ap (λ (k : ℕ). drop (k + 1) w) he in
    rw (hv ∙ ap signal_named a, ht ∙ ap (numeral 16) b, he)

-- ## The arrays, one place further

module _ (text tables starts ends : List ℕ) (n t a e : ℕ) (ht : n < length tables) (hs : n < length starts) (he : n < length ends) where
  kept : (l : List ℕ) (v i : ℕ) → i < n → get_or (set l n v) i 0 ≡ get_or l i 0
  kept l v i h = get_or-set_other l n i v 0 (λ q. let z : i ≡ n = q in let y : ⊥ = omega arith in y)

  pub pairs-more : pairs_at text (set tables n t) (set starts n a) (set ends n e) (n + 1) ≡ pairs_at text tables starts ends n ++ record { gate = part text a e; table = t } ∷ []
  pairs-more =
      let same = places-ext n (pair_at text (set tables n t) (set starts n a) (set ends n e)) (pair_at text tables starts ends) (λ i h. rw (kept tables t i h, kept starts a i h, kept ends e i h)) in
      rw (add-one, same, get_or-set_same tables n t 0 ht, get_or-set_same starts n a 0 hs, get_or-set_same ends n e 0 he)

  pub inside-more : Inside text starts ends n → a ≤ e → e ≤ length text → Inside text (set starts n a) (set ends n e) (n + 1)
  inside-more o h k = record {
    forward = λ i l.
        lt-cases i n (omega arith)
        (λ m. rw (kept starts a i m, kept ends e i m) (o.forward i m))
        (λ q. rw (q, get_or-set_same starts n a 0 hs, get_or-set_same ends n e 0 he) h);
    within = λ i l.
        lt-cases i n (omega arith)
        (λ m. rw (kept ends e i m) (o.within i m))
        (λ q. rw (q, get_or-set_same ends n e 0 he) k);
  }

-- numbers that the first n pairs are mapped to, one more
pub column-more : (f : Pair → ℕ) (l : List ℕ) (n v : ℕ) (ps : List Pair) (p : Pair) → n < length l → take n l ≡ map f ps → v ≡ f p → take (n + 1) (set l n v) ≡ map f (ps ++ p ∷ [])
column-more f l n v ps p h e q = rw (add-one, take-suc-set l n v h, e, q) (sym (map_snoc f ps p))

-- ## The loop

-- between two words stands a gap
pub gap-between : (text : Text) (end next : ℕ) → next < length text → (end < length text → is_gap (get_or text end 0) ≡ true)
    → (next < length text → is_gap (get_or text next 0) ≡ false) → end ≤ next → end < next
gap-between text end next h stops filled o =
    lt-cases end next (omega arith) (λ l. l)
    (λ q. absurd (false≢true (sym (filled h) ∙ ap (λ (i : ℕ). is_gap (get_or text i 0)) (sym q) ∙ stops (omega arith))))

-- the arrays' lengths
pub record Sized (gates tables starts ends : List ℕ) : Type 0 where
  pub gates-long : length gates ≡ most_pairs
  pub tables-long : length tables ≡ most_pairs
  pub starts-long : length starts ≡ most_pairs
  pub ends-long : length ends ≡ most_pairs

-- n pairs are in the arrays; the words that are left begin at `at`
pub record Reading (text gates tables starts ends : List ℕ) (n at : ℕ) : Type 0 where
  pub sized : Sized gates tables starts ends
  pub rest : parse (pairs_at text tables starts ends n) (words is_gap (drop at text)) ≡ order_of text
  pub signals : take n gates ≡ map signal_of (pairs_at text tables starts ends n)
  pub numbers : take n tables ≡ map (λ p. p.table) (pairs_at text tables starts ends n)
  pub inside : Inside text starts ends n
  pub below : at ≤ length text
  pub filled : at < length text → is_gap (get_or text at 0) ≡ false
  -- each pair took 4 bytes with the gap behind it
  pub few : at < length text → 4 * n ≤ at
  pub most : 4 * n ≤ at + 1

inside-none : (text starts ends : List ℕ) → Inside text starts ends 0
inside-none text starts ends = record { forward = λ i l. let z : ⊥ = omega arith in absurd z; within = λ i l. let z : ⊥ = omega arith in absurd z }

-- before the first word
pub start : (text gates tables starts ends : List ℕ) (at : ℕ) → Sized gates tables starts ends → at ≡ 0 + length (before (gap_is false) (drop 0 text)) → at ≤ length text → Reading text gates tables starts ends 0 at
unfolding order_of
start text gates tables starts ends at z e k =
    let b = begin is_gap text 0 at e k in
    record {
      sized = z;
      rest = ap (parse []) b.same;
      signals = refl;
      numbers = refl;
      inside = inside-none text starts ends;
      below = k;
      filled = b.filled;
      few = λ l. omega arith;
      most = omega arith;
    }

module _ {text gates tables starts ends : List ℕ} {n at : ℕ} (r : Reading text gates tables starts ends n at) where
  -- no word is left
  pub all_read : length text ≤ at → ordered (pairs_at text tables starts ends n) ≡ order_of text
  unfolding words
  all_read h = ap (λ (l : Text). parse (pairs_at text tables starts ends n) (words is_gap l)) (sym (drop_of_length-le text {i = at} h)) ∙ r.rest

  module _ (end : ℕ) (l : at < length text) (e : end ≡ at + length (before (gap_is true) (drop at text))) (k : end ≤ length text) where
    pub found_word : Word is_gap text at end
    found_word = word is_gap text at end l (r.filled l) e k

    parsed-word : (t : Bool) → is_pair (part text at end) ≡ t
        → cond t (parse (pairs_at text tables starts ends n ++ pair_of (part text at end) ∷ []) (words is_gap (drop end text))) (NoPair (part text at end)) ≡ order_of text
    parsed-word t h =
        ap (λ (c : Bool). cond c (parse (pairs_at text tables starts ends n ++ pair_of (part text at end) ∷ []) (words is_gap (drop end text))) (NoPair (part text at end))) (sym h)
        ∙ ap (parse (pairs_at text tables starts ends n)) (sym found_word.first)
        ∙ r.rest

    -- the word is no pair
    pub no-pair : is_pair (part text at end) ≡ false → NoPair (part text at end) ≡ order_of text
    no-pair h = parsed-word false h

    -- the word is a pair: it has a name that ends inside the word, = and a digit
    pub pair_inside : is_pair (part text at end) ≡ true → at + name_length (part text at end) + 2 ≤ end
    pair_inside h =
        let w = found_word.longer in
        let p = pair-long (part text at end) h in
        let q = part_length text at end (omega arith) k in
        omega arith

    -- it goes into the arrays
    pub turn : is_pair (part text at end) ≡ true
        → n < most_pairs
        → (v t m : ℕ) → v ≡ signal_of (pair_of (part text at end)) → t ≡ (pair_of (part text at end)).table → m ≡ name_length (part text at end)
        → (next : ℕ) → next ≡ end + length (before (gap_is false) (drop end text)) → next ≤ length text
        → Reading text (set gates n v) (set tables n t) (set starts n at) (set ends n (at + m)) (n + 1) next
    unfolding pair_of
    turn h room v t m ev et em next f j =
        let w = part text at end in
        let z = r.sized in
        let hg : n < length gates = omega arith in
        let ht : n < length tables = omega arith in
        let hs : n < length starts = omega arith in
        let he : n < length ends = omega arith in
        let x = found_word in
        let far = x.longer in
        let long = pair_inside h in
        let name = (pair-e w h).0 in
        let b = begin is_gap text end next f j in
        let on = b.onward in
        let ps = pairs_at text tables starts ends n in
        let gate : part text at (at + m) ≡ take (name_length w) w = ap (λ (i : ℕ). part text at (at + i)) em ∙ part-front text at end (omega arith) k (name_length w) (omega arith) in
        let one : ◌≡◌ {A = Pair} (record { gate = part text at (at + m); table = t }) (pair_of w) = rw (gate, et) in
        let more : pairs_at text (set tables n t) (set starts n at) (set ends n (at + m)) (n + 1) ≡ ps ++ pair_of w ∷ [] =
        pairs-more text tables starts ends n t at (at + m) ht hs he ∙ ap (λ (p : Pair). ps ++ p ∷ []) one
        in
        record {
          sized = record {
            gates-long = length-set gates n v ∙ z.gates-long;
            tables-long = length-set tables n t ∙ z.tables-long;
            starts-long = length-set starts n at ∙ z.starts-long;
            ends-long = length-set ends n (at + m) ∙ z.ends-long;
          };
          rest = ap (λ (l : List Pair). parse l (words is_gap (drop next text))) more ∙ ap (parse (ps ++ pair_of w ∷ [])) b.same ∙ parsed-word true h;
          signals = column-more signal_of gates n v ps (pair_of w) hg r.signals ev ∙ ap (map signal_of) (sym more);
          numbers = column-more (λ p. p.table) tables n t ps (pair_of w) ht r.numbers et ∙ ap (map (λ (p : Pair). p.table)) (sym more);
          inside = inside-more text tables starts ends n t at (at + m) ht hs he r.inside (omega arith) (omega arith);
          below = j;
          filled = b.filled;
          few = λ q. let g = gap-between text end next q x.stops b.filled on in let c = r.few l in omega arith;
          most = let c = r.few l in omega arith;
        }

-- ## What is handed back

abbrev handed : Case → List ℕ → List ℕ → List ℕ → List ℕ → Order
handed c gates tables starts ends = record { case = c; gates = gates; tables = tables; starts = starts; ends = ends }

pub reads-no-pair : (text gates tables starts ends : List ℕ) (a e : ℕ) → NoPair (part text a e) ≡ order_of text → a ≤ e → e ≤ length text
    → Reads text (handed (case.NoPair a e) gates tables starts ends)
reads-no-pair text gates tables starts ends a e h l k = record { parsed = h; signals = refl; tables = refl; inside = inside-none text starts ends; fits = (l, k) }

module _ {text gates tables starts ends : List ℕ} {n at : ℕ} (r : Reading text gates tables starts ends n at) (h : length text ≤ at) where
  pub reads-blank : n ≡ 0 → Reads text (handed case.Blank gates tables starts ends)
  reads-blank z = record {
    parsed = ap (λ (k : ℕ). ordered (pairs_at text tables starts ends k)) (sym z) ∙ all_read r h;
    signals = refl;
    tables = refl;
    inside = inside-none text starts ends;
    fits = tt;
  }

  pub reads-pairs : 1 ≤ n → length text ≤ most_order_bytes → Reads text (handed (case.Pairs n) gates tables starts ends)
  reads-pairs p k =
      let b = r.below in
      let m = r.most in
      record { parsed = all_read r h; signals = r.signals; tables = r.numbers; inside = r.inside; fits = (p, omega arith) }
