-- What the words of two networks tell of their outputs. Assumes nothing.
use mathlib.Core.Path.{◌≡◌, refl, sym, ap, ap₂, ◌∙◌}
use mathlib.Core.Bool.{Bool, true, false, not, ◌&&◌, ◌||◌, beq}
use mathlib.Core.List.{List, [], ◌∷◌}
use Prim.Native.Nat.{ℕ, zero, suc, ◌+◌, ◌-◌, ◌*◌, ◌/◌, ◌%◌, ◌^◌, ◌≤◌, ◌<◌}
use native.Mathlib.Nat.{div-add-mod'}
use native.Mathlib.Numerals.{add-one}
use native.Mathlib.Omega.{arith}
use lib.Dec.{eqb, ltb}
use lib.Bits.{bit_and, bit_or}
use lib.ListN.{get_or}
use lib.Seq.{get_or-take}
use Rattle.std.specs.Prelude.{All}
use Rattle.bits.specs.Bounds.{most_inputs, row_words}
use Rattle.bits.specs.Range.{any, count}
use Rattle.bits.specs.Bit.{bit, column, differs}
use Rattle.bits.specs.Cut.{Framed}
use Rattle.bits.proofs.BitLaws.{bit-and, bit-or, bit-xor, bit-zero}
use Rattle.bits.proofs.Logic.{clash, and-not}
use Rattle.bits.proofs.Cuts.{live_at}
use Rattle.bits.proofs.Ranges.{any-i, length-places, places-at, column-at}
use Rattle.network.specs.Answer.{Done}
use Rattle.network.specs.declared.Session.{Session}
use Rattle.network.specs.Bounds.{most_signals}
use Rattle.network.specs.Net.{Net, values, output, excluded, excluded_for, by_weight, pattern_order}
use Rattle.network.specs.Flat.{net_of, net_with, loaded_net}
use Rattle.network.specs.Valid.{NetOk, OutputsOk}
use Rattle.network.specs.State.{state_fault}
use Rattle.network.specs.DontCares.{harms}
use Rattle.network.specs.Calls.{first_harm, harm_test}
use Rattle.network.proofs.Valid.{net-ok, outputs-ok}
use Rattle.simulate.specs.Simulated.{Simulated, words_at, Rows}
use Rattle.verdict.specs.Changed.{changed_word, changed_at, word_harm, judged_at, harmed_at, Harmed, of_weight, at_weight, lightest_harm, rows_harm}
use Rattle.verdict.proofs.Turns.{search-ext, search-none, below}
use Rattle.verdict.proofs.ByWeight.{light-ext, light-none, light-order, order-ext}

-- ## One word

-- one output more
pub changes-step : (f : ℕ → ℕ) (acc v i : ℕ) → ((b : ℕ) → bit acc b ≡ any i (λ i. bit (f i) b)) → v ≡ f i
    → (b : ℕ) → bit (bit_or acc v) b ≡ any (i + 1) (λ i. bit (f i) b)
changes-step f acc v i so_far e b = rw add-one (bit-or acc v b ∙ ap₂ (λ (x y : Bool). x || y) (so_far b) (ap (λ (u : ℕ). bit u b) e))

back : (base e : ℕ) → base + e - base ≡ e
back base e = omega arith

-- a word that keeps nothing
pub no-keep : (outs xs ys : List ℕ) (p keep w : ℕ) → keep ≡ 0 → Done ≡ word_harm (changed_at outs xs ys keep w) p w
unfolding word_harm changed_at
no-keep outs xs ys p keep w e = sym (search-none (changed_at outs xs ys keep w) p (w * 64) 64 (λ b l i m. rw (e, bit-and, bit-zero)))

pub no-held : (outs xs ys : List ℕ) (p held c w : ℕ) → held ≡ 0 → Done ≡ word_harm (at_weight c (changed_at outs xs ys held w)) p w
unfolding word_harm changed_at
no-held outs xs ys p held c w e =
    sym (search-none (at_weight c (changed_at outs xs ys held w)) p (w * 64) 64 (λ b l i m.
    and-not (of_weight c (w * 64 + b)) (changed_at outs xs ys held w (w * 64 + b) i) (λ o t. clash t (rw (e, bit-and, bit-zero)))))

-- where v has the places of that weight
pub word-weight : (outs xs ys : List ℕ) (p held c w v : ℕ) → w < row_words
    → ((n b : ℕ) → b < 64 → w * 64 + b < 2 ^ n → bit v b ≡ eqb (count n (bit (w * 64 + b))) c)
    → word_harm (changed_at outs xs ys (bit_and held v) w) p w ≡ word_harm (at_weight c (changed_at outs xs ys held w)) p w
unfolding word_harm changed_at of_weight
word-weight outs xs ys p held c w v hw told =
    search-ext (changed_at outs xs ys (bit_and held v) w) (at_weight c (changed_at outs xs ys held w)) p (w * 64) 64 (λ b l i h.
    rw (back (w * 64) b, bit-and (bit_and held v) (changed_word outs xs ys i) b, bit-and held v b, bit-and held (changed_word outs xs ys i) b, told most_inputs b l (omega arith))
    (and_front (bit held b) (eqb (count most_inputs (bit (w * 64 + b))) c) (bit (changed_word outs xs ys i) b)))
  where
    and_front : (a b d : Bool) → (a && b) && d ≡ b && (a && d)
    and_front true b d = refl
    and_front false true d = refl
    and_front false false d = refl

-- word w of the words harmed
pub word-harmed : (harmed outs xs ys : List ℕ) (p c w : ℕ)
    → word_harm (at_weight c (changed_at outs (words_at xs w) (words_at ys w) (get_or harmed w 0) w)) p w ≡ word_harm (at_weight c (harmed_at harmed outs xs ys)) p w
unfolding word_harm changed_at harmed_at
word-harmed harmed outs xs ys p c w =
    search-ext (at_weight c (changed_at outs (words_at xs w) (words_at ys w) (get_or harmed w 0) w)) (at_weight c (harmed_at harmed outs xs ys)) p (w * 64) 64 (λ b l i h.
    let word : (w * 64 + b) / 64 ≡ w = omega arith in
    let place : (w * 64 + b) % 64 ≡ b = omega arith in
    ap (λ (u : Bool). of_weight c (w * 64 + b) && u) (rw (back (w * 64) b, word, place) (bit-and (get_or harmed w 0) (changed_word outs (words_at xs w) (words_at ys w) i) b)))

-- ## All words

-- a word of the harmed patterns, where inv has those that are not excluded and d the changes
pub harmed-word : (p live inv ex d : ℕ) (f : ℕ → ℕ) → ((b : ℕ) → b < 64 → bit inv b ≡ not (bit ex b)) → ((b : ℕ) → bit d b ≡ any p (λ i. bit (f i) b))
    → (b : ℕ) → b < 64 → bit (bit_and (bit_and live inv) d) b ≡ (bit live b && not (bit ex b)) && any p (λ i. bit (f i) b)
harmed-word p live inv ex d f inv_at told b l = rw (bit-and, bit-and, inv_at b l, told b)

zero_at : (ws : List ℕ) (w : ℕ) → All (λ v. v ≡ 0) ws → get_or ws w 0 ≡ 0
zero_at [] w h = refl
zero_at (v ∷ ws) zero h = h 0 0 (omega arith)
zero_at (v ∷ ws) (suc w) h = zero_at ws w (λ k d l. h (suc k) d (omega arith))

module _ (harmed outs xs ys : List ℕ) (p W : ℕ) where
  -- no word has a bit set
  none_harmed : All (λ w. w ≡ 0) harmed → (x i : ℕ) → harmed_at harmed outs xs ys x i ≡ false
  unfolding harmed_at
  none_harmed none x i = rw (zero_at harmed (x / 64) none, bit-zero)

  -- the words hold just the patterns that are judged and at which an output changes
  harmed_judged : (ex : List ℕ) {n live : ℕ} → Framed n W live → Harmed p ex outs xs ys live W harmed
      → (x : ℕ) → x < W * 64 → (i : ℕ) → i < p → harmed_at harmed outs xs ys x i ≡ below (2 ^ n) (judged_at ex outs xs ys) x i
  unfolding harmed_at judged_at
  harmed_judged ex {n} {live} framed told x l i h =
      let w = x / 64 in
      let b = x % 64 in
      let f : ℕ → Bool = λ i. bit (changed_word outs (words_at xs w) (words_at ys w) i) b in
      ap (λ (u : Bool). u && f i) (told w b (omega arith) (omega arith))
      ∙ within (bit live b) (not (bit (get_or ex w 0) b)) (any p f) (f i) (any-i p f i h)
      ∙ ap (λ (u : Bool). u && (not (bit (get_or ex w 0) b) && f i)) (live_at framed w b (omega arith) (omega arith) ∙ ap (λ (y : ℕ). ltb y (2 ^ n)) (div-add-mod' x 64))
    where
      within : (a e y d : Bool) → (d ≡ true → y ≡ true) → ((a && e) && y) && d ≡ a && (e && d)
      within false e y d g = refl
      within true false y d g = refl
      within true true true d g = refl
      within true true false true g = g refl
      within true true false false g = refl

  -- so the search by weight over them is the search over the patterns
  module _ (ex : List ℕ) {n live : ℕ} (most : n ≤ most_inputs) (framed : Framed n W live) (told : Harmed p ex outs xs ys live W harmed) where
    pub rows-some : lightest_harm (harmed_at harmed outs xs ys) p W (suc n) ≡ rows_harm n p ex outs xs ys
    unfolding rows_harm
    rows-some =
        light-ext (harmed_at harmed outs xs ys) (below (2 ^ n) (judged_at ex outs xs ys)) p W (harmed_judged ex framed told) (suc n)
        ∙ light-order (judged_at ex outs xs ys) p most framed.cut (suc n)

    pub rows-none : All (λ w. w ≡ 0) harmed → Done ≡ rows_harm n p ex outs xs ys
    rows-none none = sym (light-none (harmed_at harmed outs xs ys) p W (λ x l i m. none_harmed none x i) (suc n)) ∙ rows-some

differs-beq : (a b : Bool) → differs a b ≡ not (beq a b)
differs-beq true true = refl
differs-beq true false = refl
differs-beq false true = refl
differs-beq false false = refl

module _ (ks fs ts : List ℕ) (n m : ℕ) (ex outs : List ℕ) (p : ℕ) where
  -- an output's word has its values
  output_word : (ws : List ℕ) (w b i : ℕ) → Simulated ks fs ts ws n m w → OutputsOk outs p (n + m) → b < 64 → i < p
      → bit (get_or ws (get_or outs i 0) 0) b ≡ output (net_of ks fs ts n m ex outs p) (w * 64 + b) i
  unfolding net_of values
  output_word ws w b i sim ok l h =
      sym (column-at ws b (get_or outs i 0)) ∙ sym (get_or-take (n + m) (column ws b) (get_or outs i 0) false (ok.each i h))
      ∙ ap₂ (λ (vs : List Bool) (s : ℕ). get_or vs s false) (sim.each b l) (sym (places-at 0 p (λ i. get_or outs i 0) i h))

pub outputs-fit : {ks fs outs : List ℕ} {n m p : ℕ} → NetOk ks fs n m → OutputsOk outs p (n + m) → OutputsOk outs p most_signals
outputs-fit net ok = record { most = ok.most; each = λ i h. omega (arith, net.ins, net.most, ok.each i h) }

module _ (ks fs ls ts : List ℕ) (n m : ℕ) (ex outs : List ℕ) (p : ℕ) where
  -- the loaded network, and the one that is judged
  abbrev L : Net
  L = net_of ks fs ls n m ex outs p

  abbrev M : Net
  M = net_of ks fs ts n m ex outs p

  -- the rows of both tell the harm
  rows_test : {W live : ℕ} → Framed n W live → (xs ys : List ℕ) → Rows ks fs ls xs n m W → Rows ks fs ts ys n m W → OutputsOk outs p (n + m)
      → rows_harm n p ex outs xs ys ≡ harm_test L M
  unfolding rows_harm harm_test pattern_order judged_at harms excluded_for excluded net_of
  rows_test framed xs ys sx sy ok =
      order-ext (judged_at ex outs xs ys) (harms L M) p n (λ x l i h.
      let w = x / 64 in
      let b = x % 64 in
      let hw = framed.cut.word x l in
      let at = div-add-mod' x 64 in
      ap (λ (d : Bool). not (bit (get_or ex w 0) b) && d)
      (bit-xor (get_or (words_at xs w) (get_or outs i 0) 0) (get_or (words_at ys w) (get_or outs i 0) 0) b
      ∙ ap₂ differs (output_word ks fs ls n m ex outs p (words_at xs w) w b i (sx w hw) ok (omega arith) h) (output_word ks fs ts n m ex outs p (words_at ys w) w b i (sy w hw) ok (omega arith) h)
      ∙ differs-beq (output L (w * 64 + b) i) (output M (w * 64 + b) i) ∙ ap (λ (y : ℕ). not (beq (output L y i) (output M y i))) at)) (suc n)
      ∙ ap (λ (q : ℕ). first_harm (harms L M) q (by_weight n (suc n))) (sym (length-places p (λ i. get_or outs i 0)))

-- ## A session's networks, by its counts

module _ (s : Session) (n m p : ℕ) (en : n ≡ s.n) (em : m ≡ s.m) (ep : p ≡ s.p) (h : state_fault s ≡ Done) where
  pub session-ok : NetOk s.arity s.fanins n m × OutputsOk s.outputs p (n + m)
  session-ok = rw (en, em, ep) (net-ok s h, outputs-ok s h)

  pub rows-session : (ts xs ys : List ℕ) {W live : ℕ} → Framed n W live → Rows s.arity s.fanins s.loaded xs n m W → Rows s.arity s.fanins ts ys n m W
      → rows_harm n p s.excluded s.outputs xs ys ≡ harm_test (loaded_net s) (net_with s ts)
  unfolding loaded_net
  rows-session ts xs ys framed sx sy =
      rows_test s.arity s.fanins s.loaded ts n m s.excluded s.outputs p framed xs ys sx sy session-ok.1
      ∙ rw (en, em, ep)
