-- From the words to the sets of 01: rule 5. Assumes nothing.
use mathlib.Core.Path.{◌≡◌, sym, ap, ap₂, ◌∙◌}
use mathlib.Core.Bool.{Bool, false, ◌&&◌}
use mathlib.Core.List.{List, [], ◌∷◌}
use Prim.Native.Nat.{ℕ, suc, ◌+◌, ◌*◌, ◌/◌, ◌%◌, ◌<◌}
use native.Mathlib.Omega.{arith}
use native.Mathlib.Decide.{ℕ_discrete, dec_lt}
use lib.Dec.{eqb, leb}
use lib.Bits.{bit_and}
use lib.ListN.{length, get_or, set}
use lib.Seq.{get_or-set_same, get_or-set_other, get_or-take}
use borrow.Author.Tests.{le-leb, lt-leb}
use Rattle.bits.specs.Bounds.{row_words, gate_places}
use Rattle.bits.specs.Range.{◌⇒◌, every, places}
use Rattle.bits.specs.Bit.{bit, column}
use Rattle.bits.specs.Cut.{Framed}
use Rattle.bits.proofs.BitLaws.{bit-zero}
use Rattle.bits.proofs.Ranges.{every-ext, places-at, column-at, length-places}
use Rattle.network.specs.Net.{Gate, Net, arity, no_gate, entry, values, excluded, excluded_for}
use Rattle.network.specs.Compatible.{edge_set, at_outputs, compatible_from, compatible}
use Rattle.network.specs.Flat.{gate_at, gates_of, net_of, word_of}
use Rattle.network.specs.Valid.{NetOk}
use Rattle.network.proofs.FlatGates.{entry-ext, length-gates}
use Rattle.network.proofs.Earlier.{gates-at}
use Rattle.simulate.specs.Simulated.{Simulated, words_at}
use Rattle.compatible.specs.Words.{outputs_leave, SetRows}
use Rattle.compatible.proofs.Stores.{word-is}

-- rule 5 looks at the values through the entries of the gates alone
from-ext : (d : Gate) (f h : ℕ → Bool) (us vs : List Bool) (gs : List Gate) (j s : ℕ) → ((i : ℕ) → f i ≡ h i)
    → ((i : ℕ) → i < length gs → entry us (get_or gs i d) ≡ entry vs (get_or gs i d)) → compatible_from f us j gs s ≡ compatible_from h vs j gs s
unfolding compatible_from
from-ext d f h us vs [] j s same es = same s
from-ext d f h us vs (g ∷ gs) j s same es =
    let rest : (i : ℕ) → compatible_from f us (suc j) gs i ≡ compatible_from h vs (suc j) gs i = λ i. from-ext d f h us vs gs (suc j) i same (λ k l. es (suc k) (omega arith)) in
    ap₂ (λ (x y : Bool). x && y) (rest s)
    (every-ext (arity g) (λ r. eqb (get_or g.fanins r 0) s ⇒ edge_set g (compatible_from f us (suc j) gs j) (entry us g) r) (λ r. eqb (get_or g.fanins r 0) s ⇒ edge_set g (compatible_from h vs (suc j) gs j) (entry vs g) r)
    (λ r l. ap₂ (λ (x : Bool) (y : ℕ). eqb (get_or g.fanins r 0) s ⇒ edge_set g x y r) (rest j) (es 0 (omega arith))))

pub zero-first : (s : ℕ) (x q : Bool) → x ≡ q → x ≡ (leb 0 s && q)
zero-first s x q e = rw (le-leb 0 s (omega arith)) e

-- one input's word put to zero
pub zero-step : (hs : List ℕ) (i b s : ℕ) (q : Bool) → i < length hs → bit (get_or hs s 0) b ≡ (leb i s && q) → bit (get_or (set hs i 0) s 0) b ≡ (leb (i + 1) s && q)
zero-step hs i b s q h ih = go (ℕ_discrete s i) (dec_lt s i)
  where
    go : Dec (s ≡ i) → Dec (s < i) → bit (get_or (set hs i 0) s 0) b ≡ (leb (i + 1) s && q)
    go (yes e) _ = rw (e, get_or-set_same hs i 0 0 h, bit-zero b, lt-leb (i + 1) i (omega arith))
    go (no m) (yes l) = rw (get_or-set_other hs i s 0 0 m, lt-leb (i + 1) s (omega arith)) (ih ∙ ap (λ (x : Bool). x && q) (lt-leb i s l))
    go (no m) (no k) =
        let l : i < s = omega (arith, m) in
        rw (get_or-set_other hs i s 0 0 m, le-leb (i + 1) s (omega arith)) (ih ∙ ap (λ (x : Bool). x && q) (le-leb i s (omega arith)))

module _ (ks fs ts ex outs : List ℕ) (n m p : ℕ) where
  abbrev pub N : Net
  N = net_of ks fs ts n m ex outs p

  module _ (ok : NetOk ks fs n m) where
    module _ (ws : List ℕ) (w : ℕ) (sim : Simulated ks fs ts ws n m w) (b : ℕ) (hb : b < 64) where
      abbrev x : ℕ
      x = w * 64 + b

      pub value-at : (s : ℕ) → s < n + m → get_or (values N x) s false ≡ bit (get_or ws s 0) b
      unfolding values net_of
      value-at s h =
          ap (λ (l : List Bool). get_or l s false) (sym (sim.each b hb)) ∙ get_or-take (n + m) (column ws b) s false h ∙ column-at ws b s

      -- the entries that the words pick are those of the values
      same-entry : (g : ℕ) → g < m → entry (column ws b) (gate_at ks fs ts g) ≡ entry (values N x) (gate_at ks fs ts g)
      same-entry g h =
          entry-ext ks fs ts (column ws b) (values N x) g
          (λ r l. column-at ws b (get_or fs (gate_places * g + r) 0) ∙ sym (value-at (get_or fs (gate_places * g + r) 0) (omega (arith, (ok.gate g h).early r l))))

      -- what the outputs leave, by the word of excluded patterns
      start_is : (s : ℕ) → outputs_leave outs p (bit (get_or ex w 0) b) s ≡ at_outputs N x s
      unfolding outputs_leave at_outputs excluded_for excluded net_of
      start_is s =
          let q : x / 64 ≡ w = omega arith in
          let r : x % 64 ≡ b = omega arith in
          every-ext p (λ i. eqb (get_or outs i 0) s ⇒ bit (get_or ex w 0) b) (λ i. eqb (get_or (places p (λ i. get_or outs i 0)) i 0) s ⇒ bit (get_or ex (x / 64) 0) (x % 64))
          (λ i l. ap₂ (λ (o : ℕ) (e : Bool). eqb o s ⇒ e) (sym (places-at 0 p (λ i. get_or outs i 0) i l)) (ap₂ (λ (i j : ℕ). bit (get_or ex i 0) j) (sym q) (sym r)))
          ∙ ap (λ (k : ℕ). every k (λ i. eqb (get_or (places p (λ i. get_or outs i 0)) i 0) s ⇒ bit (get_or ex (x / 64) 0) (x % 64))) (sym (length-places p (λ i. get_or outs i 0)))

      pub compatible-is : (s : ℕ) → (leb n s && compatible_from (outputs_leave outs p (bit (get_or ex w 0) b)) (column ws b) n (gates_of ks fs ts m) s) ≡ compatible N s x
      unfolding compatible net_of
      compatible-is s =
          ap (λ (q : Bool). leb n s && q)
          (from-ext no_gate (outputs_leave outs p (bit (get_or ex w 0) b)) (at_outputs N x) (column ws b) (values N x) (gates_of ks fs ts m) n s start_is
          (λ i h. let l : i < m = omega (arith, length-gates ks fs ts m) in rw (gates-at ks fs ts m i l) (same-entry i l)))

    -- ## H of each gate in all words

    pub set_words : (hs : List ℕ) {count live : ℕ} → Framed n count live → SetRows N hs (n + m) count
        → (l : List ℕ) → ((g w : ℕ) → g < m → w < count → get_or l (row_words * g + w) 0 ≡ bit_and live (get_or (words_at hs w) (n + g) 0))
        → (g w : ℕ) → g < m → w < count → get_or l (row_words * g + w) 0 ≡ word_of n (compatible N (n + g)) w
    set_words hs f found l words g w hg hw =
        words g w hg hw
        ∙ word-is f w (get_or (words_at hs w) (n + g) 0) (compatible N (n + g)) hw (λ b hb. found w hw b hb (n + g) (omega arith))
