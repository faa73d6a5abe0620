-- Where an output differs, and the ODC. Assumes nothing.
use mathlib.Core.Path.{◌≡◌, refl, sym, ap, ap₂, ◌∙◌}
use mathlib.Core.Bool.{Bool, true, false, not, ◌||◌, beq}
use mathlib.Core.List.{List, [], ◌∷◌, ◌++◌}
use Prim.Native.Nat.{ℕ, suc, ◌+◌, ◌*◌, ◌<◌}
use native.Mathlib.Decide.{ℕ_discrete, dec_lt}
use native.Mathlib.Omega.{arith}
use native.Mathlib.Numerals.{add-one}
use lib.Bits.{bit_or, bit_xor}
use lib.Dec.{eqb}
use lib.ListN.{length, get_or, take, length-append}
use lib.Seq.{ext_get_or, get_or-take, length-take-le, take-append-le}
use borrow.Author.Tests.{ne_eqb}
use Rattle.bits.specs.Bounds.{row_words}
use Rattle.bits.specs.Range.{places, every, any}
use Rattle.bits.specs.Bit.{bit, differs, column}
use Rattle.bits.proofs.BitLaws.{bit-or, bit-xor}
use Rattle.bits.proofs.Cuts.{every-not}
use Rattle.bits.proofs.Logic.{not-not}
use Rattle.bits.proofs.Ranges.{length-places, places-at, every-ext, column-at, column-length}
use Rattle.network.specs.Bounds.{most_signals}
use Rattle.network.specs.Net.{Gate, entry, run, values}
use Rattle.network.specs.DontCares.{run_inverted, values_inverted, odc}
use Rattle.network.specs.Flat.{gates_of, net_of}
use Rattle.network.proofs.Earlier.{run-keep}
use Rattle.observability.specs.Odc.{Taken}
use Rattle.simulate.specs.Simulated.{words_at, value_at}
use Rattle.simulate.proofs.RowLaws.{words-at, words_long}

module _ (outs rows other : List ℕ) (w b : ℕ) where
  -- output i differs
  abbrev pub differing : ℕ → Bool
  differing i = differs (value_at rows (get_or outs i 0) w b) (value_at other (get_or outs i 0) w b)

  -- one output more
  pub observed-step : (old v i s : ℕ) → s ≡ get_or outs i 0 → v ≡ bit_or old (bit_xor (get_or rows (row_words * s + w) 0) (get_or other (row_words * s + w) 0))
      → bit old b ≡ any i differing → bit v b ≡ any (i + 1) differing
  observed-step old v i s es ev ih =
      ap (λ (x : ℕ). bit x b) ev
      ∙ bit-or old (bit_xor (get_or rows (row_words * s + w) 0) (get_or other (row_words * s + w) 0)) b
      ∙ ap₂ (λ (x y : Bool). x || y) ih
      (bit-xor (get_or rows (row_words * s + w) 0) (get_or other (row_words * s + w) 0) b ∙ ap (λ (q : ℕ). differs (value_at rows q w b) (value_at other q w b)) es)
      ∙ rw add-one

  same : (x y : Bool) → not (differs x y) ≡ beq y x
  same true true = refl
  same true false = refl
  same false true = refl
  same false false = refl

  -- some output differs where the pattern is not in the ODC
  pub observed-odc : (ks fs ts ex : List ℕ) (n m p g : ℕ) → n + m < most_signals + 1 → ((i : ℕ) → i < p → get_or outs i 0 < n + m)
      → take (n + m) (column (words_at rows w) b) ≡ run (places n (bit (w * 64 + b))) (gates_of ks fs ts m)
      → take (n + m) (column (words_at other w) b) ≡ run_inverted (n + g) (places n (bit (w * 64 + b))) (gates_of ks fs ts m)
      → any p differing ≡ not (odc (net_of ks fs ts n m ex outs p) (n + g) (w * 64 + b))
  unfolding odc net_of values values_inverted
  observed-odc ks fs ts ex n m p g room ok sim alt =
      sym (not-not (any p differing))
      ∙ ap not
      (sym (every-not p differing)
      ∙ every-ext p (λ i. not (differing i)) (λ i. kept (get_or (places p (λ i. get_or outs i 0)) i 0))
      (λ i h. same (value_at rows (get_or outs i 0) w b) (value_at other (get_or outs i 0) w b)
      ∙ ap₂ beq (at other (get_or outs i 0) inverted (ok i h) alt) (at rows (get_or outs i 0) plain (ok i h) sim)
      ∙ ap kept (sym (places-at 0 p (λ i. get_or outs i 0) i h)))
      ∙ ap (λ (k : ℕ). every k (λ i. kept (get_or (places p (λ i. get_or outs i 0)) i 0))) (sym (length-places p (λ i. get_or outs i 0))))
    where
      plain : List Bool
      plain = run (places n (bit (w * 64 + b))) (gates_of ks fs ts m)

      inverted : List Bool
      inverted = run_inverted (n + g) (places n (bit (w * 64 + b))) (gates_of ks fs ts m)

      kept : ℕ → Bool
      kept s = beq (get_or inverted s false) (get_or plain s false)

      at : (l : List ℕ) (s : ℕ) (vs : List Bool) → s < n + m → take (n + m) (column (words_at l w) b) ≡ vs → value_at l s w b ≡ get_or vs s false
      at l s vs h e =
          ap (λ (x : ℕ). bit x b) (sym (words-at l w s (omega arith)))
          ∙ sym (column-at (words_at l w) b s) ∙ sym (get_or-take (n + m) (column (words_at l w) b) s false h) ∙ ap (λ (q : List Bool). get_or q s false) e

-- ## The rows taken back

longer : (vs : List Bool) (v : Bool) (i : ℕ) → i < length vs → get_or (vs ++ v ∷ []) i false ≡ get_or vs i false
longer vs v i h =
    sym (get_or-take (suc i) (vs ++ v ∷ []) i false (omega arith))
    ∙ ap (λ (l : List Bool). get_or l i false) (take-append-le (suc i) vs (v ∷ []) (omega arith))
    ∙ get_or-take (suc i) vs i false (omega arith)

-- the values that are there stay
inverted-keeps : (s : ℕ) (gs : List Gate) (vs : List Bool) (i : ℕ) → i < length vs → get_or (run_inverted s vs gs) i false ≡ get_or vs i false
inverted-keeps s [] vs i h = refl
inverted-keeps s (g ∷ gs) vs i h =
    let v = differs (eqb (length vs) s) (bit g.table (entry vs g)) in
    inverted-keeps s gs (vs ++ v ∷ []) i (omega (arith, length-append vs (v ∷ []))) ∙ longer vs v i h

-- the signals before the inverted one have their values
before-inverted : (s : ℕ) (gs : List Gate) (vs : List Bool) (i : ℕ) → i < s → get_or (run_inverted s vs gs) i false ≡ get_or (run vs gs) i false
before-inverted s [] vs i h = refl
before-inverted s (g ∷ gs) vs i h = go (ℕ_discrete (length vs) s) (before-inverted s gs (vs ++ bit g.table (entry vs g) ∷ []) i h)
  where
    v : Bool
    v = bit g.table (entry vs g)

    go : Dec (length vs ≡ s) → get_or (run_inverted s (vs ++ v ∷ []) gs) i false ≡ get_or (run (vs ++ v ∷ []) gs) i false
        → get_or (run_inverted s vs (g ∷ gs)) i false ≡ get_or (run vs (g ∷ gs)) i false
    go (yes e) next = inverted-keeps s (g ∷ gs) vs i (omega arith) ∙ sym (run-keep (g ∷ gs) vs i (omega arith))
    go (no n) next = ap (λ (c : Bool). get_or (run_inverted s (vs ++ differs c v ∷ []) gs) i false) (ne_eqb (length vs) s n) ∙ next

-- once they are taken back from the inverted gate on, the words are those of the values
module _ (rows other new : List ℕ) (s e w b : ℕ) (room : e < most_signals + 1) (hw : w < row_words) (c : Taken rows other new (row_words * s) (row_words * e)) where
  pub taken_back : (vs : List Bool) (gs : List Gate)
      → take e (column (words_at rows w) b) ≡ run vs gs → take e (column (words_at other w) b) ≡ run_inverted s vs gs → take e (column (words_at new w) b) ≡ run vs gs
  taken_back vs gs sim alt =
      ext_get_or false (take e (column (words_at new w) b)) (take e (column (words_at rows w) b)) (size new ∙ sym (size rows)) (λ i h. at i (omega (arith, size new)) (dec_lt i s))
      ∙ sim
    where
      size : (l : List ℕ) → length (take e (column (words_at l w) b)) ≡ e
      size l = length-take-le e (column (words_at l w) b) (omega (arith, column-length (words_at l w) b, words_long l w))

      value : (l : List ℕ) (i : ℕ) → i < e → get_or (take e (column (words_at l w) b)) i false ≡ bit (get_or l (row_words * i + w) 0) b
      value l i h =
          get_or-take e (column (words_at l w) b) i false h ∙ column-at (words_at l w) b i ∙ ap (λ (x : ℕ). bit x b) (words-at l w i (omega arith))

      at : (i : ℕ) → i < e → Dec (i < s) → get_or (take e (column (words_at new w) b)) i false ≡ get_or (take e (column (words_at rows w) b)) i false
      at i h (yes l) =
          value new i h ∙ ap (λ (x : ℕ). bit x b) (c.2 (row_words * i + w) (omega arith)) ∙ sym (value other i h)
          ∙ ap (λ (v : List Bool). get_or v i false) alt ∙ before-inverted s gs vs i l ∙ sym (ap (λ (v : List Bool). get_or v i false) sim)
      at i h (no n) =
          value new i h ∙ ap (λ (x : ℕ). bit x b) (c.1 (row_words * i + w) (omega arith) (omega arith)) ∙ sym (value rows i h)
