-- Rows under other tables: one gate more. A gate inverted is a gate with the complemented table. Assumes nothing.
use mathlib.Core.Path.{◌≡◌, refl, sym, ap, ap₂, subst, ◌∙◌}
use mathlib.Core.Bool.{Bool, true, false, not, ◌&&◌, ◌||◌}
use mathlib.Core.List.{List, [], ◌∷◌, ◌++◌}
use Prim.Native.Nat.{ℕ, zero, suc, ◌+◌, ◌-◌, ◌*◌, ◌^◌, ◌≤◌, ◌<◌}
use native.Mathlib.Nat.{add-zero}
use native.Mathlib.Decide.{ℕ_discrete}
use native.Mathlib.Omega.{arith}
use lib.Bits.{bit_and, bit_or}
use lib.Dec.{eqb}
use lib.ListN.{length, get_or, take, set, length-append}
use lib.Seq.{get_or-take, get_or_at, get_or-set_same, get_or-set_other, set-get_or, take-take, take-length, take-append-le}
use borrow.Author.Tests.{eq-eqb, ne_eqb}
use Rattle.bits.specs.Bounds.{gate_places}
use Rattle.bits.specs.Range.{places}
use Rattle.bits.specs.Bit.{bit, differs, column}
use Rattle.bits.proofs.BitLaws.{bit-and, bit-or, bit-zero, power-own, power-other}
use Rattle.bits.proofs.Logic.{clash}
use Rattle.bits.proofs.Ranges.{or_r, or-false, length-places, places-ext, column-at}
use Rattle.network.specs.Bounds.{most_signals, signal_words}
use Rattle.network.specs.Net.{Gate, entry, run}
use Rattle.network.specs.DontCares.{run_inverted}
use Rattle.network.specs.Flat.{fanins_at, gate_at, gates_of}
use Rattle.network.specs.Valid.{GateOk}
use Rattle.network.proofs.FlatGates.{run-snoc, length_run, entry-at, entry_lt, entry-take, entry-ext, gates-suc, length-gates, table_at}
use Rattle.simulate.specs.Simulated.{words_at, Rows}
use Rattle.incremental.specs.Updated.{Masked, Updated}
use Rattle.simulate.proofs.SimulationSteps.{gate-step}
use Rattle.simulate.proofs.RowLaws.{words_long}

-- ## Runs

inverted-snoc : (s : ℕ) (vs : List Bool) (gs : List Gate) (g : Gate)
    → run_inverted s vs (gs ++ g ∷ []) ≡ run_inverted s vs gs ++ differs (eqb (length (run_inverted s vs gs)) s) (bit g.table (entry (run_inverted s vs gs) g)) ∷ []
inverted-snoc s vs [] g = refl
inverted-snoc s vs (h ∷ gs) g = inverted-snoc s (vs ++ differs (eqb (length vs) s) (bit h.table (entry vs h)) ∷ []) gs g

length-inverted : (s : ℕ) (gs : List Gate) (vs : List Bool) → length (run_inverted s vs gs) ≡ length vs + length gs
length-inverted s [] vs = sym (add-zero (length vs))
length-inverted s (g ∷ gs) vs =
    let v = differs (eqb (length vs) s) (bit g.table (entry vs g)) in
    omega (arith, length-inverted s gs (vs ++ v ∷ []), length-append vs (v ∷ []))

module _ (ks fs ts : List ℕ) (n x : ℕ) where
  abbrev plain : ℕ → List Bool
  plain h = run (places n (bit x)) (gates_of ks fs ts h)

  abbrev other : ℕ → ℕ → List Bool
  other g h = run_inverted (n + g) (places n (bit x)) (gates_of ks fs ts h)

  size : (h : ℕ) → length (places n (bit x)) + length (gates_of ks fs ts h) ≡ n + h
  size h = ap₂ (λ (a b : ℕ). a + b) (length-places n (bit x)) (length-gates ks fs ts h)

  plain-suc : (h : ℕ) → plain (suc h) ≡ plain h ++ bit (get_or ts h 0) (entry (plain h) (gate_at ks fs ts h)) ∷ []
  plain-suc h =
      ap (run (places n (bit x))) (gates-suc ks fs ts h)
      ∙ run-snoc (places n (bit x)) (gates_of ks fs ts h) (gate_at ks fs ts h)
      ∙ ap (λ (t : ℕ). plain h ++ bit t (entry (plain h) (gate_at ks fs ts h)) ∷ []) (table_at ks fs ts h)

  other-suc : (g h : ℕ) → other g (suc h) ≡ other g h ++ differs (eqb (n + h) (n + g)) (bit (get_or ts h 0) (entry (other g h) (gate_at ks fs ts h))) ∷ []
  other-suc g h =
      ap (run_inverted (n + g) (places n (bit x))) (gates-suc ks fs ts h)
      ∙ inverted-snoc (n + g) (places n (bit x)) (gates_of ks fs ts h) (gate_at ks fs ts h)
      ∙ ap₂ (λ (l t : ℕ). other g h ++ differs (eqb l (n + g)) (bit t (entry (other g h) (gate_at ks fs ts h))) ∷ [])
      (length-inverted (n + g) (gates_of ks fs ts h) (places n (bit x)) ∙ size h) (table_at ks fs ts h)

  plain-length : (h : ℕ) → length (plain h) ≡ n + h
  plain-length h = length_run (gates_of ks fs ts h) (places n (bit x)) ∙ size h

  -- the run of the first gates is the first part of the run
  plain-take : (m g : ℕ) → g ≤ m → take (n + g) (plain m) ≡ plain g
  plain-take m g h = first m (m - g) (omega arith)
    where
      first : (k d : ℕ) → k ≡ g + d → take (n + g) (plain k) ≡ plain g
      first k zero e =
          let q : k ≡ g = omega arith in
          rw q (ap (λ (i : ℕ). take i (plain g)) (sym (plain-length g)) ∙ take-length (plain g))
      first k (suc d) e =
          let q : k ≡ suc (g + d) = omega arith in
          let v = bit (get_or ts (g + d) 0) (entry (plain (g + d)) (gate_at ks fs ts (g + d))) in
          rw q (ap (take (n + g)) (plain-suc (g + d)) ∙ take-append-le (n + g) (plain (g + d)) (v ∷ []) (omega (arith, plain-length (g + d))) ∙ first (g + d) d refl)

  module _ (ws : List ℕ) (m b : ℕ) (sim : take (n + m) (column ws b) ≡ plain m) where
    first-values : (g : ℕ) → g ≤ m → take (n + g) (column ws b) ≡ plain g
    first-values g h = sym (take-take (n + g) (n + m) (column ws b) (omega arith)) ∙ ap (take (n + g)) sim ∙ plain-take m g h

    -- the word of a gate is the table's entry at the words of its fan-ins
    gate-value : (g : ℕ) → g < m → GateOk ks fs g (n + g) → bit (get_or ws (n + g) 0) b ≡ bit (get_or ts g 0) (entry (column ws b) (gate_at ks fs ts g))
    gate-value g h ok =
        sym (column-at ws b (n + g))
        ∙ sym (get_or-take (n + suc g) (column ws b) (n + g) false (omega arith))
        ∙ ap (λ (l : List Bool). get_or l (n + g) false) (first-values (suc g) h ∙ plain-suc g)
        ∙ get_or_at (plain g) (bit (get_or ts g 0) (entry (plain g) (gate_at ks fs ts g))) [] false (n + g) (plain-length g)
        ∙ ap (λ (l : List Bool). bit (get_or ts g 0) (entry l (gate_at ks fs ts g))) (sym (first-values g (omega arith)))
        ∙ ap (bit (get_or ts g 0)) (entry-take ks fs ts (column ws b) g (n + g) ok)

-- the run where gate g's value is inverted is that of the tables us, which are ts with gate g's complemented
module _ (ks fs ts us : List ℕ) (n x g : ℕ)
    (same : (h : ℕ) → (h ≡ g → ⊥) → get_or us h 0 ≡ get_or ts h 0) (flipped : (e : ℕ) → e < 2 ^ get_or ks g 0 → bit (get_or us g 0) e ≡ not (bit (get_or ts g 0) e)) where
  value : (h : ℕ) (vs : List Bool) → bit (get_or us h 0) (entry vs (gate_at ks fs us h)) ≡ differs (eqb (n + h) (n + g)) (bit (get_or ts h 0) (entry vs (gate_at ks fs ts h)))
  value h vs = ap (bit (get_or us h 0)) (entry-at ks fs us vs h ∙ sym (entry-at ks fs ts vs h)) ∙ go (ℕ_discrete h g)
    where
      e : ℕ
      e = entry vs (gate_at ks fs ts h)

      go : Dec (h ≡ g) → bit (get_or us h 0) e ≡ differs (eqb (n + h) (n + g)) (bit (get_or ts h 0) e)
      go (yes i) =
          ap (λ (j : ℕ). bit (get_or us j 0) e) i
          ∙ flipped e (subst (λ (j : ℕ). e < 2 ^ get_or ks j 0) i (entry_lt ks fs ts vs h))
          ∙ ap (λ (j : ℕ). not (bit (get_or ts j 0) e)) (sym i)
          ∙ ap (λ (c : Bool). differs c (bit (get_or ts h 0) e)) (sym (eq-eqb (n + h) (n + g) (ap (λ (j : ℕ). n + j) i)))
      go (no d) =
          ap (λ (t : ℕ). bit t e) (same h d)
          ∙ ap (λ (c : Bool). differs c (bit (get_or ts h 0) e)) (sym (ne_eqb (n + h) (n + g) (λ q. d (omega arith))))

  pub complemented : (m : ℕ) → run (places n (bit x)) (gates_of ks fs us m) ≡ run_inverted (n + g) (places n (bit x)) (gates_of ks fs ts m)
  unfolding gates_of
  complemented zero = refl
  complemented (suc h) =
      plain-suc ks fs us n x h
      ∙ ap (λ (l : List Bool). l ++ bit (get_or us h 0) (entry l (gate_at ks fs us h)) ∷ []) (complemented h)
      ∙ ap (λ (v : Bool). other ks fs ts n x g h ++ v ∷ []) (value h (other ks fs ts n x g h))
      ∙ sym (other-suc ks fs ts n x g h)

-- ## Sets of signals

-- one signal more of a set
pub mask_step : (F : ℕ → ℕ) (mask v r : ℕ) → ((q : ℕ) → q < r → bit mask (F q) ≡ true) → v ≡ 2 ^ F r
    → (q : ℕ) → q < r + 1 → bit (bit_or mask v) (F q) ≡ true
mask_step F mask v r so_far e q h = bit-or mask v (F q) ∙ go (ℕ_discrete q r)
  where
    go : Dec (q ≡ r) → (bit mask (F q) || bit v (F q)) ≡ true
    go (yes i) = or_r (bit mask (F q)) (bit v (F q)) (rw (i, e) (power-own (F r)))
    go (no n) = rw (so_far q (omega arith))

-- one gate more of the fan-in sets
pub masked-step : (ks fs l : List ℕ) (g v : ℕ) → g < length l → Masked ks fs l g → ((r : ℕ) → r < get_or ks g 0 → bit v (get_or fs (gate_places * g + r) 0) ≡ true)
    → Masked ks fs (set l g v) (g + 1)
masked-step ks fs l g v h so_far here q hq r hr = go (ℕ_discrete q g)
  where
    go : Dec (q ≡ g) → bit (get_or (set l g v) q 0) (get_or fs (gate_places * q + r) 0) ≡ true
    go (yes e) = ap (λ (x : ℕ). bit (get_or (set l g v) x 0) (get_or fs (gate_places * x + r) 0)) e ∙ ap (λ (x : ℕ). bit x (get_or fs (gate_places * g + r) 0)) (get_or-set_same l g v 0 h) ∙ here r (rw e at hr)
    go (no n) = ap (λ (x : ℕ). bit x (get_or fs (gate_places * q + r) 0)) (get_or-set_other l g q v 0 n) ∙ so_far q (omega arith) r hr

-- ## One gate more of the rows

module _ (ks fs us ts old : List ℕ) (n m count : ℕ) (sim : Rows ks fs us old n m count) where
  -- nothing is done yet: the tables are the same up to here
  pub update-first : (from : ℕ) → from ≤ m → length old ≡ signal_words → ((g : ℕ) → g < from → get_or us g 0 ≡ get_or ts g 0) → Updated ks fs ts old old n count from 0
  unfolding gates_of gate_at
  update-first from h long same = record {
    long = long;
    done = λ w hw. record {
      long = words_long old w;
      each = λ b hb. first-values ks fs us n (w * 64 + b) (words_at old w) m b ((sim w hw).each b hb) from h ∙ ap (run (places n (bit (w * 64 + b)))) first-gates;
    };
    kept = λ w s hw e. refl;
    later = λ s l. bit-zero s;
  }
    where
      first-gates : gates_of ks fs us from ≡ gates_of ks fs ts from
      first-gates = places-ext from (gate_at ks fs us) (gate_at ks fs ts) (λ g l. ap (λ (t : ℕ). record { fanins = fanins_at ks fs g; table = t }) (same g l))

  -- the words of a gate whose table is complemented: its words the other way round
  pub inverted-words : (g w b v : ℕ) → g < m → GateOk ks fs g (n + g) → w < count → b < 64 → bit v b ≡ not (bit (get_or (words_at old w) (n + g) 0) b)
      → ((e : ℕ) → e < 2 ^ get_or ks g 0 → bit (get_or ts g 0) e ≡ not (bit (get_or us g 0) e))
      → bit v b ≡ bit (get_or ts g 0) (entry (column (words_at old w) b) (gate_at ks fs ts g))
  inverted-words g w b v hg ok hw hb turned flipped =
      turned
      ∙ ap not (gate-value ks fs us n (w * 64 + b) (words_at old w) m b ((sim w hw).each b hb) g hg ok)
      ∙ sym (flipped (entry (column (words_at old w) b) (gate_at ks fs us g)) (entry_lt ks fs us (column (words_at old w) b) g))
      ∙ ap (bit (get_or ts g 0)) (entry-at ks fs us (column (words_at old w) b) g ∙ sym (entry-at ks fs ts (column (words_at old w) b) g))

  module _ (rows : List ℕ) (h changed : ℕ) (hm : h < m) (fits : n + h < most_signals) (ok : GateOk ks fs h (n + h)) (so_far : Updated ks fs ts old rows n count h changed) where
    -- the gate's words are there
    there : ((w : ℕ) → w < count → (b : ℕ) → b < 64 → bit (get_or (words_at rows w) (n + h) 0) b ≡ bit (get_or ts h 0) (entry (column (words_at rows w) b) (gate_at ks fs ts h)))
        → Updated ks fs ts old rows n count (h + 1) changed
    there here = record {
      long = so_far.long;
      done = λ w hw. rw (set-get_or (words_at rows w) (n + h) 0) at (gate-step ks fs ts (words_at rows w) n h w (get_or (words_at rows w) (n + h) 0) fits ok (so_far.done w hw) (here w hw));
      kept = so_far.kept;
      later = λ s l. so_far.later s (omega arith);
    }

    -- neither the table nor a fan-in changed
    pub update-skip : (mask : ℕ) → ((r : ℕ) → r < get_or ks h 0 → bit mask (get_or fs (gate_places * h + r) 0) ≡ true) → bit_and mask changed ≡ 0 → get_or ts h 0 ≡ get_or us h 0
        → Updated ks fs ts old rows n count (h + 1) changed
    update-skip mask has none table = there same
      where
        clear : (f : ℕ) → bit mask f ≡ true → bit changed f ≡ false
        clear f e = ap (λ (c : Bool). c && bit changed f) (sym e) ∙ sym (bit-and mask changed f) ∙ ap (λ (x : ℕ). bit x f) none ∙ bit-zero f

        at : (w b : ℕ) → w < count → (f : ℕ) → bit changed f ≡ false → get_or (column (words_at old w) b) f false ≡ get_or (column (words_at rows w) b) f false
        at w b hw f e = column-at (words_at old w) b f ∙ ap (λ (v : ℕ). bit v b) (sym (so_far.kept w f hw e)) ∙ sym (column-at (words_at rows w) b f)

        same : (w : ℕ) → w < count → (b : ℕ) → b < 64 → bit (get_or (words_at rows w) (n + h) 0) b ≡ bit (get_or ts h 0) (entry (column (words_at rows w) b) (gate_at ks fs ts h))
        same w hw b hb =
            ap (λ (v : ℕ). bit v b) (so_far.kept w (n + h) hw (so_far.later (n + h) (omega arith)))
            ∙ gate-value ks fs us n (w * 64 + b) (words_at old w) m b ((sim w hw).each b hb) h hm ok
            ∙ ap (bit (get_or us h 0)) (entry-ext ks fs us (column (words_at old w) b) (column (words_at rows w) b) h (λ r l. at w b hw (get_or fs (gate_places * h + r) 0) (clear (get_or fs (gate_places * h + r) 0) (has r l))))
            ∙ ap₂ bit (sym table) (entry-at ks fs us (column (words_at rows w) b) h ∙ sym (entry-at ks fs ts (column (words_at rows w) b) h))

    module _ (row : ℕ → ℕ) (valued : (w b : ℕ) → w < count → b < 64 → bit (row w) b ≡ bit (get_or ts h 0) (entry (column (words_at rows w) b) (gate_at ks fs ts h))) where
      -- simulated again, with the same words
      pub update_same : ((w : ℕ) → w < count → row w ≡ get_or (words_at rows w) (n + h) 0) → Updated ks fs ts old rows n count (h + 1) changed
      update_same same = there (λ w hw b hb. ap (λ (v : ℕ). bit v b) (sym (same w hw)) ∙ valued w b hw hb)

      -- simulated again, with other words
      pub update-stored : (new : List ℕ) → length new ≡ signal_words → ((w : ℕ) → w < count → words_at new w ≡ set (words_at rows w) (n + h) (row w))
          → Updated ks fs ts old new n count (h + 1) (bit_or changed (2 ^ (n + h)))
      update-stored new long put = record {
        long = long;
        done = λ w hw. rw (put w hw) (gate-step ks fs ts (words_at rows w) n h w (row w) fits ok (so_far.done w hw) (λ b hb. valued w b hw hb));
        kept = λ w s hw e. let c = clear s e in
            ap (λ (l : List ℕ). get_or l s 0) (put w hw)
            ∙ get_or-set_other (words_at rows w) (n + h) s (row w) 0 (λ q. clash (ap (bit (2 ^ (n + h))) q ∙ power-own (n + h)) c.1)
            ∙ so_far.kept w s hw c.0;
        later = λ s l. bit-or changed (2 ^ (n + h)) s ∙ ap₂ ◌||◌ (so_far.later s (omega arith)) (power-other (n + h) s (λ e. omega arith));
      }
        where
          clear : (s : ℕ) → bit (bit_or changed (2 ^ (n + h))) s ≡ false → (bit changed s ≡ false) × (bit (2 ^ (n + h)) s ≡ false)
          clear s e = or-false (bit changed s) (bit (2 ^ (n + h)) s) (sym (bit-or changed (2 ^ (n + h)) s) ∙ e)
