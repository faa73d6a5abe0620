-- One turn of the backward walk of rule 5, over plain variables. Assumes nothing.
use mathlib.Core.Path.{◌≡◌, refl, sym, ap, ap₂, ◌∙◌, subst}
use mathlib.Core.Bool.{Bool, ◌&&◌, ◌||◌}
use mathlib.Core.List.{List, []}
use Prim.Native.Nat.{ℕ, suc, ◌+◌, ◌*◌, ◌<◌}
use native.Mathlib.Numerals.{add-one}
use native.Mathlib.Omega.{arith}
use native.Mathlib.Decide.{ℕ_discrete}
use lib.Dec.{eqb}
use lib.Bits.{bit_and, bit_or}
use lib.ListN.{length, get_or, set, drop, replicate, get_or-replicate}
use lib.Seq.{get_or-set_same, get_or-set_other, drop-length}
use borrow.Author.Tests.{eq-eqb, ne_eqb}
use Rattle.bits.specs.Bounds.{row_words, gate_places}
use Rattle.bits.specs.Range.{◌⇒◌, every}
use Rattle.bits.specs.Bit.{bit, column}
use Rattle.bits.proofs.BitLaws.{bit-and, bit-or, bit-ones}
use Rattle.bits.proofs.Ranges.{and_assoc, and-true, every-ext}
use Rattle.network.specs.Bounds.{most_signals, signal_words}
use Rattle.network.specs.Net.{Gate, entry}
use Rattle.network.specs.Compatible.{edge_set, compatible_from}
use Rattle.network.specs.Flat.{gate_at, gates_of}
use Rattle.network.proofs.FlatGates.{arity-at, fanin-at, gates-from, length-gates}
use Rattle.edges.specs.Edges.{Edged}
use Rattle.edges.proofs.EdgeWords.{edge_at}
use Rattle.simulate.specs.Simulated.{words_at}
use Rattle.simulate.proofs.RowLaws.{words-at}
use Rattle.compatible.specs.Words.{outputs_leave, edge}

-- one word ANDed: the signals that it is not of keep theirs
and_at : (hs : List ℕ) (f v x b s : ℕ) (q : Bool) → f < length hs → v ≡ bit_and (get_or hs f 0) x → bit x b ≡ q
    → bit (get_or (set hs f v) s 0) b ≡ (bit (get_or hs s 0) b && (eqb f s ⇒ q))
and_at hs f v x b s q h ev ex = go (ℕ_discrete s f)
  where
    go : Dec (s ≡ f) → bit (get_or (set hs f v) s 0) b ≡ (bit (get_or hs s 0) b && (eqb f s ⇒ q))
    go (yes e) = rw (e, get_or-set_same hs f v 0 h, ev, bit-and, ex, eq-eqb f f refl)
    go (no m) = rw (get_or-set_other hs f s v 0 m, ne_eqb f s (λ e. m (sym e)), and-true (bit (get_or hs s 0) b))

-- ## What the outputs leave

pub start_first : (outs : List ℕ) (w b s : ℕ) (e : Bool) → w < row_words → b < 64 → s < most_signals
    → bit (get_or (words_at (replicate signal_words 0xffff_ffff_ffff_ffff) w) s 0) b ≡ outputs_leave outs 0 e s
unfolding outputs_leave
start_first outs w b s e hw hb hs =
    rw (words-at (replicate signal_words 0xffff_ffff_ffff_ffff) w s hs, get_or-replicate {A = ℕ} signal_words (row_words * s + w) 0xffff_ffff_ffff_ffff 0 (omega arith)) (bit-ones 64 b hb)

pub start-step : (hs outs : List ℕ) (i f v keep b s : ℕ) → f < length hs → f ≡ get_or outs i 0 → v ≡ bit_and (get_or hs f 0) keep
    → bit (get_or hs s 0) b ≡ outputs_leave outs i (bit keep b) s → bit (get_or (set hs f v) s 0) b ≡ outputs_leave outs (i + 1) (bit keep b) s
unfolding outputs_leave
start-step hs outs i f v keep b s h ef ev ih =
    and_at hs f v keep b s (bit keep b) h ev refl
    ∙ ap₂ (λ (x : Bool) (y : ℕ). x && (eqb y s ⇒ bit keep b)) ih ef
    ∙ rw add-one

-- ## One fan-in

pub edge-step : (fs es hs hs₀ : List ℕ) (g h r f v x y b e s : ℕ) → f < length hs → f ≡ get_or fs (gate_places * g + r) 0 → v ≡ bit_and (get_or hs f 0) x → x ≡ bit_or h y
    → bit y b ≡ bit (get_or es (gate_places * g + r) 0) e
    → bit (get_or hs s 0) b ≡ (bit (get_or hs₀ s 0) b && every r (edge fs es g h b e s))
    → bit (get_or (set hs f v) s 0) b ≡ (bit (get_or hs₀ s 0) b && every (r + 1) (edge fs es g h b e s))
edge-step fs es hs hs₀ g h r f v x y b e s l ef ev ex ey ih =
    and_at hs f v x b s (bit h b || bit (get_or es (gate_places * g + r) 0) e) l ev (ap (λ (z : ℕ). bit z b) ex ∙ bit-or h y b ∙ ap (λ (z : Bool). bit h b || z) ey)
    ∙ ap₂ (λ (z : Bool) (i : ℕ). z && (eqb i s ⇒ (bit h b || bit (get_or es (gate_places * g + r) 0) e))) ih ef
    ∙ and_assoc (bit (get_or hs₀ s 0) b) (every r (edge fs es g h b e s)) (edge fs es g h b e s r)
    ∙ rw add-one

-- ## One gate

module _ (ks fs ts ws : List ℕ) (start : ℕ → Bool) (n m b : ℕ) where
  -- the compatible sets that the gates from g on leave
  abbrev pub left : ℕ → ℕ → Bool
  left g s = compatible_from start (column ws b) (n + g) (drop g (gates_of ks fs ts m)) s

  pub gate-step : (es hs hs' : List ℕ) (g h : ℕ) → g < m → h ≡ get_or hs (n + g) 0 → n + g < most_signals
      → Edged ks ts es m
      → ((s : ℕ) → s < most_signals → bit (get_or hs s 0) b ≡ left (g + 1) s)
      → ((s : ℕ) → bit (get_or hs' s 0) b ≡ (bit (get_or hs s 0) b && every (get_or ks g 0) (edge fs es g h b (entry (column ws b) (gate_at ks fs ts g)) s)))
      → (s : ℕ) → s < most_signals → bit (get_or hs' s 0) b ≡ left g s
  unfolding compatible_from
  gate-step es hs hs' g h lg eh ln ed ih step s ls =
      let G = gate_at ks fs ts g in
      let e = entry (column ws b) G in
      let rest = drop (suc g) (gates_of ks fs ts m) in
      let later : (i : ℕ) → left (g + 1) i ≡ compatible_from start (column ws b) (suc (n + g)) rest i =
      λ i. ap₂ (λ (x y : ℕ). compatible_from start (column ws b) x (drop y (gates_of ks fs ts m)) i) (omega arith) (add-one g) in
      let own : bit h b ≡ compatible_from start (column ws b) (suc (n + g)) rest (n + g) = ap (λ (w : ℕ). bit w b) eh ∙ ih (n + g) ln ∙ later (n + g) in
      let held : ℕ → Bool = λ r. eqb (get_or G.fanins r 0) s ⇒ edge_set G (compatible_from start (column ws b) (suc (n + g)) rest (n + g)) e r in
      step s
      ∙ ap₂ (λ (x y : Bool). x && y) (ih s ls ∙ later s)
      (every-ext (get_or ks g 0) (edge fs es g h b e s) held
      (λ r lr.
      ap₂ (λ (x : ℕ) (y : Bool). eqb x s ⇒ (bit h b || y)) (sym (fanin-at ks fs ts g r lr))
      (ap (λ (t : ℕ). bit t e) (ed g lg r lr) ∙ edge_at ks fs ts (column ws b) g r)
      ∙ ap (λ (x : Bool). eqb (get_or G.fanins r 0) s ⇒ edge_set G x e r) own)
      ∙ ap (λ (i : ℕ). every i held) (sym (arity-at ks fs ts g)))
      ∙ ap (λ (l : List Gate). compatible_from start (column ws b) (n + g) l s) (sym (gates-from ks fs ts m g lg))

  pub last : (x : Bool) (s : ℕ) → x ≡ start s → x ≡ left m s
  unfolding compatible_from
  last x s h =
      h ∙ ap (λ (l : List Gate). compatible_from start (column ws b) (n + m) l s) (sym (drop_all (gates_of ks fs ts m) m (length-gates ks fs ts m)))
    where
      drop_all : (l : List Gate) (k : ℕ) → length l ≡ k → drop k l ≡ []
      drop_all l k q = subst (λ (i : ℕ). drop i l ≡ []) q (drop-length l)
