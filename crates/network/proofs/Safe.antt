-- Why exchanges keep the outputs: tables that keep the loaded bit at each closed entry leave the value of every signal, outside its
-- compatible set, as loaded. Assumes nothing.
use mathlib.Core.Path.{◌≡◌, refl, sym, ap, ◌∙◌}
use mathlib.Core.Bool.{Bool, true, false, not, ◌&&◌, ◌||◌, beq}
use mathlib.Core.List.{List, [], ◌∷◌, ◌++◌, map}
use Prim.Native.Nat.{ℕ, zero, suc, ◌+◌, ◌-◌, ◌^◌, ◌<◌, ◌≤◌}
use native.Mathlib.Nat.{add-zero, not-suc-le-zero}
use native.Mathlib.Omega.{arith}
use lib.Dec.{eqb, leb}
use lib.ListN.{length, get_or, length-append}
use borrow.Author.Tests.{eqb-true, eq-eqb, le-leb}
use Rattle.bits.specs.Range.{◌⇒◌, places, any}
use Rattle.bits.specs.Bit.{bit, number}
use Rattle.bits.proofs.BitLaws.{bit-ext, bit-zero}
use Rattle.bits.proofs.Ranges.{and_l, and_r, and_i, by_cases, every-e, every-i, any-i, length-places, bit-number}
use Rattle.bits.proofs.Logic.{clash, imp-e, imp-i, beq-e, beq-i}
use Rattle.network.specs.Net.{Gate, Net, arity, no_gate, gate, patterns, excluded_for, entry, run, values, output, with_gates}
use Rattle.network.specs.Compatible.{agree, constant, turns, free_fanins, at_outputs, compatible_from, compatible, delivers, closed}
use Rattle.network.proofs.Earlier.{Below, Earlier, entry-below, entry-same, run-keep}

-- ## What the tests of rules 6 and 7 say

pub agree-e : (k free t u : ℕ) → agree k free t u ≡ true → (r : ℕ) → r < k → bit free r ≡ false → bit t r ≡ bit u r
unfolding agree
agree-e k free t u e r h f = beq-e (bit t r) (bit u r) (rw f at (every-e k (λ r. bit free r || beq (bit t r) (bit u r)) e r h))

pub agree-i : (k free t u : ℕ) → ((r : ℕ) → r < k → bit free r ≡ false → bit t r ≡ bit u r) → agree k free t u ≡ true
unfolding agree
agree-i k free t u f =
    every-i k (λ r. bit free r || beq (bit t r) (bit u r))
    (λ r h. by_cases (bit free r) (λ e. rw e) (λ e. rw e (beq-i (bit t r) (bit u r) (f r h e))))

pub constant-e : (k table free t : ℕ) → constant k table free t ≡ true → (u : ℕ) → u < 2 ^ k → agree k free t u ≡ true → bit table t ≡ bit table u
unfolding constant
constant-e k table free t e u h a =
    beq-e (bit table t) (bit table u)
    (imp-e (agree k free t u) (beq (bit table t) (bit table u)) (every-e (2 ^ k) (λ u. agree k free t u ⇒ beq (bit table t) (bit table u)) e u h) a)

pub constant-i : (k table free t : ℕ) → ((u : ℕ) → u < 2 ^ k → agree k free t u ≡ true → bit table t ≡ bit table u) → constant k table free t ≡ true
unfolding constant
constant-i k table free t f =
    every-i (2 ^ k) (λ u. agree k free t u ⇒ beq (bit table t) (bit table u))
    (λ u h. imp-i (agree k free t u) (beq (bit table t) (bit table u)) (λ a. beq-i (bit table t) (bit table u) (f u h a)))

-- with nothing free
pub constant-none : (k table t : ℕ) → t < 2 ^ k → constant k table 0 t ≡ true
constant-none k table t h = constant-i k table 0 t (λ u hu a. ap (bit table) (bit-ext k t u h hu (λ r hr. agree-e k 0 t u a r hr (bit-zero r))))

-- rule 6 keeps the table constant over all that it has freed
turns-constant : (k table t : ℕ) → t < 2 ^ k → (r : ℕ) → constant k table (turns k table t r) t ≡ true
unfolding turns
turns-constant k table t ht zero = constant-none k table t ht
turns-constant k table t ht (suc r) =
    by_cases (constant k table (turns k table t r + 2 ^ r) t) (λ e. rw e e) (λ e. rw e (turns-constant k table t ht r))

-- two entries that differ only at fan-ins that rule 6 frees have one value
pub freed-same : (g : Gate) (t u : ℕ) → t < 2 ^ arity g → u < 2 ^ arity g
    → ((r : ℕ) → r < arity g → bit (free_fanins g t) r ≡ false → bit t r ≡ bit u r) → bit g.table t ≡ bit g.table u
unfolding free_fanins
freed-same g t u ht hu f =
    let free = turns (arity g) g.table t (arity g) in
    constant-e (arity g) g.table free t (turns-constant (arity g) g.table t ht (arity g)) u hu (agree-i (arity g) free t u f)

-- ## Rule 5

module _ (start : ℕ → Bool) (vs : List Bool) (j : ℕ) (g : Gate) (gs : List Gate) (s : ℕ) where
  edge : ℕ → Bool
  edge r = eqb (get_or g.fanins r 0) s ⇒ (compatible_from start vs (suc j) gs j || bit (free_fanins g (entry vs g)) r)

  compatible-down : compatible_from start vs j (g ∷ gs) s ≡ true → compatible_from start vs (suc j) gs s ≡ true
  unfolding compatible_from
  compatible-down h = and_l (compatible_from start vs (suc j) gs s) _ h

  compatible-edge : compatible_from start vs j (g ∷ gs) s ≡ true → compatible_from start vs (suc j) gs j ≡ false
      → (r : ℕ) → r < arity g → get_or g.fanins r 0 ≡ s → bit (free_fanins g (entry vs g)) r ≡ true
  unfolding compatible_from edge
  compatible-edge h n r l q =
      let a : edge r ≡ true = every-e (arity g) edge (and_r (compatible_from start vs (suc j) gs s) _ h) r l in
      let b : (compatible_from start vs (suc j) gs j || bit (free_fanins g (entry vs g)) r) ≡ true = imp-e (eqb (get_or g.fanins r 0) s) _ a (eq-eqb _ _ q) in
      rw n at b

  compatible-up : Below j g → j ≤ s → compatible_from start vs (suc j) gs s ≡ true
      → compatible_from start vs j (g ∷ gs) s ≡ true
  unfolding compatible_from edge
  compatible-up w l h =
      and_i (compatible_from start vs (suc j) gs s) _ h
      (every-i (arity g) edge (λ r k. imp-i (eqb (get_or g.fanins r 0) s) _ (λ q. absurd (ne r k (eqb-true _ _ q)))))
    where
      ne : (r : ℕ) → r < arity g → get_or g.fanins r 0 ≡ s → ⊥
      ne r k q = omega (arith, w r k)

compatible-start : (start : ℕ → Bool) (vs : List Bool) (gs : List Gate) (j s : ℕ) → compatible_from start vs j gs s ≡ true → start s ≡ true
unfolding compatible_from
compatible-start start vs [] j s h = h
compatible-start start vs (g ∷ gs) j s h = compatible-start start vs gs (suc j) s (compatible-down start vs j g gs s h)

-- ## Values

get_d_map : (p : ℕ → Bool) (fs : List ℕ) (r : ℕ) → r < length fs → get_or (map p fs) r false ≡ p (get_or fs r 0)
get_d_map p [] r h = absurd (not-suc-le-zero h)
get_d_map p (f ∷ fs) zero h = refl
get_d_map p (f ∷ fs) (suc r) h = get_d_map p fs r (omega arith)

bit-map : (p : ℕ → Bool) (fs : List ℕ) (r : ℕ) → r < length fs → bit (number (map p fs)) r ≡ p (get_or fs r 0)
bit-map p fs r h = bit-number (map p fs) r ∙ get_d_map p fs r h

pub entry-bit : (vs : List Bool) (g : Gate) (r : ℕ) → r < arity g → bit (entry vs g) r ≡ get_or vs (get_or g.fanins r 0) false
unfolding entry
entry-bit vs g r h = bit-map (λ s. get_or vs s false) g.fanins r h

-- one more value
pub snoc-cases : (vs us : List Bool) (a b : Bool) (s : ℕ) → length vs ≡ length us
    → (s < length vs → get_or vs s false ≡ get_or us s false) → (s ≡ length vs → a ≡ b) → get_or (vs ++ a ∷ []) s false ≡ get_or (us ++ b ∷ []) s false
snoc-cases [] [] a b zero q f h = h refl
snoc-cases [] [] a b (suc s) q f h = refl
snoc-cases [] (u ∷ us) a b s q f h = absurd (omega arith)
snoc-cases (v ∷ vs) [] a b s q f h = absurd (omega arith)
snoc-cases (v ∷ vs) (u ∷ us) a b zero q f h = f (omega arith)
snoc-cases (v ∷ vs) (u ∷ us) a b (suc s) q f h = snoc-cases vs us a b s (omega arith) (λ l. f (omega arith)) (λ l. h (omega arith))

-- ## The gates that a session may hold

-- gate h in the place of g: the same fan-ins, and a table with the bits of g's at the entries shut
pub record KeptGate (shut : ℕ → Bool) (g h : Gate) : Type 0 where
  pub wires : h.fanins ≡ g.fanins
  pub bits : (t : ℕ) → t < 2 ^ arity g → shut t ≡ true → bit h.table t ≡ bit g.table t

abbrev Kept : (ℕ → Gate → ℕ → Bool) → ℕ → List Gate → List Gate → Type 0
Kept shut j [] [] = Unit
Kept shut j [] (h ∷ hs) = ⊥
Kept shut j (g ∷ gs) [] = ⊥
Kept shut j (g ∷ gs) (h ∷ hs) = KeptGate (shut j g) g h × Kept shut (suc j) gs hs

-- by the gates' numbers
kept-i : (shut : ℕ → Gate → ℕ → Bool) (d : Gate) (gs hs : List Gate) (j : ℕ) → length hs ≡ length gs
    → ((i : ℕ) → i < length gs → KeptGate (shut (j + i) (get_or gs i d)) (get_or gs i d) (get_or hs i d)) → Kept shut j gs hs
kept-i shut d [] [] j e f = tt
kept-i shut d [] (h ∷ hs) j e f = absurd (omega arith)
kept-i shut d (g ∷ gs) [] j e f = absurd (omega arith)
kept-i shut d (g ∷ gs) (h ∷ hs) j e f =
    (rw (add-zero j) at (f 0 (omega arith)), kept-i shut d gs hs (suc j) (omega arith) (λ i l. rw (shift i) at (f (suc i) (omega arith))))
  where
    shift : (i : ℕ) → j + suc i ≡ suc j + i
    shift i = omega arith

-- ## At one pattern: W are the loaded values, H the signals whose compatible set holds it

module _ (start : ℕ → Bool) (W : List Bool) (H : ℕ → Bool) (shut : ℕ → Gate → ℕ → Bool)
    (delivered : (j : ℕ) (g : Gate) (t : ℕ) → H j ≡ false → agree (arity g) (number (map H g.fanins)) (entry W g) t ≡ true → shut j g t ≡ true) where
  module _ (g h : Gate) (gs : List Gate) (vs us : List Bool) (j : ℕ) (lv : length vs ≡ j)
      (whole : run vs (g ∷ gs) ≡ W)
      (down : (s : ℕ) → H s ≡ true → compatible_from start W j (g ∷ gs) s ≡ true)
      (up : (s : ℕ) → j ≤ s → compatible_from start W j (g ∷ gs) s ≡ true → H s ≡ true)
      (early : Below j g)
      (kept : KeptGate (shut j g) g h)
      (inv : (s : ℕ) → H s ≡ false → get_or vs s false ≡ get_or us s false) where
    at-fanin : (r : ℕ) → r < arity g → get_or vs (get_or g.fanins r 0) false ≡ get_or W (get_or g.fanins r 0) false
    at-fanin r l = sym (run-keep (g ∷ gs) vs (get_or g.fanins r 0) (omega (arith, early r l))) ∙ ap (λ (w : List Bool). get_or w (get_or g.fanins r 0) false) whole

    differ : (r : ℕ) → r < arity g → H (get_or g.fanins r 0) ≡ false → bit (entry W g) r ≡ bit (entry us g) r
    differ r l n = entry-bit W g r l ∙ sym (at-fanin r l) ∙ inv (get_or g.fanins r 0) n ∙ sym (entry-bit us g r l)

    gate_same : H j ≡ false → bit g.table (entry vs g) ≡ bit h.table (entry us h)
    unfolding entry
    gate_same n =
        ap (bit g.table) (entry-same vs W g at-fanin)
        ∙ freed-same g (entry W g) (entry us g) (entry-below W g) (entry-below us g) freed
        ∙ sym (kept.bits (entry us g) (entry-below us g) (delivered j g (entry us g) n (agree-i (arity g) (number (map H g.fanins)) (entry W g) (entry us g) moved)))
        ∙ ap (λ (fs : List ℕ). bit h.table (number (map (λ s. get_or us s false) fs))) (sym kept.wires)
      where
        not-above : compatible_from start W (suc j) gs j ≡ false
        not-above = by_cases (compatible_from start W (suc j) gs j) (λ p. clash (up j (omega arith) (compatible-up start W j g gs j (early) (omega arith) p)) n) (λ p. p)

        moved : (r : ℕ) → r < arity g → bit (number (map H g.fanins)) r ≡ false → bit (entry W g) r ≡ bit (entry us g) r
        moved r l m = differ r l (sym (bit-map H g.fanins r l) ∙ m)

        freed : (r : ℕ) → r < arity g → bit (free_fanins g (entry W g)) r ≡ false → bit (entry W g) r ≡ bit (entry us g) r
        freed r l f =
            by_cases (H (get_or g.fanins r 0))
            (λ p. clash (compatible-edge start W j g gs (get_or g.fanins r 0) (down (get_or g.fanins r 0) p) not-above r l refl) f)
            (differ r l)

  same-values : (gs hs : List Gate) (vs us : List Bool) (j : ℕ) → length vs ≡ j → length us ≡ j → run vs gs ≡ W
      → ((s : ℕ) → H s ≡ true → compatible_from start W j gs s ≡ true)
      → ((s : ℕ) → j ≤ s → compatible_from start W j gs s ≡ true → H s ≡ true)
      → Earlier j gs → Kept shut j gs hs
      → ((s : ℕ) → H s ≡ false → get_or vs s false ≡ get_or us s false)
      → (s : ℕ) → H s ≡ false → get_or (run vs gs) s false ≡ get_or (run us hs) s false
  same-values [] [] vs us j lv lu whole down up early kept inv s n = inv s n
  same-values [] (h ∷ hs) vs us j lv lu whole down up early kept inv s n = absurd kept
  same-values (g ∷ gs) [] vs us j lv lu whole down up early kept inv s n = absurd kept
  same-values (g ∷ gs) (h ∷ hs) vs us j lv lu whole down up early kept inv s n =
      same-values gs hs (vs ++ bit g.table (entry vs g) ∷ []) (us ++ bit h.table (entry us h) ∷ []) (suc j)
      (omega (arith, length-append vs (bit g.table (entry vs g) ∷ []))) (omega (arith, length-append us (bit h.table (entry us h) ∷ []))) whole
      (λ s p. compatible-down start W j g gs s (down s p))
      (λ s l p. up s (omega arith) (compatible-up start W j g gs s early.0 (omega arith) p))
      early.1 kept.1
      (λ s p. snoc-cases vs us (bit g.table (entry vs g)) (bit h.table (entry us h)) s (lv ∙ sym lu) (λ _. inv s p)
      (λ q. gate_same g h gs vs us j lv whole down up early.0 kept.0 inv (ap H (sym lv ∙ sym q) ∙ p)))
      s n

-- ## A network whose gates differ from those of N in open entries only has the outputs of N

-- `closed`, of the gate itself
closed_at : Net → ℕ → Gate → ℕ → Bool
closed_at N j g t = any (patterns N) (λ x. not (compatible N j x) && agree (arity g) (number (map (λ f. compatible N f x) g.fanins)) (entry (values N x) g) t)

module _ (N : Net) (early : Earlier N.inputs N.gates) (hs : List Gate) (same : length hs ≡ length N.gates)
    (kept : (s : ℕ) → N.inputs ≤ s → s < N.inputs + length N.gates → KeptGate (closed N s) (gate N s) (gate (with_gates N hs) s)) (x : ℕ) (hx : x < patterns N) where
  delivered : (j : ℕ) (g : Gate) (t : ℕ) → compatible N j x ≡ false
      → agree (arity g) (number (map (λ f. compatible N f x) g.fanins)) (entry (values N x) g) t ≡ true → closed_at N j g t ≡ true
  unfolding closed_at
  delivered j g t n a =
      any-i (patterns N) (λ y. not (compatible N j y) && agree (arity g) (number (map (λ f. compatible N f y) g.fanins)) (entry (values N y) g) t) x hx
      (and_i _ _ (ap not n) a)

  all-kept : Kept (closed_at N) N.inputs N.gates hs
  unfolding closed delivers closed_at
  all-kept = kept-i (closed_at N) no_gate N.gates hs N.inputs same (λ i l. rw (back i) at (at (N.inputs + i) (omega arith) (omega arith)))
    where
      at : (s : ℕ) → N.inputs ≤ s → s < N.inputs + length N.gates → KeptGate (closed_at N s (gate N s)) (gate N s) (gate (with_gates N hs) s)
      at = kept

      back : (i : ℕ) → N.inputs + i - N.inputs ≡ i
      back i = omega arith

  pub value-kept : (s : ℕ) → compatible N s x ≡ false → get_or (values N x) s false ≡ get_or (values (with_gates N hs) x) s false
  unfolding compatible values
  value-kept =
      let inputs = places N.inputs (bit x) in
      let sized = length-places N.inputs (bit x) in
      same-values (at_outputs N x) (values N x) (λ s. compatible N s x) (closed_at N) delivered N.gates hs inputs inputs N.inputs sized sized refl
      (λ s h. and_r (leb N.inputs s) _ h)
      (λ s l h. and_i (leb N.inputs s) _ (le-leb N.inputs s l) h)
      early all-kept (λ s _. refl)

  -- the outputs that name the signal
  excluded-output : (i : ℕ) → i < length N.outputs → compatible N (get_or N.outputs i 0) x ≡ true → excluded_for N i x ≡ true
  unfolding compatible at_outputs
  excluded-output i l h =
      let s = get_or N.outputs i 0 in
      let named : ℕ → Bool = λ k. eqb (get_or N.outputs k 0) s ⇒ excluded_for N k x in
      imp-e (eqb s s) (excluded_for N i x)
      (every-e (length N.outputs) named (compatible-start (at_outputs N x) (values N x) N.gates N.inputs s (and_r (leb N.inputs s) _ h)) i l)
      (eq-eqb s s refl)

  pub output-kept : (i : ℕ) → i < length N.outputs → excluded_for N i x ≡ false → output N x i ≡ output (with_gates N hs) x i
  output-kept i l n =
      let s = get_or N.outputs i 0 in
      value-kept s (by_cases (compatible N s x) (λ h. clash (excluded-output i l h) n) (λ h. h))
