-- What stands in the slots of a session once a gate or an output has been laid in, or current tables; and that what it holds in
-- bytes fits there. Assumes nothing.
use mathlib.Core.Path.{◌≡◌, refl, sym, ap, ◌∙◌}
use mathlib.Core.List.{List, [], ◌∷◌}
use Prim.Native.Nat.{ℕ, zero, suc, ◌+◌, ◌*◌, ◌≤◌, ◌<◌}
use native.Mathlib.Nat.{add-zero}
use native.Mathlib.Omega.{arith}
use native.Mathlib.Decide.{dec_lt}
use lib.ListN.{length, get_or, set, replicate, length-set, get_or-eq_default}
use lib.Seq.{sets, length-sets, get_or-set_same, get_or-set_other, ext_get_or}
use Rattle.bits.specs.Bounds.{gate_places}
use Rattle.bits.specs.Lists.{Bytes}
use Rattle.bits.specs.Range.{places}
use Rattle.bits.proofs.Ranges.{length-places, places-at, places-ext}
use Rattle.network.specs.declared.Session.{Session}
use Rattle.network.specs.Answer.{Done}
use Rattle.network.specs.Bounds.{most_gates, most_outputs, fanin_places, excluded_words}
use Rattle.network.specs.Tests.{fanins_test}
use Rattle.network.specs.State.{arity_of, fanins_of}
use Rattle.network.specs.Valid.{Sized, Narrow}
use Rattle.network.specs.Load.{started, with_gate, with_output, with_excluded}
use Rattle.network.specs.Calls.{with_current}
use Rattle.network.proofs.TestLaws.{fanins-e}

-- ## Lists

-- a list by its elements
pub places-get : (l : List ℕ) → places (length l) (λ r. get_or l r 0) ≡ l
places-get l =
    let p : ℕ → ℕ = λ r. get_or l r 0 in
    let n = length-places (length l) p in
    ext_get_or 0 (places (length l) p) l n (λ i h. places-at 0 (length l) p i (omega arith))

-- a run of stores leaves what stands before it
pub sets-before : (vs l : List ℕ) (i j : ℕ) → j < i → get_or (sets l i vs) j 0 ≡ get_or l j 0
sets-before [] l i j h = refl
sets-before (v ∷ vs) l i j h = sets-before vs (set l i v) (suc i) j (omega arith) ∙ get_or-set_other l i j v 0 (λ e. omega arith)

pub sets-at : (vs l : List ℕ) (i r : ℕ) → r < length vs → i + length vs ≤ length l → get_or (sets l i vs) (i + r) 0 ≡ get_or vs r 0
sets-at [] l i r h b = let z : ⊥ = omega arith in absurd z
sets-at (v ∷ vs) l i zero h b = rw add-zero (sets-before vs (set l i v) (suc i) i (omega arith) ∙ get_or-set_same l i v 0 (omega arith))
sets-at (v ∷ vs) l i (suc r) h b =
    let q : i + suc r ≡ suc i + r = omega arith in
    let n = length-set l i v in
    rw q (sets-at vs (set l i v) (suc i) r (omega arith) (omega arith))

-- ## A session's slots

-- a session that holds nothing but its counts and its excluded set
pub sized-started : (n m p : ℕ) (ws : List ℕ) → length ws ≡ excluded_words → Sized (with_excluded (started n m p) ws)
sized-started n m p ws h = record { words = h; arities = refl; slots = refl; loads = refl; currents = refl; opens = refl; outs = refl }

pub sized-gate : (t : Session) (g k : ℕ) (fs : List ℕ) (tb : ℕ) → Sized t → Sized (with_gate t g k fs tb)
sized-gate t g k fs tb z = record {
  words = z.words;
  arities = length-set t.arity g k ∙ z.arities;
  slots = length-sets t.fanins (gate_places * g) fs ∙ z.slots;
  loads = length-set t.loaded g tb ∙ z.loads;
  currents = length-set t.current g tb ∙ z.currents;
  opens = z.opens;
  outs = z.outs;
}

pub sized-output : (t : Session) (i x : ℕ) → Sized t → Sized (with_output t i x)
sized-output t i x z = record {
  words = z.words;
  arities = z.arities;
  slots = z.slots;
  loads = z.loads;
  currents = z.currents;
  opens = z.opens;
  outs = length-set t.outputs i x ∙ z.outs;
}

pub sized-current : (t : Session) (ts : List ℕ) → length ts ≡ most_gates → Sized t → Sized (with_current t ts)
sized-current t ts h z = record {
  words = z.words;
  arities = z.arities;
  slots = z.slots;
  loads = z.loads;
  currents = h;
  opens = z.opens;
  outs = z.outs;
}

-- gate i has k fan-ins fs, the loaded table lt and the current table ct
pub record GateIs (k : ℕ) (fs : List ℕ) (lt ct : ℕ) (t : Session) (i : ℕ) : Type 0 where
  pub arity-is : arity_of t i ≡ k
  pub fanins-are : fanins_of t i ≡ fs
  pub loaded-is : get_or t.loaded i 0 ≡ lt
  pub current-is : get_or t.current i 0 ≡ ct

module _ (t : Session) (g k : ℕ) (fs : List ℕ) (tb : ℕ) where
  -- the gate that is laid in
  pub gate-new : Sized t → g < most_gates → length fs ≡ k → k ≤ gate_places → GateIs k fs tb tb (with_gate t g k fs tb) g
  gate-new z l e b =
      let a = get_or-set_same t.arity g k 0 (omega arith) in
      let p : ℕ → ℕ = λ r. get_or (sets t.fanins (gate_places * g) fs) (gate_places * g + r) 0 in
      record {
        arity-is = a;
        fanins-are =
            ap (λ (x : ℕ). places x p) (a ∙ sym e)
            ∙ places-ext (length fs) p (λ r. get_or fs r 0) (λ r h. sets-at fs t.fanins (gate_places * g) r h (omega arith))
            ∙ places-get fs;
        loaded-is = get_or-set_same t.loaded g tb 0 (omega arith);
        current-is = get_or-set_same t.current g tb 0 (omega arith);
      }

  -- a gate before it stays
  pub gate-kept : (K : ℕ) (F : List ℕ) (L C i : ℕ) → K ≤ gate_places → i < g → GateIs K F L C t i → GateIs K F L C (with_gate t g k fs tb) i
  gate-kept K F L C i b l a =
      let q : arity_of (with_gate t g k fs tb) i ≡ arity_of t i = get_or-set_other t.arity g i k 0 (λ e. omega arith) in
      let p : ℕ → ℕ = λ r. get_or (sets t.fanins (gate_places * g) fs) (gate_places * i + r) 0 in
      record {
        arity-is = q ∙ a.arity-is;
        fanins-are =
            ap (λ (x : ℕ). places x p) q
            ∙ places-ext (arity_of t i) p (λ r. get_or t.fanins (gate_places * i + r) 0) (λ r h. sets-before fs t.fanins (gate_places * g) (gate_places * i + r) (omega arith))
            ∙ a.fanins-are;
        loaded-is = get_or-set_other t.loaded g i tb 0 (λ e. omega arith) ∙ a.loaded-is;
        current-is = get_or-set_other t.current g i tb 0 (λ e. omega arith) ∙ a.current-is;
      }

-- ## Bytes

byte-set : (l : List ℕ) (i v : ℕ) → v < 256 → Bytes l → Bytes (set l i v)
byte-set [] i v h b j = b j
byte-set (x ∷ xs) zero v h b zero = h
byte-set (x ∷ xs) zero v h b (suc j) = b (suc j)
byte-set (x ∷ xs) (suc i) v h b zero = b 0
byte-set (x ∷ xs) (suc i) v h b (suc j) = byte-set xs i v h (λ k. b (suc k)) j

byte-sets : (vs l : List ℕ) (i : ℕ) → Bytes vs → Bytes l → Bytes (sets l i vs)
byte-sets [] l i c b = b
byte-sets (v ∷ vs) l i c b = byte-sets vs (set l i v) (suc i) (λ k. c (suc k)) (byte-set l i v (c 0) b)

zero-bytes : (n : ℕ) → Bytes (replicate n 0)
zero-bytes zero i = omega arith
zero-bytes (suc n) zero = omega arith
zero-bytes (suc n) (suc i) = zero-bytes n i

-- fan-ins that pass 4 with a limit of at most 256
pub fanin-bytes : (limit : ℕ) (fs : List ℕ) → limit ≤ 256 → fanins_test limit fs ≡ Done → Bytes fs
fanin-bytes limit fs b h r = by (dec_lt r (length fs))
  where
    by : Dec (r < length fs) → get_or fs r 0 < 256
    by (yes y) = omega (arith, fanins-e limit fs h r y)
    by (no y) = rw (get_or-eq_default fs 0 {n = r} (omega arith)) (omega arith)

pub narrow-started : (n m p : ℕ) (ws : List ℕ) → n < 256 → m < 256 → p < 256 → Narrow (with_excluded (started n m p) ws)
narrow-started n m p ws a b c = record { counts = (a, b, c); arities = zero-bytes most_gates; slots = zero-bytes fanin_places; outs = zero-bytes most_outputs }

pub narrow-gate : (t : Session) (g k : ℕ) (fs : List ℕ) (tb : ℕ) → k < 256 → Bytes fs → Narrow t → Narrow (with_gate t g k fs tb)
narrow-gate t g k fs tb a f b = record {
  counts = b.counts;
  arities = byte-set t.arity g k a b.arities;
  slots = byte-sets fs t.fanins (gate_places * g) f b.slots;
  outs = b.outs;
}

pub narrow-output : (t : Session) (i x : ℕ) → x < 256 → Narrow t → Narrow (with_output t i x)
narrow-output t i x a b = record { counts = b.counts; arities = b.arities; slots = b.slots; outs = byte-set t.outputs i x a b.outs }
