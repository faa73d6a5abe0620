-- What a load gives passes refusal 10's test: what has been read so far passes it, record after record. Assumes nothing.
use mathlib.Core.Path.{◌≡◌, refl, sym, ap, ◌∙◌}
use mathlib.Core.Bool.{cond, ◌&&◌}
use mathlib.Core.List.{List, [], ◌∷◌}
use Prim.Native.Nat.{ℕ, zero, suc, ◌+◌, ◌*◌, ◌-◌, ◌^◌, ◌≤◌, ◌<◌}
use native.Mathlib.Omega.{arith}
use native.Mathlib.Nat.{min-le_left, pow-suc, pow-le-pow_right}
use native.Mathlib.Decide.{dec_lt}
use lib.Dec.{leb, ltb, eqb}
use lib.ListN.{length, get_or, take, drop, set, replicate, length-take, get_or-replicate, get_or-eq_default}
use lib.Pow.{pow_pos}
use lib.Seq.{get_or-drop, get_or-take, length-take-le, get_or-set_same, get_or-set_other}
use Rattle.bits.specs.Bounds.{most_inputs}
use Rattle.bits.specs.Lists.{Bytes}
use Rattle.bits.proofs.Ranges.{lt-cases, length-places, by_cases}
use Rattle.network.specs.declared.Session.{Session}
use Rattle.network.specs.declared.Refusal.{Refusal}
use Rattle.network.specs.declared.Refusal.TheVariants.{TrailingBytes}
use Rattle.std.specs.Prelude.{Result, Ok, Err}
use Rattle.network.specs.Answer.{Done, answer_of}
use Rattle.network.specs.Bounds.{most_gates, most_outputs, most_fanins, excluded_words}
use Rattle.network.specs.Compatible.{open_table, open_tables}
use Rattle.network.specs.Flat.{loaded_net, current_net}
use Rattle.network.specs.Tests.{refuse_if, mark, count_test, range_test, fanins_test, width_test, excluded_test, output_test}
use Rattle.network.specs.State.{arity_of, fanins_of, gate_fault, output_fault, state_fault}
use Rattle.network.specs.Valid.{Sized, Shaped, Narrow}
use Rattle.network.specs.Load as load
use Rattle.network.specs.Load.{started, session_of, little_endian, with_output, output_tests, output_record, read_outputs, fanins_in, table_in, after_fanins, with_gate, form_of, gate_record, read_gates, set_bytes, words_from, excluded_in, with_excluded, is_excluded, excluded_tests, excluded_record, read_body, header_tests, header_record, read_of, opened, opening, load_of}
use Rattle.network.proofs.Fresh.{Fresh}
use Rattle.network.proofs.TestLaws.{clear-e, each-i, short-e, count-e, count-i, range-e, width-i, output-e, went, refused-done, given-same}
use Rattle.network.proofs.Valid.{GateValid, valid-i}
use Rattle.network.proofs.Slots.{sized-started, sized-gate, sized-output, GateIs, gate-new, gate-kept, fanin-bytes, narrow-started, narrow-gate, narrow-output}

-- a word of a session
abbrev pub Wide : List ℕ → Type 0
Wide ws = (w : ℕ) → get_or ws w 0 < 2 ^ 64

-- a gate that stands for one that passes
pub gate-valid : (t : Session) (i k : ℕ) (fs : List ℕ) (lt ct : ℕ) → GateIs k fs lt ct t i → count_test most_fanins k ≡ Done → fanins_test (t.n + i) fs ≡ Done
    → width_test (2 ^ k) lt ≡ Done → width_test (2 ^ k) ct ≡ Done → GateValid t i
gate-valid t i k fs lt ct is a b c d =
    let ar = is.arity-is in
    record {
      arity-fine = rw ar a;
      fanins-fine = rw is.fanins-are b;
      loaded-fine = rw (ar, is.loaded-is) c;
      current-fine = rw (ar, is.current-is) d;
    }

-- either form has one to six fan-ins
pub form-fine : (rest : List ℕ) (k : ℕ) → range_test (form_of rest).least (form_of rest).most k ≡ Done → count_test most_fanins k ≡ Done
form-fine rest k h =
    by_cases (leb 2 (length rest) && eqb (mark rest) 0x4E48)
    (λ e. let r = range-e 5 6 k (rw e at h) in count-i most_fanins k (omega arith) (omega arith))
    (λ e. let r = range-e 1 4 k (rw e at h) in count-i most_fanins k (omega arith) (omega arith))

-- ## What holds once g gates and j outputs have been read from the bytes

pub record Sound (bytes : List ℕ) (t : Session) (g j : ℕ) : Type 0 where
  pub inputs : count_test most_inputs t.n ≡ Done
  pub gates : count_test most_gates t.m ≡ Done
  pub outs : count_test most_outputs t.p ≡ Done
  pub set-fine : excluded_test t.n t.excluded ≡ Done
  pub gate : (i : ℕ) → i < g → GateValid t i
  pub output : (i : ℕ) → i < j → output_fault t i ≡ Done
  pub sized : Sized t
  pub same : t.current ≡ t.loaded
  pub narrow : Narrow t
  pub wide : Bytes bytes → Wide t.excluded

module _ (bytes : List ℕ) where
  output-step : (t : Session) (g j x : ℕ) → j < most_outputs → output_test (t.n + t.m) x ≡ Done → Sound bytes t g j → Sound bytes (with_output t j x) g (j + 1)
  output-step t g j x b fine s =
      let nb = count-e most_inputs t.n s.inputs in
      let mb = count-e most_gates t.m s.gates in
      let xb = output-e (t.n + t.m) x fine in
      record {
        inputs = s.inputs;
        gates = s.gates;
        outs = s.outs;
        set-fine = s.set-fine;
        gate = λ i l. let v = s.gate i l in
            record { arity-fine = v.arity-fine; fanins-fine = v.fanins-fine; loaded-fine = v.loaded-fine; current-fine = v.current-fine };
        output = λ i l.
            lt-cases i j (omega arith)
            (λ h. rw (get_or-set_other t.outputs j i x 0 (λ e. omega arith)) (s.output i h))
            (λ e. rw (e, get_or-set_same t.outputs j x 0 (omega arith)) fine);
        sized = sized-output t j x s.sized;
        same = s.same;
        narrow = narrow-output t j x (omega arith) s.narrow;
        wide = s.wide;
      }

  gate-step : (t : Session) (g k : ℕ) (fs : List ℕ) (tb : ℕ) → g < most_gates → length fs ≡ k
      → count_test most_fanins k ≡ Done → fanins_test (t.n + g) fs ≡ Done → width_test (2 ^ k) tb ≡ Done
      → Sound bytes t g 0 → Sound bytes (with_gate t g k fs tb) (g + 1) 0
  gate-step t g k fs tb b len a f w s =
      let kb = count-e most_fanins k a in
      let nb = count-e most_inputs t.n s.inputs in
      record {
        inputs = s.inputs;
        gates = s.gates;
        outs = s.outs;
        set-fine = s.set-fine;
        gate = λ i l.
            lt-cases i g (omega arith)
            (λ h.
            let v = s.gate i h in
            let ab = count-e most_fanins (arity_of t i) v.arity-fine in
            gate-valid (with_gate t g k fs tb) i (arity_of t i) (fanins_of t i) (get_or t.loaded i 0) (get_or t.current i 0)
            (gate-kept t g k fs tb (arity_of t i) (fanins_of t i) (get_or t.loaded i 0) (get_or t.current i 0) i (omega arith) h
            (record { arity-is = refl; fanins-are = refl; loaded-is = refl; current-is = refl }))
            v.arity-fine v.fanins-fine v.loaded-fine v.current-fine)
            (λ e. rw e (gate-valid (with_gate t g k fs tb) g k fs tb tb (gate-new t g k fs tb s.sized b len (omega arith)) a f w w));
        output = λ i l. let z : ⊥ = omega arith in absurd z;
        sized = sized-gate t g k fs tb s.sized;
        same = ap (λ (l : List ℕ). set l g tb) s.same;
        narrow = narrow-gate t g k fs tb (omega arith) (fanin-bytes (t.n + g) fs (omega arith) f) s.narrow;
        wide = s.wide;
      }

  -- ## Record after record

  module _ (u : Session) where
    outputs-sound : (c j : ℕ) (t : Session) (rest : List ℕ) → j + c ≡ t.p → Sound bytes t t.m j
        → read_outputs c j t rest ≡ Ok u → Sound bytes u u.m u.p
    unfolding read_outputs output_record
    outputs-sound zero j t rest e s h =
        let w = went (refuse_if (leb 1 (length rest)) TrailingBytes) (Ok t) u h in
        let same : t ≡ u = given-same w.1 in
        let q : j ≡ t.p = omega arith in
        rw (← same) (rw q at s)
    outputs-sound (suc c) j t rest e s h =
        let x = get_or rest 2 0 in
        let w = went (output_record (t.n + t.m) rest) (read_outputs c (j + 1) (with_output t j x) (drop 3 rest)) u h in
        let fine = (clear-e (output_tests (t.n + t.m) rest) w.0).1.1.0 in
        let pb = count-e most_outputs t.p s.outs in
        outputs-sound c (j + 1) (with_output t j x) (drop 3 rest) (omega arith) (output-step t t.m j x (omega arith) fine s) w.1

    gates-sound : (c g : ℕ) (t : Session) (rest : List ℕ) → g + c ≡ t.m → Sound bytes t g 0
        → read_gates c g t rest ≡ Ok u → Sound bytes u u.m u.p
    unfolding read_gates gate_record
    gates-sound zero g t rest e s h = let q : g ≡ t.m = omega arith in outputs-sound t.p 0 t rest (omega arith) (rw q at s) h
    gates-sound (suc c) g t rest e s h =
        let k = get_or rest 2 0 in
        let f = form_of rest in
        let t' = with_gate t g k (fanins_in rest) (table_in rest) in
        let w = went (gate_record (t.n + g) rest) (read_gates c (g + 1) t' (drop f.bytes (after_fanins rest))) u h in
        let q = clear-e (load.gate_tests f (t.n + g) rest) w.0 in
        let l = short-e (k + f.bytes) (drop 3 rest) q.1.1.1.0 in
        let len = length-take-le k (drop 3 rest) (omega arith) in
        let mb = count-e most_gates t.m s.gates in
        gates-sound c (g + 1) t' (drop f.bytes (after_fanins rest)) (omega arith)
        (gate-step t g k (fanins_in rest) (table_in rest) (omega arith) len (form-fine rest k q.1.1.0) q.1.1.1.1.0 q.1.1.1.1.1.0 s) w.1

    words-sound : (n m p : ℕ) (ws rest : List ℕ) → count_test most_inputs n ≡ Done → count_test most_gates m ≡ Done → count_test most_outputs p ≡ Done
        → excluded_test n ws ≡ Done → length ws ≡ excluded_words → (Bytes bytes → Wide ws)
        → read_gates m 0 (with_excluded (started n m p) ws) rest ≡ Ok u → Sound bytes u u.m u.p
    words-sound n m p ws rest a b d x len wide h =
        let nb = count-e most_inputs n a in
        let mb = count-e most_gates m b in
        let pb = count-e most_outputs p d in
        gates-sound m 0 (with_excluded (started n m p) ws) rest (omega arith)
        (record {
          inputs = a;
          gates = b;
          outs = d;
          set-fine = x;
          gate = λ i l. let z : ⊥ = omega arith in absurd z;
          output = λ i l. let z : ⊥ = omega arith in absurd z;
          sized = sized-started n m p ws len;
          same = refl;
          narrow = narrow-started n m p ws (omega arith) (omega arith) (omega arith);
          wide = wide;
        }) h

-- ## The words of the excluded set

pub no_bits : (n : ℕ) → excluded_test n (replicate excluded_words 0) ≡ Done
unfolding excluded_test
no_bits n =
    each-i (λ w. width_test (2 ^ n - 64 * w) (get_or (replicate excluded_words 0) w 0)) excluded_words
    (λ w l. width-i (2 ^ n - 64 * w) (get_or (replicate excluded_words 0) w 0) (rw (get_or-replicate {A = ℕ} excluded_words w 0 0 l) (pow_pos (2 ^ n - 64 * w))))

pub zero-wide : Wide (replicate excluded_words 0)
zero-wide w = by (dec_lt w excluded_words)
  where
    by : Dec (w < excluded_words) → get_or (replicate excluded_words 0) w 0 < 2 ^ 64
    by (yes y) = rw (get_or-replicate {A = ℕ} excluded_words w 0 0 y) (omega arith)
    by (no y) = rw (get_or-eq_default {A = ℕ} (replicate excluded_words 0) 0 {n = w} (omega arith)) (omega arith)

byte-drop : (n : ℕ) (l : List ℕ) → Bytes l → Bytes (drop n l)
byte-drop n l b i = rw (get_or-drop n l i 0) (b (n + i))

byte-take : (n : ℕ) (l : List ℕ) → Bytes l → Bytes (take n l)
byte-take n l b i = by (dec_lt i n)
  where
    by : Dec (i < n) → get_or (take n l) i 0 < 256
    by (yes y) = rw (get_or-take n l i 0 y) (b i)
    by (no y) =
        let k = length-take n l in
        let m = min-le_left n (length l) in
        rw (get_or-eq_default (take n l) 0 {n = i} (omega arith)) (omega arith)

number_lt : (l : List ℕ) → Bytes l → little_endian l < 256 ^ length l
number_lt [] b = let z : 0 < 1 = omega arith in z
number_lt (x ∷ xs) b =
    let h = number_lt xs (λ i. b (suc i)) in
    let y = b 0 in
    rw pow-suc (omega arith)

words-length : (c : ℕ) (bs : List ℕ) → length (words_from c bs) ≡ c
words-length zero bs = refl
words-length (suc c) bs = ap suc (words-length c (drop 8 bs))

words-wide : (c : ℕ) (bs : List ℕ) → Bytes bs → Wide (words_from c bs)
words-wide zero bs b w = omega arith
words-wide (suc c) bs b zero =
    let k = length-take 8 bs in
    let m = min-le_left 8 (length bs) in
    let p : 256 ^ length (take 8 bs) ≤ 18446744073709551616 = pow-le-pow_right {n = 256} (omega arith) {i = length (take 8 bs)} {j = 8} (omega arith) in
    let h = number_lt (take 8 bs) (byte-take 8 bs b) in
    omega arith
words-wide (suc c) bs b (suc w) = words-wide c (drop 8 bs) (byte-drop 8 bs b) w

-- ## The whole file

read-sound : (bytes : List ℕ) (u : Session) → read_of bytes ≡ Ok u → Sound bytes u u.m u.p
unfolding read_of header_record read_body excluded_record
read-sound bytes u h =
    let n = get_or bytes 2 0 in
    let m = get_or bytes 3 0 in
    let p = get_or bytes 4 0 in
    let rest = drop 5 bytes in
    let w = went (header_record bytes) (read_body (started n m p) rest) u h in
    let q = clear-e (header_tests bytes) w.0 in
    let c = q.1.1 in
    by_cases (is_excluded rest)
    (λ e.
    let x = went (excluded_record n rest) (read_gates m 0 (with_excluded (started n m p) (excluded_in n rest)) (drop (set_bytes n) (drop 2 rest))) u (rw e at w.1) in
    let f = clear-e (excluded_tests n rest) x.0 in
    let bs = take (set_bytes n) (drop 2 rest) in
    words-sound bytes u n m p (excluded_in n rest) (drop (set_bytes n) (drop 2 rest)) c.0 c.1.0 c.1.1.0 f.1.0 (words-length excluded_words bs)
    (λ b. words-wide excluded_words bs (byte-take (set_bytes n) (drop 2 rest) (byte-drop 2 rest (byte-drop 5 bytes b)))) x.1)
    (λ e. words-sound bytes u n m p (replicate excluded_words 0) rest c.0 c.1.0 c.1.1.0 (no_bits n) refl (λ b. zero-wide) (rw e at w.1))

sound-valid : (bytes : List ℕ) (u : Session) → Sound bytes u u.m u.p → state_fault u ≡ Done
sound-valid bytes u s =
    valid-i u (record { inputs = s.inputs; gates = s.gates; outs = s.outs; set-fine = s.set-fine; gate = s.gate; output = s.output })

-- ## Load, with the open tables

pub done-whole : (l : Result Session Refusal) → answer_of l ≡ Done → l ≡ Ok (session_of l)
done-whole (Ok s) e = refl
done-whole (Err r) e = refused-done r e

-- a load that is Done read a network and opened it
pub load_read : (bytes : List ℕ) (s : Session) → load_of bytes ≡ Ok s → (t : Session) × (read_of bytes ≡ Ok t) × (opened t ≡ s)
unfolding load_of
load_read bytes s h = go (read_of bytes) h
  where
    go : (l : Result Session Refusal) → opening l ≡ Ok s → (t : Session) × (l ≡ Ok t) × (opened t ≡ s)
    go (Ok t) h = (t, refl, given-same h)
    go (Err r) h = refused-done r (ap answer_of h)

pub load-back : (bytes : List ℕ) (t : Session) → read_of bytes ≡ Ok t → load_of bytes ≡ Ok (opened t)
unfolding load_of
load-back bytes t h = rw h

-- the open tables are none of the network, and not tested
pub opened-fault : (t : Session) → state_fault (opened t) ≡ state_fault t
unfolding state_fault gate_fault
opened-fault t = refl

pub opened-loaded : (t : Session) → loaded_net (opened t) ≡ loaded_net t
unfolding loaded_net
opened-loaded t = refl

pub opened-current : (t : Session) → current_net (opened t) ≡ current_net t
unfolding current_net
opened-current t = refl

pub opened-length : (t : Session) → length (opened t).open_tables ≡ most_gates
unfolding open_tables
opened-length t = length-places most_gates (λ g. cond (ltb g (length (loaded_net t).gates)) (open_table (loaded_net t) ((loaded_net t).inputs + g)) 0)

pub loaded-fresh : (bytes : List ℕ) (s : Session) → load_of bytes ≡ Ok s → Fresh s
loaded-fresh bytes s h =
    let l = load_read bytes s h in
    let t = l.0 in
    let d = read-sound bytes t l.1 in
    rw (← l.2) (record {
      valid = opened-fault t ∙ sound-valid bytes t d;
      same = d.same;
      held = ap open_tables (sym (opened-loaded t));
      slots = d.sized.slots;
      arities = d.sized.arities;
      tables = d.sized.loads;
    })

pub loaded-sized : (bytes : List ℕ) (s : Session) → load_of bytes ≡ Ok s → Sized s
loaded-sized bytes s h =
    let l = load_read bytes s h in
    let t = l.0 in
    let z = (read-sound bytes t l.1).sized in
    rw (← l.2) (record {
      words = z.words;
      arities = z.arities;
      slots = z.slots;
      loads = z.loads;
      currents = z.currents;
      opens = opened-length t;
      outs = z.outs;
    })

pub loaded-shaped : (bytes : List ℕ) (s : Session) → Bytes bytes → load_of bytes ≡ Ok s → Shaped s
loaded-shaped bytes s b h =
    let l = load_read bytes s h in
    let w : Wide (opened l.0).excluded = (read-sound bytes l.0 l.1).wide b in
    record { sized = loaded-sized bytes s h; wide = rw l.2 at w }

-- what a loaded session holds in bytes fits there, also where the numbers of the file are no bytes
pub loaded-narrow : (bytes : List ℕ) (s : Session) → load_of bytes ≡ Ok s → Narrow s
loaded-narrow bytes s h =
    let l = load_read bytes s h in
    let t = l.0 in
    let b = (read-sound bytes t l.1).narrow in
    rw (← l.2) (record { counts = b.counts; arities = b.arities; slots = b.slots; outs = b.outs })
