-- The copying gates, laid behind a network's own gates one by one. Assumes nothing.
use mathlib.Core.Path.{◌≡◌, refl, sym, ap, ◌∙◌}
use mathlib.Core.Bool.{Bool, true, false, cond}
use mathlib.Core.List.{List, [], ◌∷◌, ◌++◌, append_assoc, append-nil}
use Prim.Native.Nat.{ℕ, zero, suc, ◌+◌, ◌-◌, ◌*◌, ◌≤◌, ◌<◌}
use native.Mathlib.Numerals.{add-one}
use native.Mathlib.Nat.{add-zero, sub-zero}
use native.Mathlib.Omega.{arith}
use native.Mathlib.Decide.{ℕ_discrete}
use lib.ListN.{length, get_or, set, take, replicate, length-append}
use lib.Seq.{take-suc, get_or-set_same, get_or-set_other}
use borrow.Author.Tests.{lt-ltb, le-ltb}
use mir.Val.{bool_byte}
use Rattle.bits.specs.Bounds.{most_inputs, gate_places}
use Rattle.bits.specs.Range.{num, places, count}
use Rattle.bits.proofs.Ranges.{by_cases, lt-cases, length-places, places-at, places-ext}
use Rattle.network.specs.Answer.{Done}
use Rattle.network.specs.declared.Session.{Session}
use Rattle.network.specs.Bounds.{most_gates, most_outputs, most_fanins, most_signals, excluded_words}
use Rattle.network.specs.Net.{Gate, Net}
use Rattle.network.specs.Flat.{gate_at, gates_of, net_of, current_net}
use Rattle.network.specs.Tests.{count_test, member}
use Rattle.network.specs.State.{arity_of, fanins_of, state_fault}
use Rattle.network.specs.Valid.{Sized}
use Rattle.network.specs.Load.{with_gate}
use Rattle.network.proofs.TestLaws.{count-e}
use Rattle.network.proofs.Valid.{net-ok, outputs-ok}
use Rattle.network.proofs.FlatGates.{length-gates}
use Rattle.network.proofs.Exchanges.{net-length}
use Rattle.network.proofs.Slots.{GateIs, gate-new, gate-kept, sized-gate, sized-output}
use Rattle.blif.specs.Read.{counted}
use Rattle.blif.specs.Write.{signal_of, needs_copy, copy_of, copies, out_signal, outgoing, copies_test}
use Rattle.blifcopies.specs.Ready.{fanin_at, Ready}
use Rattle.blifcopies.specs.Copies.{copy_due, freed, with_copy, copied, grown}

-- ## Which outputs get a copy

pub due-input : (n : ℕ) (outs : List ℕ) (i : ℕ) → get_or outs i 0 < n → true ≡ copy_due n outs i
unfolding copy_due
due-input n outs i h = rw (lt-ltb (get_or outs i 0) n h)

pub due-repeated : (n : ℕ) (outs : List ℕ) (i : ℕ) (b : Bool) → n ≤ get_or outs i 0 → b ≡ member (get_or outs i 0) (take (i - 0) outs) → b ≡ copy_due n outs i
unfolding copy_due
due-repeated n outs i b h e = rw (le-ltb (get_or outs i 0) n h) (rw sub-zero at e)

pub copied-due : (t : Session) (outs : List ℕ) (i : ℕ) → copy_due t.n outs i ≡ true → copied t outs i ≡ with_copy t i (get_or outs i 0)
unfolding copied
copied-due t outs i e = rw e

pub copied-not : (t : Session) (outs : List ℕ) (i : ℕ) → copy_due t.n outs i ≡ false → copied t outs i ≡ t
unfolding copied
copied-not t outs i e = rw e

pub count_next : (p : ℕ → Bool) (i : ℕ) → count (i + 1) p ≡ count i p + num (p i)
count_next p i = rw add-one

pub bool_byte-num : (b : Bool) → bool_byte b ≡ num b
bool_byte-num true = refl
bool_byte-num false = refl

pub num-few : (b : Bool) → num b ≤ 1
num-few true = omega arith
num-few false = omega arith

-- lists that are the same at their first i places
take_same : (i : ℕ) (a b : List ℕ) → i ≤ length a → i ≤ length b → ((j : ℕ) → j < i → get_or a j 0 ≡ get_or b j 0) → take i a ≡ take i b
take_same zero a b h k e = refl
take_same (suc i) a b h k e =
    rw (take-suc a i 0 (omega arith), take-suc b i 0 (omega arith), take_same i a b (omega arith) (omega arith) (λ j l. e j (omega arith)), e i (omega arith))

module _ (s : Session) where
  abbrev N : Net
  N = current_net s

  abbrev due : ℕ → Bool
  due = copy_due s.n s.outputs

  inputs_are : N.inputs ≡ s.n
  unfolding current_net net_of
  inputs_are = refl

  outputs-are : N.outputs ≡ places s.p (λ i. get_or s.outputs i 0)
  unfolding current_net net_of
  outputs-are = refl

  gates-are : N.gates ≡ gates_of s.arity s.fanins s.current s.m
  unfolding current_net net_of
  gates-are = refl

  outputs-long : length N.outputs ≡ s.p
  outputs-long = ap length outputs-are ∙ length-places s.p (λ i. get_or s.outputs i 0)

  gates-long : length N.gates ≡ s.m
  unfolding current_net
  gates-long = net-length s s.current

  signal-is : (i : ℕ) → i < s.p → signal_of N i ≡ get_or s.outputs i 0
  signal-is i h = ap (λ (l : List ℕ). get_or l i 0) outputs-are ∙ places-at 0 s.p (λ i. get_or s.outputs i 0) i h

  due-is : s.p ≤ length s.outputs → (i : ℕ) → i < s.p → needs_copy N i ≡ due i
  unfolding copy_due
  due-is k i h =
      let n = outputs-long in
      rw (signal-is i h, inputs_are, take_same i N.outputs s.outputs (omega arith) (omega arith) (λ j l. signal-is j (omega arith)))

  length-if : (g : Gate) (b : Bool) → length (cond b (g ∷ []) []) ≡ num b
  length-if g true = refl
  length-if g false = refl

  length-copies : s.p ≤ length s.outputs → (i : ℕ) → i ≤ s.p → length (copies N i) ≡ count i due
  length-copies k zero h = refl
  length-copies k (suc i) h =
      let n = length-append (copies N i) (cond (needs_copy N i) (copy_of (signal_of N i) ∷ []) []) in
      let c = length-copies k i (omega arith) in
      let l = length-if (copy_of (signal_of N i)) (needs_copy N i) in
      let d = ap num (due-is k i (omega arith)) in
      omega arith

  pub copies-count : s.p ≤ length s.outputs → copies_test s ≡ count_test most_gates (s.m + count s.p due)
  unfolding copies_test outgoing
  copies-count k =
      let n = length-append N.gates (copies N s.p) in
      let g = gates-long in
      let c = length-copies k s.p (omega arith) in
      let q : length (N.gates ++ copies N s.p) ≡ s.m + count s.p due = omega arith in
      rw (outputs-long, q)

-- ## One output after the other

gate-eq : {fs fs' : List ℕ} {t t' : ℕ} → fs ≡ fs' → t ≡ t' → ◌≡◌ {A = Gate} (record { fanins = fs; table = t }) (record { fanins = fs'; table = t' })
gate-eq e k = rw (e, k)

same-gate : (u : Session) (g : ℕ) → GateIs (arity_of u g) (fanins_of u g) (get_or u.loaded g 0) (get_or u.current g 0) u g
same-gate u g = record { arity-is = refl; fanins-are = refl; loaded-is = refl; current-is = refl }

sized-counted : (t : Session) (m : ℕ) → Sized t → Sized (counted t m)
sized-counted t m z = record {
  words = z.words;
  arities = z.arities;
  slots = z.slots;
  loads = z.loads;
  currents = z.currents;
  opens = z.opens;
  outs = z.outs;
}

-- u has what s has, and the copies for its first i outputs
record Grown (s : Session) (i : ℕ) (u : Session) : Type 0 where
  pub ins : u.n ≡ s.n
  pub outs : u.p ≡ s.p
  pub free-set : u.excluded ≡ replicate excluded_words 0
  pub size : u.m ≡ s.m + count i (copy_due s.n s.outputs)
  pub sized : Sized u
  pub gates : gates_of u.arity u.fanins u.current u.m ≡ (current_net s).gates ++ copies (current_net s) i
  pub few : (g : ℕ) → g < u.m → arity_of u g ≤ most_fanins
  pub early : (g r : ℕ) → g < u.m → r < arity_of u g → fanin_at u g r < most_signals
  pub done : (j : ℕ) → j < i → get_or u.outputs j 0 ≡ out_signal (current_net s) j
  pub due : (j : ℕ) → i ≤ j → get_or u.outputs j 0 ≡ get_or s.outputs j 0
  pub driven : (j : ℕ) → j < s.p → get_or u.outputs j 0 < most_signals

-- an output that keeps its signal
module _ (s : Session) (few : s.p ≤ length s.outputs) (i : ℕ) (l : i < s.p) where
  kept-not : (u : Session) → copy_due s.n s.outputs i ≡ false → Grown s i u → Grown s (suc i) u
  kept-not u e v =
      let N = current_net s in
      let d : needs_copy N i ≡ false = due-is s few i l ∙ e in
      record {
        ins = v.ins;
        outs = v.outs;
        free-set = v.free-set;
        size = let z = v.size in rw e (omega arith);
        sized = v.sized;
        gates = v.gates ∙ rw (d, append-nil (copies N i));
        few = v.few;
        early = v.early;
        done = λ j h. lt-cases j i h (v.done j) (λ q. rw q (v.due i (omega arith) ∙ sym (signal-is s i l) ∙ rw d));
        due = λ j h. v.due j (omega arith);
        driven = v.driven;
      }

-- an output that gets a gate of its own
module _ (s u : Session) (i : ℕ) (v : Grown s i u) (least : u.m < most_gates) where
  abbrev x : ℕ
  x = get_or s.outputs i 0

  abbrev w : Session
  w = with_gate u u.m 1 (x ∷ []) 2

  new-gate : GateIs 1 (x ∷ []) 2 2 w u.m
  new-gate = gate-new u u.m 1 (x ∷ []) 2 v.sized least refl (omega arith)

  old-gate : (g : ℕ) → g < u.m → GateIs (arity_of u g) (fanins_of u g) (get_or u.loaded g 0) (get_or u.current g 0) w g
  old-gate g h =
      let f = v.few g h in
      gate-kept u u.m 1 (x ∷ []) 2 (arity_of u g) (fanins_of u g) (get_or u.loaded g 0) (get_or u.current g 0) g (omega arith) h (same-gate u g)

  gates-new : gates_of w.arity w.fanins w.current (u.m + 1) ≡ gates_of u.arity u.fanins u.current u.m ++ copy_of x ∷ []
  unfolding gates_of gate_at
  gates-new =
      let f : ℕ → Gate = gate_at w.arity w.fanins w.current in
      let g : ℕ → Gate = gate_at u.arity u.fanins u.current in
      let e : f u.m ≡ copy_of x = gate-eq new-gate.fanins-are new-gate.current-is in
      let o : places u.m f ≡ places u.m g = places-ext u.m f g (λ j h. gate-eq (old-gate j h).fanins-are (old-gate j h).current-is) in
      let q : u.m + 1 ≡ suc u.m = omega arith in
      ap (λ (m : ℕ). places m f) q ∙ rw (e, o)

  few-new : (g : ℕ) → g < u.m + 1 → arity_of w g ≤ most_fanins
  few-new g h =
      lt-cases g u.m (omega arith) (λ l. let e = (old-gate g l).arity-is in let f = v.few g l in omega arith)
      (λ q. let e = new-gate.arity-is in rw q (omega arith))

  early-new : x < most_signals → (g r : ℕ) → g < u.m + 1 → r < arity_of w g → fanin_at w g r < most_signals
  early-new b g r h k =
      lt-cases g u.m (omega arith)
      (λ l.
      let e = (old-gate g l).arity-is in
      let f = v.few g l in
      let c = v.early g r l (omega arith) in
      let o : fanin_at w g r ≡ fanin_at u g r = get_or-set_other u.fanins (gate_places * u.m) (gate_places * g + r) x 0 (λ z. omega arith) in
      omega arith)
      (λ q.
      let n : arity_of w g ≡ 1 = ap (arity_of w) q ∙ new-gate.arity-is in
      let z : gate_places * g + r ≡ gate_places * u.m = omega arith in
      let room = v.sized.slots in
      let o : fanin_at w g r ≡ x = ap (λ (j : ℕ). get_or w.fanins j 0) z ∙ get_or-set_same u.fanins (gate_places * u.m) x 0 (omega arith) in
      omega arith)

  -- its signal
  signal-new : u.n + u.m ≡ (current_net s).inputs + length ((current_net s).gates ++ copies (current_net s) i)
  signal-new =
      let a = inputs_are s in
      let b = v.ins in
      let n = ap length v.gates in
      let m = length-gates u.arity u.fanins u.current u.m in
      omega arith

  driven-new : u.n + u.m < most_signals → i < most_outputs → (j : ℕ) → j < s.p → get_or (set u.outputs i (u.n + u.m)) j 0 < most_signals
  driven-new b k j h = go (ℕ_discrete j i)
    where
      go : Dec (j ≡ i) → get_or (set u.outputs i (u.n + u.m)) j 0 < most_signals
      go (yes e) = let r = v.sized.outs in rw (e, get_or-set_same u.outputs i (u.n + u.m) 0 (omega arith)) b
      go (no e) = rw (get_or-set_other u.outputs i j (u.n + u.m) 0 e) (v.driven j h)

module _ (s : Session) (few : s.p ≤ length s.outputs) (i : ℕ) (l : i < s.p) where
  kept-due : (u : Session) → copy_due s.n s.outputs i ≡ true → u.m < most_gates → s.n ≤ most_inputs → i < most_outputs → get_or s.outputs i 0 < most_signals → Grown s i u
      → Grown s (suc i) (with_copy u i (get_or s.outputs i 0))
  unfolding with_copy
  kept-due u e least ten eight small v =
      let M = current_net s in
      let d : needs_copy M i ≡ true = due-is s few i l ∙ e in
      let a = v.ins in
      let r = v.sized.outs in
      record {
        ins = v.ins;
        outs = v.outs;
        free-set = v.free-set;
        size = let z = v.size in rw e (omega arith);
        sized = sized-counted _ (u.m + 1) (sized-output _ i (u.n + u.m) (sized-gate u u.m 1 (get_or s.outputs i 0 ∷ []) 2 v.sized));
        gates =
            gates-new s u i v least
            ∙ rw (v.gates, d, signal-is s i l) (append_assoc M.gates (copies M i) (copy_of (get_or s.outputs i 0) ∷ []));
        few = few-new s u i v least;
        early = early-new s u i v least small;
        done = λ j h. lt-cases j i h
            (λ k. get_or-set_other u.outputs i j (u.n + u.m) 0 (λ z. omega arith) ∙ v.done j k)
            (λ q. rw q (get_or-set_same u.outputs i (u.n + u.m) 0 (omega arith) ∙ signal-new s u i v least ∙ rw d));
        due = λ j h. get_or-set_other u.outputs i j (u.n + u.m) 0 (λ z. omega arith) ∙ v.due j (omega arith);
        driven = driven-new s u i v least (omega arith) eight;
      }

-- ## All outputs

count-more : (f : ℕ → Bool) (i c : ℕ) → count i f ≤ count (i + c) f
count-more f i zero = rw add-zero (omega arith)
count-more f i (suc c) = let q : i + suc c ≡ suc (i + c) = omega arith in let h = count-more f i c in rw q (omega arith)

count-up : (f : ℕ → Bool) (i p : ℕ) → i ≤ p → count i f ≤ count p f
count-up f i p h = let q : i + (p - i) ≡ p = omega arith in rw q at (count-more f i (p - i))

net-eq : {n n' : ℕ} {e e' outs outs' : List ℕ} {gs gs' : List Gate} → n ≡ n' → e ≡ e' → gs ≡ gs' → outs ≡ outs'
    → ◌≡◌ {A = Net} (record { inputs = n; excluded = e; gates = gs; outputs = outs }) (record { inputs = n'; excluded = e'; gates = gs'; outputs = outs' })
net-eq a b c d = rw (a, b, c, d)

module _ (s : Session) (z : Sized (freed s)) (ok : state_fault s ≡ Done) (fits : copies_test s ≡ Done) where
  wide : s.p ≤ length s.outputs
  wide = let a = (outputs-ok s ok).most in let b = z.outs in omega arith

  most : s.m + count s.p (copy_due s.n s.outputs) ≤ most_gates
  most = (count-e most_gates (s.m + count s.p (copy_due s.n s.outputs)) (sym (copies-count s wide) ∙ fits)).1

  nothing-grown : Grown s 0 (freed s)
  nothing-grown =
      let v = net-ok s ok in
      let n = v.ins in
      let m = v.most in
      record {
        ins = refl;
        outs = refl;
        free-set = refl;
        size = sym (add-zero s.m);
        sized = z;
        gates = sym (gates-are s) ∙ sym (append-nil (current_net s).gates);
        few = λ g h. (v.gate g h).few;
        early = λ g r h k. let e = (v.gate g h).early r k in omega arith;
        done = λ j h. let z : ⊥ = omega arith in absurd z;
        due = λ j h. refl;
        driven = λ j h. let e = (outputs-ok s ok).each j h in omega arith;
      }

  -- the next output has room
  next_fits : (i : ℕ) (u : Session) → i < s.p → Grown s i u → (u.m + num (copy_due u.n s.outputs i) ≤ most_gates) × (u.n ≤ most_inputs) × (i < most_outputs)
  next_fits i u l v =
      let c = count-up (copy_due s.n s.outputs) (suc i) s.p (omega arith) in
      let e = v.size in
      let a = most in
      let n = (net-ok s ok).ins in
      let p = (outputs-ok s ok).most in
      let q = v.ins in
      rw q (omega arith, omega arith, omega arith)

  next-grown : (i : ℕ) (u : Session) → i < s.p → Grown s i u → Grown s (suc i) (copied u s.outputs i)
  next-grown i u l v =
      let f = next_fits i u l v in
      let n = (net-ok s ok).ins in
      let m = (net-ok s ok).most in
      let x = (outputs-ok s ok).each i l in
      let d : copy_due u.n s.outputs i ≡ copy_due s.n s.outputs i = ap (λ (k : ℕ). copy_due k s.outputs i) v.ins in
      by_cases (copy_due s.n s.outputs i)
      (λ e. let z = ap num (d ∙ e) in let g = f.0 in rw (copied-due u s.outputs i (d ∙ e)) (kept-due s wide i l u e (omega arith) n f.2 (omega arith) v))
      (λ e. rw (copied-not u s.outputs i (d ∙ e)) (kept-not s wide i l u e v))

  grown-at : (i : ℕ) → i ≤ s.p → Grown s i (grown (freed s) i)
  grown-at zero h = nothing-grown
  grown-at (suc i) h = next-grown i (grown (freed s) i) (omega arith) (grown-at i (omega arith))

  grown-net : (u : Session) → Grown s s.p u → current_net u ≡ outgoing (current_net s)
  unfolding current_net net_of outgoing
  grown-net u v =
      let M = current_net s in
      let n = outputs-long s in
      net-eq v.ins v.free-set (v.gates ∙ ap (λ (i : ℕ). M.gates ++ copies M i) (sym n))
      (rw (v.outs, n) (places-ext s.p (λ i. get_or u.outputs i 0) (out_signal M) v.done))

  grown-ready : (u : Session) → Grown s s.p u → Ready u
  grown-ready u v =
      let a = v.ins in
      let b = v.size in
      let c = v.outs in
      let d = most in
      let n = (net-ok s ok).ins in
      let p = (outputs-ok s ok).most in
      record { inputs = omega arith; gates = omega arith; outs = omega arith; few = v.few; early = v.early; driven = λ i h. v.driven i (omega arith) }

  -- in the form that the loop uses
  pub copy-fits : (t₀ t : Session) (i : ℕ) → t₀ ≡ freed s → t ≡ grown t₀ i → i < s.p
      → (t.m + num (copy_due t.n s.outputs i) ≤ most_gates) × (t.n ≤ most_inputs) × (i < most_outputs)
  copy-fits t₀ t i o e l = rw (e, o) (next_fits i (grown (freed s) i) l (grown-at i (omega arith)))

  pub grown-out : (t₀ t : Session) (i : ℕ) → t₀ ≡ freed s → t ≡ grown t₀ i → i ≡ s.p → Ready t × (current_net t ≡ outgoing (current_net s))
  grown-out t₀ t i o e q =
      let v = grown-at s.p (omega arith) in
      rw (e, o, q) (grown-ready (grown (freed s) s.p) v, grown-net (grown (freed s) s.p) v)

pub grown-next : (s t₀ t r : Session) (i : ℕ) → t₀ ≡ freed s → t ≡ grown t₀ i → r ≡ copied t s.outputs i → r ≡ grown t₀ (i + 1)
grown-next s t₀ t r i o e q = q ∙ rw (e, o, add-one)
