-- Out and back: the text of every state that passes refusal 10's test is accepted where 3 does not refuse the copies, and gives the
-- network that went out. Assumes nothing.
use mathlib.Core.Path.{◌≡◌, sym, ap, ◌∙◌}
use mathlib.Core.Bool.{Bool, true, false, not, cond}
use mathlib.Core.List.{List, [], ◌∷◌, ◌++◌}
use Prim.Native.Nat.{ℕ, zero, suc, ◌+◌, ◌-◌, ◌*◌, ◌^◌, ◌≤◌, ◌<◌}
use native.Mathlib.Omega.{arith}
use native.Mathlib.Decide.{dec_lt}
use lib.Dec.{ltb}
use lib.ListN.{length, get_or, take, length-append, get_or-append}
use lib.Seq.{get_or_at, get_or-take, get_or-append-add, length-take-le}
use Rattle.bits.specs.Bounds.{most_inputs, gate_places}
use Rattle.bits.proofs.Ranges.{lt-cases, length-places, places-at}
use Rattle.std.specs.Prelude.{Ok}
use Rattle.network.specs.Answer.{Done}
use Rattle.network.specs.declared.Session.{Session}
use Rattle.network.specs.declared.Refusal.TheVariants.{FaninNotEarlier, FaninRepeated}
use Rattle.network.specs.Bounds.{most_gates, most_outputs, most_fanins}
use Rattle.network.specs.Net.{Gate, Net, no_gate}
use Rattle.network.specs.Flat.{gate_at, gates_of, net_of, loaded_net, current_net}
use Rattle.network.specs.Tests.{refuse_if, member, fanin_test, fanins_test}
use Rattle.network.specs.State.{arity_of, fanins_of, state_test}
use Rattle.network.specs.Load.{opened}
use Rattle.network.proofs.TestLaws.{passed, clear-e, each-e, count-e, width-e, output-e, fanins-e}
use Rattle.network.proofs.Valid.{GateValid, Valid, valid-e, state-e}
use Rattle.network.proofs.Reached.{opened-loaded, opened-current}
use Rattle.blif.specs.Text.{text}
use Rattle.blif.specs.Read.{read_blif, read_blif_of}
use Rattle.blif.specs.Write.{signal_of, needs_copy, copy_of, copies, outgoing, lines_of, blif_text, copies_test}
use Rattle.bliftrip.specs.Trip.{Returns, BlifTrip}
use Rattle.bliftrip.proofs.Names.{Different}
use Rattle.bliftrip.proofs.Blocks.{GateFine}
use Rattle.bliftrip.proofs.Built.{Writable, read_session}
use Rattle.bliftrip.proofs.Back.{text-back, loaded-back, current-back}
use Rattle.bliftrip.proofs.Outgoing.{member-e, OutsIn, survives, apart_out, bounds-out, outgoing-twice}

-- ## Copies are gates like any other

fine-later : {G : Gate} (e f : ℕ) → e ≤ f → GateFine e G → GateFine f G
fine-later e f h g = record { some = g.some; few = g.few; early = λ r l. let q = g.early r l in omega arith; apart = g.apart; fits = g.fits }

copy-fine : (e s : ℕ) → s < e → GateFine e (copy_of s)
copy-fine e s h = record {
  some = omega arith;
  few = omega arith;
  early = λ r l. let q : r ≡ 0 = omega arith in rw q h;
  apart = λ i j a b q. omega arith;
  fits = omega arith;
}

-- one more output, with or without a copy
more-fine : (e x : ℕ) (cs : List Gate) (c : Bool) → x < e → ((j : ℕ) → j < length cs → GateFine e (get_or cs j no_gate))
    → (j : ℕ) → j < length (cs ++ cond c (copy_of x ∷ []) []) → GateFine e (get_or (cs ++ cond c (copy_of x ∷ []) []) j no_gate)
more-fine e x cs true h f j l =
    let g = copy_of x in
    let n = length-append cs (g ∷ []) in
    lt-cases j (length cs) (omega arith)
    (λ y. rw (get_or-append cs (g ∷ []) no_gate j y) (f j y))
    (λ y. rw (get_or_at cs g [] no_gate j (sym y)) (copy-fine e x h))
more-fine e x cs false h f j l =
    let n = length-append cs [] in
    let y : j < length cs = omega arith in
    rw (get_or-append cs [] no_gate j y) (f j y)

copies-fine : (N : Net) (e : ℕ) → ((i : ℕ) → i < length N.outputs → signal_of N i < e) → (p : ℕ) → p ≤ length N.outputs
    → (j : ℕ) → j < length (copies N p) → GateFine e (get_or (copies N p) j no_gate)
copies-fine N e f zero h j l = let z : ⊥ = omega arith in absurd z
copies-fine N e f (suc p) h j l = more-fine e (signal_of N p) (copies N p) (needs_copy N p) (f p (omega arith)) (copies-fine N e f p (omega arith)) j l

-- ## What passes the state's tests

pub record Checked (N : Net) : Type 0 where
  pub ins-some : 1 ≤ N.inputs
  pub ins-few : N.inputs ≤ most_inputs
  pub gates-some : 1 ≤ length N.gates
  pub outs-some : 1 ≤ length N.outputs
  pub outs-few : length N.outputs ≤ most_outputs
  pub each : (g : ℕ) → g < length N.gates → GateFine (N.inputs + g) (get_or N.gates g no_gate)
  pub outs : OutsIn N

writable : (N : Net) → Checked N → length (outgoing N).gates ≤ most_gates → Writable (outgoing N)
unfolding outgoing
writable N c few =
    let m = length N.gates in
    let cs = copies N (length N.outputs) in
    let a = length-append N.gates cs in
    let n = (survives N c.outs).outputs in
    let gs = c.gates-some in
    record {
      ins-some = c.ins-some;
      ins-few = c.ins-few;
      gates-some = omega arith;
      gates-few = few;
      outs-some = rw n c.outs-some;
      outs-few = rw n c.outs-few;
      each = λ g h.
          let q : N.inputs + g - N.inputs ≡ g = omega arith in
          rw q (go g h (dec_lt g m));
      output = λ i h. (bounds-out N c.outs i h).1;
      apart = apart_out N c.outs;
    }
  where
    go : (g : ℕ) → g < length (N.gates ++ copies N (length N.outputs)) → Dec (g < length N.gates)
        → GateFine (N.inputs + g) (get_or (N.gates ++ copies N (length N.outputs)) g no_gate)
    go g h (yes l) = rw (get_or-append N.gates (copies N (length N.outputs)) no_gate g l) (c.each g l)
    go g h (no l) =
        let m = length N.gates in
        let cs = copies N (length N.outputs) in
        let a = length-append N.gates cs in
        let q : g ≡ m + (g - m) = omega arith in
        let e = ap (λ (x : ℕ). get_or (N.gates ++ cs) x no_gate) q ∙ get_or-append-add N.gates cs (g - m) no_gate in
        rw e (fine-later (N.inputs + m) (N.inputs + g) (omega arith)
        (copies-fine N (N.inputs + m) c.outs (length N.outputs) (omega arith) (g - m) (omega arith)))

-- 5: fan-ins are different
fanins-apart : (limit : ℕ) (fs : List ℕ) → fanins_test limit fs ≡ Done → Different fs
unfolding fanins_test fanin_test
fanins-apart limit fs h i j a b e =
    let t = each-e (fanin_test limit fs) (length fs) h j b in
    let c = clear-e (refuse_if (not (ltb (get_or fs j 0) limit)) FaninNotEarlier ∷ refuse_if (member (get_or fs j 0) (take j fs)) FaninRepeated ∷ []) t in
    let m = passed (member (get_or fs j 0) (take j fs)) FaninRepeated c.1.0 in
    let n = length-take-le j fs (omega arith) in
    member-e (get_or fs j 0) (take j fs) m i (omega arith) (get_or-take j fs i 0 a ∙ e)

gate-fine : (s : Session) (g : ℕ) → GateValid s g → GateFine (s.n + g) (gate_at s.arity s.fanins s.current g)
unfolding gate_at
gate-fine s g v =
    let k = count-e most_fanins (arity_of s g) v.arity-fine in
    let n = length-places (arity_of s g) (λ r. get_or s.fanins (gate_places * g + r) 0) in
    record {
      some = omega arith;
      few = omega arith;
      early = fanins-e (s.n + g) (fanins_of s g) v.fanins-fine;
      apart = fanins-apart (s.n + g) (fanins_of s g) v.fanins-fine;
      fits = rw n (width-e (2 ^ arity_of s g) (get_or s.current g 0) v.current-fine);
    }

checked : (s : Session) → Valid s → Checked (current_net s)
unfolding current_net net_of gates_of
checked s v =
    let i = count-e most_inputs s.n v.inputs in
    let g = count-e most_gates s.m v.gates in
    let o = count-e most_outputs s.p v.outs in
    let gl = length-places s.m (gate_at s.arity s.fanins s.current) in
    let ol = length-places s.p (λ i. get_or s.outputs i 0) in
    record {
      ins-some = i.0;
      ins-few = i.1;
      gates-some = omega arith;
      outs-some = omega arith;
      outs-few = omega arith;
      each = λ g h. rw (places-at no_gate s.m (gate_at s.arity s.fanins s.current) g (omega arith)) (gate-fine s g (v.gate g (omega arith)));
      outs = λ i h. rw (places-at 0 s.p (λ i. get_or s.outputs i 0) i (omega arith), gl) (output-e (s.n + s.m) (get_or s.outputs i 0) (v.output i (omega arith)));
    }

-- ## Out and back

module _ (s : Session) (valid : state_test s ≡ Done) (room : copies_test s ≡ Done) where
  fine : Checked (current_net s)
  fine = checked s (valid-e s (state-e s valid))

  pub sent : Writable (outgoing (current_net s))
  unfolding copies_test
  sent = writable (current_net s) fine (count-e most_gates (length (outgoing (current_net s)).gates) room).1

  abbrev got : Session
  got = read_session (outgoing (current_net s)) sent

  reads : read_blif (blif_text s) ≡ Ok got
  unfolding blif_text
  reads = text-back (outgoing (current_net s)) sent

  reads-open : read_blif_of (blif_text s) ≡ Ok (opened got)
  unfolding read_blif_of
  reads-open = rw reads

  loaded-is : loaded_net (opened got) ≡ outgoing (current_net s)
  unfolding outgoing
  loaded-is = opened-loaded got ∙ loaded-back (outgoing (current_net s)) sent

  current-is : current_net (opened got) ≡ outgoing (current_net s)
  unfolding outgoing
  current-is = opened-current got ∙ current-back (outgoing (current_net s)) sent

  again-is : blif_text (opened got) ≡ blif_text s
  unfolding blif_text
  again-is = ap (λ (N : Net). text (lines_of (outgoing N))) current-is ∙ ap (λ (N : Net). text (lines_of N)) (outgoing-twice (current_net s) fine.outs)

  returns : Returns s
  returns = record { session = opened got; reads = reads-open; loaded = loaded-is; current = current-is; again = again-is }

pub blif-trip : BlifTrip
blif-trip s valid room = (returns s valid room, survives (current_net s) (fine s valid room).outs)
