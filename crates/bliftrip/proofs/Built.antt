-- The lines of a network, read back one by one: the draft gate after gate. Assumes nothing.
use mathlib.Core.Path.{◌≡◌, refl, sym, ap, ap₂, ◌∙◌, subst}
use mathlib.Core.Bool.{true}
use mathlib.Core.List.{List, [], ◌∷◌, ◌++◌, map, append_assoc}
use Prim.Native.Nat.{ℕ, zero, suc, ◌+◌, ◌≤◌, ◌<◌}
use native.Mathlib.Omega.{arith}
use lib.ListN.{length, get_or, replicate, length-map}
use Rattle.bits.specs.Bounds.{most_inputs}
use Rattle.bits.specs.Range.{up_from}
use Rattle.bits.proofs.Ranges.{lt-cases, map_snoc, up-places}
use Rattle.std.specs.Prelude.{Ok}
use Rattle.network.specs.Answer.{Answer, Done, onward}
use Rattle.network.specs.declared.Session.{Session}
use Rattle.network.specs.Bounds.{most_gates, most_outputs, most_signals, excluded_words}
use Rattle.network.specs.Net.{Net, arity, gate}
use Rattle.network.specs.Tests.{first}
use Rattle.network.specs.Load.{with_gate}
use Rattle.network.specs.Valid.{Sized}
use Rattle.network.proofs.TestLaws.{clear-i, count-i}
use Rattle.network.proofs.Slots.{sized-started, sized-gate, GateIs, gate-new, gate-kept}
use Rattle.text.specs.Ascii.{ascii}
use Rattle.text.specs.Words.{Text, all}
use Rattle.blif.specs.Read.{place_in, Draft, counted, end_tests, finished, with_outputs, read_blocks, names_tests, begun, read_outputs, read_inputs, read_model}
use Rattle.blif.specs.Write.{name, block_lines, blocks_lines, lines_of}
use Rattle.bliftrip.proofs.Names.{Small, Different, below, length-below, below-different, below-small, clean, names-clean, line-native, no-repeat, places-below, all_known}
use Rattle.bliftrip.proofs.Blocks.{GateFine, sized-counted, laid_gate, block_back}

-- what a text asks of a network
pub record Writable (N : Net) : Type 0 where
  pub ins-some : 1 ≤ N.inputs
  pub ins-few : N.inputs ≤ most_inputs
  pub gates-some : 1 ≤ length N.gates
  pub gates-few : length N.gates ≤ most_gates
  pub outs-some : 1 ≤ length N.outputs
  pub outs-few : length N.outputs ≤ most_outputs
  pub each : (g : ℕ) → g < length N.gates → GateFine (N.inputs + g) (gate N (N.inputs + g))
  pub output : (i : ℕ) → i < length N.outputs → get_or N.outputs i 0 < N.inputs + length N.gates
  pub apart : Different N.outputs

-- ## The draft, gate after gate

abbrev pub built : Net → ℕ → Draft
built N zero = begun (map name (up_from 0 N.inputs)) (map name N.outputs)
built N (suc g) = laid_gate (built N g) (N.inputs + g) (gate N (N.inputs + g))

-- gate i stands in the session as it is in N
abbrev pub GateThere : Net → Session → ℕ → Type 0
GateThere N t i =
    let G = gate N (N.inputs + i) in
    GateIs (arity G) G.fanins G.table G.table t i

pub record Built (N : Net) (d : Draft) (g : ℕ) : Type 0 where
  pub signals-are : d.signals ≡ map name (below (N.inputs + g))
  pub outputs-are : d.outputs ≡ map name N.outputs
  pub n-is : d.session.n ≡ N.inputs
  pub m-is : d.session.m ≡ g
  pub p-is : d.session.p ≡ length N.outputs
  pub free : d.session.excluded ≡ replicate excluded_words 0
  pub sized : Sized d.session
  pub there : (i : ℕ) → i < g → GateThere N d.session i

module _ (N : Net) (w : Writable N) where
  built-step : (d : Draft) (g : ℕ) → g < length N.gates → Built N d g → Built N (laid_gate d (N.inputs + g) (gate N (N.inputs + g))) (suc g)
  built-step d g h b =
      let t = d.session in
      let t' = counted t (t.m + 1) in
      let G = gate N (N.inputs + g) in
      let k = arity G in
      let fs = G.fanins in
      let fine = w.each g h in
      let e = b.m-is in
      let lim = w.gates-few in
      let few = fine.few in
      let z = sized-counted t (t.m + 1) b.sized in
      record {
        signals-are =
            let q : N.inputs + suc g ≡ suc (N.inputs + g) = omega arith in
            rw q (ap (λ (l : List Text). l ++ name (N.inputs + g) ∷ []) b.signals-are ∙ sym (map_snoc name (below (N.inputs + g)) (N.inputs + g)));
        outputs-are = b.outputs-are;
        n-is = b.n-is;
        m-is = omega arith;
        p-is = b.p-is;
        free = b.free;
        sized = sized-gate t' t.m k fs G.table z;
        there = λ i l.
            lt-cases i g l
            (λ x.
            let H = gate N (N.inputs + i) in
            let v = b.there i x in
            let a = (w.each i (omega arith)).few in
            gate-kept t' t.m k fs G.table (arity H) H.fanins H.table H.table i (omega arith) (omega arith)
            (record { arity-is = v.arity-is; fanins-are = v.fanins-are; loaded-is = v.loaded-is; current-is = v.current-is }))
            (λ x.
            rw x (subst (GateIs k fs G.table G.table (with_gate t' t.m k fs G.table)) e
            (gate-new t' t.m k fs G.table z (omega arith) refl (omega arith))));
      }

  built-is : (g : ℕ) → g ≤ length N.gates → Built N (built N g) g
  built-is zero h = record {
    signals-are = let q : N.inputs + 0 ≡ N.inputs = omega arith in rw (q, up-places N.inputs);
    outputs-are = refl;
    n-is = length-map (up_from 0 N.inputs) name ∙ ap length (up-places N.inputs) ∙ length-below N.inputs;
    m-is = refl;
    p-is = length-map N.outputs name;
    free = refl;
    sized = sized-started (length (map name (up_from 0 N.inputs))) 0 (length (map name N.outputs)) (replicate excluded_words 0) refl;
    there = λ i l. let z : ⊥ = omega arith in absurd z;
  }
  built-is (suc g) h = built-step (built N g) g (omega arith) (built-is g (omega arith))

  blocks-back : (g : ℕ) (rest : List (List Text)) → g ≤ length N.gates → read_blocks (built N zero) (blocks_lines N g ++ rest) ≡ read_blocks (built N g) rest
  blocks-back zero rest h = refl
  blocks-back (suc g) rest h =
      let s = N.inputs + g in
      let G = gate N s in
      let b = built-is g (omega arith) in
      let e = b.m-is in
      let lim = w.gates-few in
      let ins = w.ins-few in
      ap (read_blocks (built N zero)) (append_assoc (blocks_lines N g) (block_lines G s) rest)
      ∙ blocks-back g (block_lines G s ++ rest) (omega arith)
      ∙ block_back (built N g) s G rest b.signals-are (omega arith) b.sized (omega arith) (w.each g (omega arith))

  -- ## `.end`

  most : N.inputs + length N.gates ≤ most_signals
  most = let a = w.ins-few in let b = w.gates-few in omega arith

  abbrev pub whole : Draft
  whole = built N (length N.gates)

  pub whole_is : Built N whole (length N.gates)
  whole_is = built-is (length N.gates) (omega arith)

  end_back : read_blocks whole ((ascii ".end" ∷ []) ∷ []) ≡ Ok (finished whole)
  unfolding read_blocks
  end_back =
      let b = whole_is in
      let e = b.m-is in
      let k : first (end_tests whole (ascii ".end" ∷ [])) ≡ Done =
      clear-i (end_tests whole (ascii ".end" ∷ [])) (
        refl,
        (
          rw (b.signals-are, b.outputs-are, all_known (N.inputs + length N.gates) most N.outputs w.output),
          (rw e (count-i most_gates (length N.gates) w.gates-some w.gates-few), tt),
        ),
      ) in
      ap (λ (a : Answer). onward a (Ok (finished whole))) k

  -- the session that is read
  abbrev pub read_session : Session
  read_session = with_outputs whole.session N.outputs

  finished-is : finished whole ≡ read_session
  finished-is =
      let b = whole_is in
      ap (with_outputs whole.session)
      (ap₂ (λ (ss os : List Text). map (place_in ss) os) b.signals-are b.outputs-are ∙ places-below (N.inputs + length N.gates) most N.outputs w.output)

  -- ## The first three lines

  pub small : Small N.outputs
  small i h = let q = w.output i h in let m = most in omega arith

  pub ins-small : Small (below N.inputs)
  ins-small = below-small N.inputs (let a = w.ins-few in omega arith)

  pub ins-clean : all clean (ascii ".inputs" ∷ map name (up_from 0 N.inputs)) ≡ true
  ins-clean = rw (up-places N.inputs) (names-clean (below N.inputs) ins-small)

  inputs-tests : first (names_tests (ascii ".inputs") most_inputs (ascii ".inputs" ∷ map name (up_from 0 N.inputs))) ≡ Done
  inputs-tests =
      let line = ascii ".inputs" ∷ map name (up_from 0 N.inputs) in
      let n : length (map name (up_from 0 N.inputs)) ≡ N.inputs = length-map (up_from 0 N.inputs) name ∙ ap length (up-places N.inputs) ∙ length-below N.inputs in
      clear-i (names_tests (ascii ".inputs") most_inputs line) (
        rw (line-native line ins-clean),
        (
          rw (up-places N.inputs, no-repeat (below N.inputs) ins-small (below-different N.inputs)),
          (rw n (count-i most_inputs N.inputs w.ins-some w.ins-few), tt),
        ),
      )

  pub outs-clean : all clean (ascii ".outputs" ∷ map name N.outputs) ≡ true
  outs-clean = names-clean N.outputs small

  outputs-tests : first (names_tests (ascii ".outputs") most_outputs (ascii ".outputs" ∷ map name N.outputs)) ≡ Done
  outputs-tests =
      let line = ascii ".outputs" ∷ map name N.outputs in
      clear-i (names_tests (ascii ".outputs") most_outputs line) (
        rw (line-native line outs-clean),
        (
          rw (no-repeat N.outputs small w.apart),
          (rw (length-map N.outputs name) (count-i most_outputs (length N.outputs) w.outs-some w.outs-few), tt),
        ),
      )

  pub lines-back : read_model (lines_of N) ≡ Ok read_session
  unfolding read_model read_inputs read_outputs lines_of
  lines-back =
      rw (inputs-tests, outputs-tests)
      (blocks-back (length N.gates) ((ascii ".end" ∷ []) ∷ []) (omega arith) ∙ end_back ∙ ap Ok finished-is)
