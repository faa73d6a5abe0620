-- What has been read of a text passes 3 to 7, line after line. Assumes nothing.
use mathlib.Core.Path.{◌≡◌, refl, ap, ◌∙◌}
use mathlib.Core.Bool.{Bool, true, false, not, cond, ◌||◌}
use mathlib.Core.List.{List, [], ◌∷◌, ◌++◌}
use Prim.Native.Nat.{ℕ, ◌+◌, ◌-◌, ◌^◌, ◌≤◌, ◌<◌}
use native.Mathlib.Omega.{arith}
use native.Mathlib.Decide.{ℕ_discrete}
use lib.Dec.{leb}
use lib.Pow.{pow_pos}
use lib.ListN.{length, get_or, set, replicate, length-append, length-set, length-drop}
use lib.Seq.{get_or-set_same, get_or-set_other}
use borrow.Author.Tests.{not-false, leb-true}
use Rattle.bits.specs.Bounds.{most_inputs}
use Rattle.bits.proofs.Ranges.{and_l, lt-cases, or-false}
use Rattle.network.specs.Answer.{Done}
use Rattle.network.specs.declared.Session.{Session}
use Rattle.network.specs.declared.Refusal.TheVariants.{OutsideSubset, BadName}
use Rattle.network.specs.Bounds.{most_gates, most_outputs, most_fanins, excluded_words}
use Rattle.network.specs.Tests.{refuse_if, first, count_test, fanins_test, width_test}
use Rattle.network.specs.State.{arity_of, fanins_of}
use Rattle.network.specs.Valid.{Sized}
use Rattle.network.specs.Load.{with_gate}
use Rattle.network.proofs.TestLaws.{passed, kept, clear-e, count-e, width-i}
use Rattle.network.proofs.Valid.{GateValid}
use Rattle.network.proofs.Slots.{sized-gate, gate-new, gate-kept}
use Rattle.network.proofs.Reached.{gate-valid}
use Rattle.text.specs.Ascii.{ascii}
use Rattle.text.specs.Words.{Text, all}
use Rattle.blif.specs.Cover.{cover_table}
use Rattle.blif.specs.Read.{opens, names, known, repeats, fanin_names, own_names, Draft, misnamed, block_tests, counted, with_block, last_arity, is_row, with_table, with_row, line_test, with_line}
use Rattle.bliftrip.proofs.Covers.{cover-lt}
use Rattle.bliftrip.proofs.Blocks.{sized-counted}
use Rattle.bliftrip.proofs.Places.{fanins-i, places_of, length-fanins, places-in, places-apart}
use Rattle.bliftrip.proofs.Tidy.{Tidy, tidy-gate}

-- ## What holds of all that has been read

pub record Drafted (d : Draft) : Type 0 where
  pub inputs : count_test most_inputs d.session.n ≡ Done
  pub outs : count_test most_outputs d.session.p ≡ Done
  pub few : d.session.m ≤ most_gates
  pub free : d.session.excluded ≡ replicate excluded_words 0
  pub gate : (i : ℕ) → i < d.session.m → GateValid d.session i
  pub sized : Sized d.session
  pub same_tables : d.session.current ≡ d.session.loaded
  -- the names are those of the signals, and of the outputs
  pub named : length d.signals ≡ d.session.n + d.session.m
  pub listed : length d.outputs ≡ d.session.p
  pub tidy : Tidy d.session d.session.m 0

-- ## A block

block-drafted : (d : Draft) (line : List Text) → Drafted d → first (block_tests d line) ≡ Done → Drafted (with_block d line)
block-drafted d line s h =
    let t = d.session in
    let g = t.m in
    let ws = names line in
    let vs = d.signals in
    let c = clear-e (block_tests d line) h in
    let mis = or-false (not (all (known vs) (fanin_names ws))) (not (all (λ w. not (known vs w)) (own_names ws)) || repeats ws) (passed (misnamed vs ws) BadName c.1.0) in
    let there = not-false (all (known vs) (fanin_names ws)) mis.0 in
    let once = (or-false (not (all (λ w. not (known vs w)) (own_names ws))) (repeats ws) mis.1).1 in
    let kb = count-e most_fanins (length ws - 1) c.1.1.0 in
    let mb = count-e most_gates (g + 1) c.1.1.1.0 in
    let fs = places_of vs ws there once in
    let len = length-fanins vs ws there once in
    let k = length fs in
    let t' = counted t (g + 1) in
    let u = with_gate t' g k fs 0 in
    let z = sized-counted t (g + 1) s.sized in
    let nm = s.named in
    let fine : fanins_test (t.n + g) fs ≡ Done = rw nm at (fanins-i (length vs) fs (places-in vs ws there once) (places-apart vs ws there once)) in
    let w : width_test (2 ^ k) 0 ≡ Done = width-i (2 ^ k) 0 (pow_pos (2 ^ k)) in
    let a : count_test most_fanins k ≡ Done = rw len c.1.1.0 in
    record {
      inputs = s.inputs;
      outs = s.outs;
      few = mb.1;
      free = s.free;
      gate = λ i l.
          lt-cases i g (omega arith)
          (λ x.
          let v = s.gate i x in
          let ab = count-e most_fanins (arity_of t i) v.arity-fine in
          gate-valid u i (arity_of t i) (fanins_of t i) (get_or t.loaded i 0) (get_or t.current i 0)
          (gate-kept t' g k fs 0 (arity_of t i) (fanins_of t i) (get_or t.loaded i 0) (get_or t.current i 0) i (omega arith) x
          (record { arity-is = refl; fanins-are = refl; loaded-is = refl; current-is = refl }))
          v.arity-fine v.fanins-fine v.loaded-fine v.current-fine)
          (λ x. rw x (gate-valid u g k fs 0 0 (gate-new t' g k fs 0 z (omega arith) refl (omega arith)) a fine w w));
      sized = sized-gate t' g k fs 0 z;
      same_tables = ap (λ (l : List ℕ). set l g 0) s.same_tables;
      named =
          let x = length-append vs (own_names ws) in
          let y = length-drop (length ws - 1) ws in
          omega arith;
      listed = s.listed;
      tidy = tidy-gate t' g k fs 0 z (omega arith) refl (omega arith) (record { arities = s.tidy.arities; slots = s.tidy.slots; tables = s.tidy.tables; outs = s.tidy.outs });
    }

-- ## A row

row-drafted : (d : Draft) (line : List Text) → Drafted d → is_row d line ≡ true → Drafted (with_row d line)
row-drafted d line s h =
    let t = d.session in
    let g = t.m - 1 in
    let some = leb-true 1 t.m (and_l (leb 1 t.m) _ h) in
    let few = s.few in
    let rows = d.rows ++ get_or line 0 [] ∷ [] in
    let x = cover_table (last_arity t) rows (get_or (get_or line 1 []) 0 0) in
    let w : width_test (2 ^ arity_of t g) x ≡ Done = width-i (2 ^ arity_of t g) x (cover-lt (last_arity t) rows (get_or (get_or line 1 []) 0 0)) in
    let ll = s.sized.loads in
    let cl = s.sized.currents in
    record {
      inputs = s.inputs;
      outs = s.outs;
      few = s.few;
      free = s.free;
      gate = λ i l. row-gate t i x (s.gate i l) w (ℕ_discrete i g) (omega arith) (omega arith);
      sized = record {
        words = s.sized.words;
        arities = s.sized.arities;
        slots = s.sized.slots;
        loads = length-set t.loaded g x ∙ s.sized.loads;
        currents = length-set t.current g x ∙ s.sized.currents;
        opens = s.sized.opens;
        outs = s.sized.outs;
      };
      same_tables = ap (λ (l : List ℕ). set l g x) s.same_tables;
      named = s.named;
      listed = s.listed;
      tidy = record {
        arities = s.tidy.arities;
        slots = s.tidy.slots;
        tables = λ i l. get_or-set_other t.loaded g i x 0 (λ e. omega arith) ∙ s.tidy.tables i l;
        outs = s.tidy.outs;
      };
    }
  where
    row-gate : (t : Session) (i x : ℕ) → GateValid t i → width_test (2 ^ arity_of t (t.m - 1)) x ≡ Done → Dec (i ≡ t.m - 1)
        → t.m - 1 < length t.loaded → t.m - 1 < length t.current → GateValid (with_table t (t.m - 1) x) i
    row-gate t i x v w (yes e) a b = record {
      arity-fine = v.arity-fine;
      fanins-fine = v.fanins-fine;
      loaded-fine = rw (e, get_or-set_same t.loaded (t.m - 1) x 0 a) w;
      current-fine = rw (e, get_or-set_same t.current (t.m - 1) x 0 b) w;
    }
    row-gate t i x v w (no e) a b = record {
      arity-fine = v.arity-fine;
      fanins-fine = v.fanins-fine;
      loaded-fine = rw (get_or-set_other t.loaded (t.m - 1) i x 0 e) v.loaded-fine;
      current-fine = rw (get_or-set_other t.current (t.m - 1) i x 0 e) v.current-fine;
    }

pub line-drafted : (d : Draft) (line : List Text) → Drafted d → line_test d line ≡ Done → Drafted (with_line d line)
line-drafted d line s h = go (opens (ascii ".names") line) h
  where
    go : (b : Bool) → cond b (first (block_tests d line)) (refuse_if (not (is_row d line)) OutsideSubset) ≡ Done → Drafted (cond b (with_block d line) (with_row d line))
    go true e = block-drafted d line s e
    go false e = row-drafted d line s (kept (is_row d line) OutsideSubset e)
