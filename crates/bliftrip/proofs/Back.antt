-- The text of a network, read back: it is accepted, and holds the network. Assumes nothing.
use mathlib.Core.Path.{◌≡◌, refl, ap, ◌∙◌}
use mathlib.Core.Bool.{Bool, true, false, cond, false≢true}
use mathlib.Core.List.{List, [], ◌∷◌, ◌++◌, map}
use Prim.Native.Nat.{ℕ, zero, suc, ◌+◌, ◌-◌, ◌^◌, ◌≤◌, ◌<◌}
use native.Mathlib.Nat.{zero-add}
use native.Mathlib.Omega.{arith}
use lib.ListN.{length, get_or, replicate}
use lib.Seq.{sets, ext_get_or}
use Rattle.bits.specs.Range.{num, places}
use Rattle.bits.specs.Bit.{bit}
use Rattle.bits.proofs.Ranges.{and_l, and_r, and_i, length-places, places-at, places-ext}
use Rattle.std.specs.Prelude.{Ok}
use Rattle.network.specs.Bounds.{most_signals, excluded_words}
use Rattle.network.specs.Net.{Gate, Net, arity, no_gate, gate}
use Rattle.network.specs.Flat.{gate_at, gates_of, net_of, net_with, loaded_net, current_net}
use Rattle.network.proofs.Slots.{sets-at, places-get}
use Rattle.text.specs.Ascii.{ascii}
use Rattle.text.specs.Words.{Text, all}
use Rattle.blif.specs.Text.{text}
use Rattle.blif.specs.Read.{read_model, read_blif}
use Rattle.blif.specs.Write.{name, marks, rows_in, block_lines, blocks_lines, lines_of}
use Rattle.blif.proofs.Printed.{Lines, statements-text}
use Rattle.bliftrip.proofs.Names.{all_append, plain_byte, clean, name-clean, names-clean, line_plain}
use Rattle.bliftrip.proofs.Built.{Writable, whole, whole_is, read_session, ins-clean, outs-clean, lines-back}
use Rattle.bliftrip.proofs.Blocks.{GateFine, all-places, row_line}

-- ## The text as lines of plain words

abbrev clean_line : List Text → Bool
clean_line [] = false
clean_line (w ∷ ws) = all clean (w ∷ ws)

lines-plain : (ss : List (List Text)) → all clean_line ss ≡ true → Lines ss
lines-plain [] h = tt
lines-plain ([] ∷ ss) h = absurd (false≢true h)
lines-plain ((w ∷ ws) ∷ ss) h =
    let a = and_l (all clean (w ∷ ws)) (all clean_line ss) h in
    let p = line_plain (w ∷ ws) a in
    (p.0, p.1, lines-plain ss (and_r (all clean (w ∷ ws)) (all clean_line ss) h))

clean-i : (w : Text) → 1 ≤ length w → all plain_byte w ≡ true → clean w ≡ true
clean-i [] l h = let z : ⊥ = omega arith in absurd z
clean-i (b ∷ bs) l h = h

mark-plain : (b : Bool) → plain_byte (0x30 + num b) ≡ true
mark-plain true = refl
mark-plain false = refl

marks-clean : (k u : ℕ) → 1 ≤ k → clean (marks k u) ≡ true
marks-clean k u h =
    let n = length-places k (λ r. 0x30 + num (bit u r)) in
    clean-i (marks k u) (omega arith) (all-places plain_byte (λ r. 0x30 + num (bit u r)) k (λ r. mark-plain (bit u r)))

rows-clean : (G : Gate) (T : ℕ) → 1 ≤ arity G → all clean_line (rows_in G T) ≡ true
rows-clean G zero h = refl
rows-clean G (suc T) h = all_append clean_line (rows_in G T) (cond (bit G.table T) (row_line (arity G) T ∷ []) []) (rows-clean G T h) (go (bit G.table T))
  where
    go : (b : Bool) → all clean_line (cond b (row_line (arity G) T ∷ []) []) ≡ true
    go true = rw (marks-clean (arity G) T h)
    go false = refl

block-clean : (G : Gate) (s : ℕ) → s < most_signals → GateFine s G → all clean_line (block_lines G s) ≡ true
block-clean G s b fine =
    and_i (all clean (ascii ".names" ∷ map name G.fanins ++ name s ∷ [])) (all clean_line (rows_in G (2 ^ arity G)))
    (all_append clean (map name G.fanins) (name s ∷ []) (names-clean G.fanins (λ i h. let q = fine.early i h in omega arith)) (rw (name-clean s b)))
    (rows-clean G (2 ^ arity G) fine.some)

module _ (N : Net) (w : Writable N) where
  blocks-clean : (g : ℕ) → g ≤ length N.gates → all clean_line (blocks_lines N g) ≡ true
  blocks-clean zero h = refl
  blocks-clean (suc g) h =
      let a = w.ins-few in
      let b = w.gates-few in
      all_append clean_line (blocks_lines N g) (block_lines (gate N (N.inputs + g)) (N.inputs + g)) (blocks-clean g (omega arith))
      (block-clean (gate N (N.inputs + g)) (N.inputs + g) (omega arith) (w.each g (omega arith)))

  lines-clean : all clean_line (lines_of N) ≡ true
  unfolding lines_of
  lines-clean =
      let bs = blocks_lines N (length N.gates) ++ (ascii ".end" ∷ []) ∷ [] in
      rw (ins-clean N w, outs-clean N w) (all_append clean_line (blocks_lines N (length N.gates)) ((ascii ".end" ∷ []) ∷ []) (blocks-clean (length N.gates) (omega arith)) refl)

  -- what is written is accepted, and read as this session
  pub text-back : read_blif (text (lines_of N)) ≡ Ok (read_session N w)
  unfolding read_blif
  text-back = ap read_model (statements-text (lines_of N) (lines-plain (lines_of N) lines-clean)) ∙ lines-back N w

  -- ## The network that it holds

  gates-get : (l : List Gate) → places (length l) (λ i. get_or l i no_gate) ≡ l
  gates-get l =
      let p : ℕ → Gate = λ i. get_or l i no_gate in
      let n = length-places (length l) p in
      ext_get_or no_gate (places (length l) p) l n (λ i h. places-at no_gate (length l) p i (omega arith))

  net-back : (ts : List ℕ) → ((i : ℕ) → i < length N.gates → get_or ts i 0 ≡ (gate N (N.inputs + i)).table)
      → net_with (read_session N w) ts ≡ record { inputs = N.inputs; excluded = replicate excluded_words 0; gates = N.gates; outputs = N.outputs }
  unfolding net_of gates_of gate_at
  net-back ts same =
      let t = (whole N w).session in
      let b = whole_is N w in
      let m = length N.gates in
      let gs : places m (gate_at t.arity t.fanins ts) ≡ N.gates =
      places-ext m (gate_at t.arity t.fanins ts) (λ i. get_or N.gates i no_gate) (λ i h.
      let q : N.inputs + i - N.inputs ≡ i = omega arith in
      let f = (b.there i h).fanins-are in
      let x = same i h in
      rw (f, x, q)) ∙ gates-get N.gates in
      let few = w.outs-few in
      let r = b.sized.outs in
      let os : places (length N.outputs) (λ i. get_or (sets t.outputs 0 N.outputs) i 0) ≡ N.outputs =
      places-ext (length N.outputs) (λ i. get_or (sets t.outputs 0 N.outputs) i 0) (λ i. get_or N.outputs i 0)
      (λ i h. rw zero-add at (sets-at N.outputs t.outputs 0 i h (omega arith)))
      ∙ places-get N.outputs in
      rw (b.n-is, b.m-is, b.p-is, b.free, gs, os)

  pub loaded-back : loaded_net (read_session N w) ≡ record { inputs = N.inputs; excluded = replicate excluded_words 0; gates = N.gates; outputs = N.outputs }
  unfolding loaded_net
  loaded-back = net-back (whole N w).session.loaded (λ i h. ((whole_is N w).there i h).loaded-is)

  pub current-back : current_net (read_session N w) ≡ record { inputs = N.inputs; excluded = replicate excluded_words 0; gates = N.gates; outputs = N.outputs }
  unfolding current_net
  current-back = net-back (whole N w).session.current (λ i h. ((whole_is N w).there i h).current-is)
