-- No text that goes out is longer than most_blif_bytes. Assumes nothing.
use mathlib.Core.Path.{◌≡◌, ap, ◌∙◌}
use mathlib.Core.Bool.{Bool, true, false, cond}
use mathlib.Core.List.{List, [], ◌∷◌, ◌++◌, map}
use Prim.Native.Nat.{ℕ, zero, suc, ◌+◌, ◌*◌, ◌^◌, ◌≤◌, ◌<◌}
use native.Mathlib.Omega.{arith}
use lib.ListN.{length, length-append}
use lib.Pow.{pow_mono}
use borrow.Author.Tests.{le-ltb}
use Rattle.bits.specs.Range.{num, up_from}
use Rattle.bits.specs.Bit.{bit}
use Rattle.bits.proofs.Ranges.{length-places, up-places}
use Rattle.network.specs.Bounds.{most_fanins, most_signals, most_entries}
use Rattle.network.specs.Net.{Gate, Net, arity, gate}
use Rattle.network.specs.Flat.{current_net}
use Rattle.text.specs.Ascii.{ascii}
use Rattle.text.specs.Words.{Text}
use Rattle.blif.specs.Text.{spaced, text}
use Rattle.blif.proofs.Printed.{text-append}
use Rattle.blif.specs.Write.{name, marks, rows_in, block_lines, blocks_lines, outgoing, lines_of, blif_text, write_blif_of, most_block_bytes, most_blif_bytes}
use Rattle.bliftrip.specs.Trip.{BlifLength, BlifRoom}
use Rattle.bliftrip.proofs.Names.{Small, name-length, length-below}
use Rattle.bliftrip.proofs.Blocks.{GateFine, row_line}
use Rattle.bliftrip.proofs.Built.{Writable, small, ins-small}
use Rattle.bliftrip.proofs.Trip.{sent}

-- ## Lines

-- the words, each with the space or newline behind it
abbrev room : List Text → ℕ
room [] = 0
room (w ∷ ws) = suc (length w) + room ws

spaced-length : (w : Text) (ws : List Text) → suc (length (spaced (w ∷ ws))) ≡ room (w ∷ ws)
spaced-length w [] = omega arith
spaced-length w (v ∷ ws) = let h = spaced-length v ws in let a = length-append w (0x20 ∷ spaced (v ∷ ws)) in omega arith

-- a line in front
text-line : (w : Text) (ws : List Text) (ss : List (List Text)) → length (text ((w ∷ ws) ∷ ss)) ≡ room (w ∷ ws) + length (text ss)
text-line w ws ss = let h = spaced-length w ws in let a = length-append (spaced (w ∷ ws)) (0x0A ∷ text ss) in omega arith

text-length : (rs ss : List (List Text)) → length (text (rs ++ ss)) ≡ length (text rs) + length (text ss)
text-length rs ss = ap length (text-append rs ss) ∙ length-append (text rs) (text ss)

room-append : (us vs : List Text) → room (us ++ vs) ≡ room us + room vs
room-append [] vs = omega arith
room-append (u ∷ us) vs = let h = room-append us vs in omega arith

names-room : (l : List ℕ) → Small l → room (map name l) ≤ 4 * length l
names-room [] s = omega arith
names-room (x ∷ l) s = let h = names-room l (λ i h. s (suc i) (omega arith)) in let a = name-length x (s 0 (omega arith)) in omega arith

-- ## Blocks

row_room : (G : Gate) (T : ℕ) (b : Bool) → arity G ≤ most_fanins → length (text (cond b (row_line (arity G) T ∷ []) [])) ≤ most_fanins + 3
row_room G T true h =
    let n = length-places (arity G) (λ r. 0x30 + num (bit T r)) in
    let t = text-line (marks (arity G) T) (ascii "1" ∷ []) [] in
    omega arith
row_room G T false h = omega arith

rows-room : (G : Gate) (T : ℕ) → arity G ≤ most_fanins → length (text (rows_in G T)) ≤ T * (most_fanins + 3)
rows-room G zero h = omega arith
rows-room G (suc T) h =
    let l = cond (bit G.table T) (row_line (arity G) T ∷ []) [] in
    let a = text-length (rows_in G T) l in
    let b = row_room G T (bit G.table T) h in
    let c = rows-room G T h in
    omega arith

block_room : (G : Gate) (s : ℕ) → s < most_signals → GateFine s G → length (text (block_lines G s)) ≤ most_block_bytes
block_room G s low fine =
    let h = fine.few in
    let fs = map name G.fanins in
    let t = text-line (ascii ".names") (fs ++ name s ∷ []) (rows_in G (2 ^ arity G)) in
    let a = room-append fs (name s ∷ []) in
    let b = names-room G.fanins (λ i l. let q = fine.early i l in omega arith) in
    let c = name-length s low in
    let d = rows-room G (2 ^ arity G) h in
    let e : 2 ^ arity G ≤ most_entries = pow_mono {j = most_fanins} h in
    omega arith

module _ (N : Net) (w : Writable N) where
  blocks-room : (g : ℕ) → g ≤ length N.gates → length (text (blocks_lines N g)) ≤ g * most_block_bytes
  blocks-room zero h = omega arith
  blocks-room (suc g) h =
      let s = N.inputs + g in
      let a = text-length (blocks_lines N g) (block_lines (gate N s) s) in
      let most = w.gates-few in
      let ins = w.ins-few in
      let b = block_room (gate N s) s (omega arith) (w.each g (omega arith)) in
      let c = blocks-room g (omega arith) in
      omega arith

  text-room : length (text (lines_of N)) ≤ most_blif_bytes
  unfolding lines_of
  text-room =
      let m = length N.gates in
      let ins = map name (up_from 0 N.inputs) in
      let outs = map name N.outputs in
      let end : List (List Text) = (ascii ".end" ∷ []) ∷ [] in
      let blocks = blocks_lines N m in
      let t1 = text-line (ascii ".model") (ascii "s" ∷ []) ((ascii ".inputs" ∷ ins) ∷ (ascii ".outputs" ∷ outs) ∷ blocks ++ end) in
      let t2 = text-line (ascii ".inputs") ins ((ascii ".outputs" ∷ outs) ∷ blocks ++ end) in
      let t3 = text-line (ascii ".outputs") outs (blocks ++ end) in
      let t4 = text-length blocks end in
      let b = blocks-room m (omega arith) in
      let n : length (up_from 0 N.inputs) ≡ N.inputs = ap length (up-places N.inputs) ∙ length-below N.inputs in
      let i : room ins ≤ 4 * length (up_from 0 N.inputs) = names-room (up_from 0 N.inputs) (rw (up-places N.inputs) (ins-small N w)) in
      let o = names-room N.outputs (small N w) in
      let x = w.ins-few in
      let y = w.gates-few in
      let z = w.outs-few in
      omega arith

pub blif-length : BlifLength
unfolding blif_text
blif-length s valid copies = text-room (outgoing (current_net s)) (sent s valid copies)

pub blif-room : BlifRoom
unfolding write_blif_of
blif-room s buffer valid copies h = rw (valid, copies, le-ltb (length buffer) (length (blif_text s)) h)
