-- The pieces that are laid are the text of the network's lines; what the call leaves, by its tests. Assumes nothing.
use mathlib.Core.Path.{◌≡◌, refl, sym, ap, ◌∙◌}
use mathlib.Core.Bool.{Bool, true, false, cond}
use mathlib.Core.List.{List, [], ◌∷◌, ◌++◌, map, append_assoc, append-nil}
use Prim.Native.Nat.{ℕ, zero, suc, ◌+◌, ◌-◌, ◌^◌, ◌≤◌, ◌<◌}
use native.Mathlib.Omega.{arith}
use lib.ListN.{length, get_or}
use borrow.Author.Tests.{lt-ltb, le-ltb}
use Rattle.bits.specs.Lists.{overwritten}
use Rattle.bits.specs.Range.{places, up_from}
use Rattle.bits.specs.Bit.{bit}
use Rattle.bits.proofs.Ranges.{length-places, map_snoc, up-places}
use Rattle.buffer.specs.Laid.{Laid}
use Rattle.std.specs.Prelude.{Ok, Err}
use Rattle.network.specs.Answer.{Done}
use Rattle.network.specs.declared.Session.{Session}
use Rattle.network.specs.declared.Refusal.{Refusal}
use Rattle.network.specs.declared.Refusal.TheVariants.{BufferTooShort}
use Rattle.network.specs.Net.{Gate, Net, arity, gate}
use Rattle.network.specs.Flat.{gate_at, net_of, current_net}
use Rattle.network.specs.State.{arity_of, state_fault}
use Rattle.network.proofs.Valid.{state-i}
use Rattle.network.proofs.Exchanges.{net-length, net-gate}
use Rattle.text.specs.Ascii.{ascii}
use Rattle.text.specs.Words.{Text}
use Rattle.blif.specs.Text.{spaced, text}
use Rattle.blif.proofs.Printed.{text-append}
use Rattle.blif.specs.Write.{name, marks, rows_in, block_lines, blocks_lines, lines_of, outgoing, blif_text, copies_test, write_blif_of, most_blif_bytes}
use Rattle.blifcopies.specs.Ready.{fanin_at, Ready}
use Rattle.blifwrite.specs.Pieces.{name_bytes, names_bytes, row_bytes, entry_bytes, cover_bytes, opening_bytes, block_bytes, blocks_bytes, head_bytes, text_bytes}
use Rattle.blifwrite.proofs.Pieces.{length-text}

-- ## Lines

-- words behind another
abbrev further : List Text → Text
further [] = []
further (w ∷ ws) = (0x20 ∷ w) ++ further ws

spaced-word : (w : Text) (ws : List Text) → spaced (w ∷ ws) ≡ w ++ further ws
spaced-word w [] = sym (append-nil w)
spaced-word w (v ∷ ws) = ap (λ (l : Text). w ++ 0x20 ∷ l) (spaced-word v ws)

further-append : (a b : List Text) → further (a ++ b) ≡ further a ++ further b
further-append [] b = refl
further-append (w ∷ a) b = rw (further-append a b) (sym (append_assoc (0x20 ∷ w) (further a) (further b)))

further-name : (x : ℕ) → further (name x ∷ []) ≡ name_bytes x
unfolding name_bytes
further-name x = append-nil (0x20 ∷ name x)

further-names : (c : ℕ) (f : ℕ → ℕ) → further (map name (places c f)) ≡ names_bytes c f
further-names zero f = refl
further-names (suc c) f =
    ap further (map_snoc name (places c f) (f c))
    ∙ further-append (map name (places c f)) (name (f c) ∷ [])
    ∙ rw (further-names c f, further-name (f c))

-- ## Covers and blocks

row-text : (k t : ℕ) → text ((marks k t ∷ ascii "1" ∷ []) ∷ []) ≡ row_bytes k t
unfolding row_bytes
row-text k t = append_assoc (marks k t) (0x20 ∷ 0x31 ∷ []) (0x0A ∷ [])

entry-text : (k table t : ℕ) (b : Bool) → text (cond b ((marks k t ∷ ascii "1" ∷ []) ∷ []) []) ≡ cond b (row_bytes k t) []
entry-text k table t true = row-text k t
entry-text k table t false = refl

cover-text : (g : Gate) (t : ℕ) → text (rows_in g t) ≡ cover_bytes (arity g) g.table t
unfolding entry_bytes
cover-text g zero = refl
cover-text g (suc t) =
    text-append (rows_in g t) (cond (bit g.table t) ((marks (arity g) t ∷ ascii "1" ∷ []) ∷ []) [])
    ∙ rw (cover-text g t, entry-text (arity g) g.table t (bit g.table t))

regroup : (a b c d e : Text) → (a ++ (b ++ c)) ++ (d ++ e) ≡ (((a ++ b) ++ c) ++ d) ++ e
regroup a b c d e = simp append_assoc

block-text : (k : ℕ) (f : ℕ → ℕ) (table x : ℕ)
    → text (block_lines (record { fanins = places k f; table = table }) x) ≡ opening_bytes k f x ++ cover_bytes k table (2 ^ k)
unfolding opening_bytes
block-text k f table x =
    let g : Gate = record { fanins = places k f; table = table } in
    let n = length-places k f in
    rw (spaced-word (ascii ".names") (map name (places k f) ++ name x ∷ []), further-append (map name (places k f)) (name x ∷ []), further-names k f, further-name x, cover-text g (2 ^ arity g), n)
    (regroup (ascii ".names") (names_bytes k f) (name_bytes x) (0x0A ∷ []) (cover_bytes k table (2 ^ k)))

module _ (s : Session) where
  abbrev N : Net
  N = current_net s

  gate-is : (g : ℕ) → g < s.m → gate N (s.n + g) ≡ record { fanins = places (arity_of s g) (fanin_at s g); table = get_or s.current g 0 }
  unfolding current_net gate_at
  gate-is g h =
      let q : s.n + g - s.n ≡ g = omega arith in
      net-gate s s.current (s.n + g) (omega arith) (omega arith) ∙ rw q

  blocks-text : (g : ℕ) → g ≤ s.m → text (blocks_lines N g) ≡ blocks_bytes s g
  unfolding current_net net_of block_bytes
  blocks-text zero h = refl
  blocks-text (suc g) h =
      let b = block-text (arity_of s g) (fanin_at s g) (get_or s.current g 0) (s.n + g) in
      text-append (blocks_lines N g) (block_lines (gate N (s.n + g)) (s.n + g))
      ∙ ap (λ (t : Text). t ++ text (block_lines (gate N (s.n + g)) (s.n + g))) (blocks-text g (omega arith))
      ∙ ap (λ (t : Text). blocks_bytes s g ++ t) (ap (λ (b : Gate). text (block_lines b (s.n + g))) (gate-is g (omega arith)) ∙ b)

gather : (p i a n o b k e : Text)
    → p ++ ((i ++ a) ++ (n ++ ((o ++ b) ++ (n ++ (k ++ e))))) ≡ ((((((p ++ i) ++ a) ++ (n ++ o)) ++ b) ++ n) ++ k) ++ e
gather p i a n o b k e = simp append_assoc

-- the text
text-is : (s : Session) → text (lines_of (current_net s)) ≡ text_bytes s
unfolding current_net net_of lines_of head_bytes text_bytes
text-is s =
    let outs : ℕ → ℕ = λ i. get_or s.outputs i 0 in
    let n = net-length s s.current in
    rw (
      spaced-word (ascii ".inputs") (map name (up_from 0 s.n)),
      spaced-word (ascii ".outputs") (map name (places s.p outs)),
      up-places s.n,
      further-names s.n (λ i. i),
      further-names s.p outs,
      n,
      text-append (blocks_lines (current_net s) s.m) ((ascii ".end" ∷ []) ∷ []),
      blocks-text s s.m (omega arith),
    )
    (gather (ascii ".model s\n") (ascii ".inputs") (names_bytes s.n (λ i. i)) (0x0A ∷ []) (ascii ".outputs") (names_bytes s.p outs) (blocks_bytes s s.m) (ascii ".end\n"))

-- of the network that goes out
pub blif-laid : {b b₁ : List ℕ} {r : ℕ} (s t : Session) → Ready t → current_net t ≡ outgoing (current_net s) → Laid b 0 (text_bytes t) b₁ r
    → Laid b 0 (blif_text s) b₁ r × (length (blif_text s) ≤ most_blif_bytes)
unfolding blif_text
blif-laid s t v e l = let q : text_bytes t ≡ text (lines_of (outgoing (current_net s))) = rw (← e) (sym (text-is t)) in (rw q at l, rw q at (length-text t v))

-- ## The call

module _ (s : Session) (buffer : List ℕ) (v : state_fault s ≡ Done) where
  pub written-copies : (r : Refusal) → copies_test s ≡ Err r → write_blif_of s buffer ≡ record { answer = Err r; buffer = buffer }
  unfolding write_blif_of
  written-copies r e = rw (state-i s v, e)

  pub written-short : copies_test s ≡ Done → length buffer < length (blif_text s)
      → write_blif_of s buffer ≡ record { answer = Err BufferTooShort; buffer = buffer }
  unfolding write_blif_of
  written-short e h = rw (state-i s v, e, lt-ltb (length buffer) (length (blif_text s)) h)

  pub written-done : copies_test s ≡ Done → length (blif_text s) ≤ length buffer
      → write_blif_of s buffer ≡ record { answer = Ok (length (blif_text s)); buffer = overwritten (blif_text s) buffer }
  unfolding write_blif_of
  written-done e h = rw (state-i s v, e, le-ltb (length buffer) (length (blif_text s)) h)
