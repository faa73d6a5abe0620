-- A gate's block, read back line by line. Assumes nothing.
use mathlib.Core.Path.{◌≡◌, refl, sym, ap, ap₂, ◌∙◌}
use mathlib.Core.Bool.{Bool, true, false, cond, ◌||◌, false≢true}
use mathlib.Core.List.{List, [], ◌∷◌, ◌++◌, map, append_assoc, append-nil}
use Prim.Native.Nat.{ℕ, zero, suc, ◌+◌, ◌-◌, ◌^◌, ◌≤◌, ◌<◌}
use native.Mathlib.Omega.{arith}
use lib.Dec.{eqb}
use lib.ListN.{length, get_or, length-append, length-map, get_or-append}
use lib.Seq.{take_at, drop_at, get_or_at, get_or-set_same, set-set}
use borrow.Author.Tests.{eq-eqb, ne_eqb, le-leb}
use Rattle.bits.specs.Range.{num, places}
use Rattle.bits.specs.Bit.{bit}
use Rattle.bits.proofs.Ranges.{and_l, lt-cases, length-places, map_snoc}
use Rattle.network.specs.Answer.{Done, onward}
use Rattle.network.specs.declared.Session.{Session}
use Rattle.network.specs.Bounds.{most_gates, most_fanins, most_signals}
use Rattle.network.specs.Net.{Gate, arity}
use Rattle.network.specs.Tests.{first}
use Rattle.network.specs.Load.{with_gate}
use Rattle.network.specs.Valid.{Sized}
use Rattle.network.proofs.TestLaws.{clear-i, count-i}
use Rattle.network.proofs.Earlier.{Below}
use Rattle.text.specs.Ascii.{ascii}
use Rattle.text.specs.Words.{Text, all}
use Rattle.blif.specs.Cover.{is_mark, cover_table}
use Rattle.blif.specs.Read.{same, repeats, fanin_names, own_names, Draft, block_tests, counted, with_block, last_arity, is_row, with_table, with_row, read_blocks}
use Rattle.blif.specs.Write.{name, marks, rows_in, block_lines}
use Rattle.bliftrip.proofs.Names.{Small, Different, below, all_append, clean, name-clean, names-clean, line-native, no-repeat, places-below, all_known, unknown-below}
use Rattle.bliftrip.proofs.Covers.{marks_in, table-back, no_rows}

-- what a text asks of a gate whose signal is e
pub record GateFine (e : ℕ) (g : Gate) : Type 0 where
  pub some : 1 ≤ arity g
  pub few : arity g ≤ most_fanins
  pub early : Below e g
  pub apart : Different g.fanins
  pub fits : g.table < 2 ^ (2 ^ arity g)

-- ## Rows

mark-no-word : (w v : Text) → all is_mark w ≡ true → same w (0x2E ∷ v) ≡ false
mark-no-word [] v h = refl
mark-no-word (b ∷ bs) v h = rw (ne_eqb b 0x2E (λ e. no-dot b e (and_l (is_mark b) (all is_mark bs) h)))
  where
    no-dot : (b : ℕ) → b ≡ 0x2E → is_mark b ≡ true → ⊥
    no-dot b e h = absurd (false≢true (rw e at h))

pub all-places : {A : Type 0} (p : A → Bool) (f : ℕ → A) (n : ℕ) → ((i : ℕ) → p (f i) ≡ true) → all p (places n f) ≡ true
all-places p f zero h = refl
all-places p f (suc n) h = all_append p (places n f) (f n ∷ []) (all-places p f n h) (rw (h n))

mark-is : (b : Bool) → is_mark (0x30 + num b) ≡ true
mark-is true = refl
mark-is false = refl

all-marks : (k u : ℕ) → all is_mark (marks k u) ≡ true
all-marks k u = all-places is_mark (λ r. 0x30 + num (bit u r)) k (λ r. mark-is (bit u r))

abbrev pub row_line : ℕ → ℕ → List Text
row_line k u = marks k u ∷ ascii "1" ∷ []

is-row : (d : Draft) (k u : ℕ) → 1 ≤ d.session.m → last_arity d.session ≡ k → (eqb d.digit 0 || eqb d.digit 0x31) ≡ true → is_row d (row_line k u) ≡ true
is-row d k u a b c = rw (le-leb 1 d.session.m a, eq-eqb (length (marks k u)) (last_arity d.session) (length-places k (λ r. 0x30 + num (bit u r)) ∙ sym b), all-marks k u) c

row_back : (d : Draft) (k u : ℕ) (rest : List (List Text)) → 1 ≤ d.session.m → last_arity d.session ≡ k → (eqb d.digit 0 || eqb d.digit 0x31) ≡ true
    → read_blocks d (row_line k u ∷ rest) ≡ read_blocks (with_row d (row_line k u)) rest
unfolding read_blocks
row_back d k u rest a b c =
    let m = all-marks k u in
    rw (mark-no-word (marks k u) (ascii "end") m, mark-no-word (marks k u) (ascii "names") m, is-row d k u a b c)

-- ## A block with some of its rows

-- the draft with one gate more
abbrev pub laid : Draft → Text → ℕ → List ℕ → ℕ → List Text → ℕ → Draft
laid d w k fs table rows digit = record {
  signals = d.signals ++ w ∷ [];
  outputs = d.outputs;
  session = with_gate (counted d.session (d.session.m + 1)) d.session.m k fs table;
  rows = rows;
  digit = digit;
}

-- the digit of the rows so far
abbrev pub digit_in : ℕ → ℕ → ℕ
digit_in table zero = 0
digit_in table (suc t) = cond (bit table t) 0x31 (digit_in table t)

digit-fits : (table T : ℕ) → ((eqb (digit_in table T) 0 || eqb (digit_in table T) 0x31) ≡ true) × (eqb (digit_in table T) 0x30 ≡ false)
digit-fits table zero = (refl, refl)
digit-fits table (suc T) = go (bit table T) (digit-fits table T)
  where
    go : (b : Bool) → ((eqb (digit_in table T) 0 || eqb (digit_in table T) 0x31) ≡ true) × (eqb (digit_in table T) 0x30 ≡ false)
        → ((eqb (cond b 0x31 (digit_in table T)) 0 || eqb (cond b 0x31 (digit_in table T)) 0x31) ≡ true) × (eqb (cond b 0x31 (digit_in table T)) 0x30 ≡ false)
    go true h = (refl, refl)
    go false h = h

abbrev pub laid_rows : Draft → Text → Gate → ℕ → Draft
laid_rows d w G T = laid d w (arity G) G.fanins (cover_table (arity G) (marks_in (arity G) G.table T) (digit_in G.table T)) (marks_in (arity G) G.table T) (digit_in G.table T)

table-over : (t : Session) (g k : ℕ) (fs : List ℕ) (a b : ℕ) → with_table (with_gate t g k fs a) g b ≡ with_gate t g k fs b
table-over t g k fs a b = rw (set-set t.loaded g a b, set-set t.current g a b)

-- the lengths are those of the session before it
pub sized-counted : (t : Session) (m : ℕ) → Sized t → Sized (counted t m)
sized-counted t m z =
    record { words = z.words; arities = z.arities; slots = z.slots; loads = z.loads; currents = z.currents; opens = z.opens; outs = z.outs }

last-arity : (t : Session) (k : ℕ) (fs : List ℕ) (a : ℕ) → Sized t → t.m < most_gates → last_arity (with_gate (counted t (t.m + 1)) t.m k fs a) ≡ k
last-arity t k fs a r h =
    let q : t.m + 1 - 1 ≡ t.m = omega arith in
    let n = r.arities in
    rw q (get_or-set_same t.arity t.m k 0 (omega arith))

with-row : (d : Draft) (w : Text) (G : Gate) (u a c : ℕ) (rows : List Text) → Sized d.session → d.session.m < most_gates
    → with_row (laid d w (arity G) G.fanins a rows c) (row_line (arity G) u)
    ≡ laid d w (arity G) G.fanins (cover_table (arity G) (rows ++ marks (arity G) u ∷ []) 0x31) (rows ++ marks (arity G) u ∷ []) 0x31
with-row d w G u a c rows r h =
    let t = d.session in
    let k = arity G in
    let q : t.m + 1 - 1 ≡ t.m = omega arith in
    let t' = counted t (t.m + 1) in
    let e = last-arity t k G.fanins a r h in
    let x = cover_table k (rows ++ marks k u ∷ []) 0x31 in
    let s : with_table (with_gate t' t.m k G.fanins a) (t.m + 1 - 1) (cover_table (last_arity (with_gate t' t.m k G.fanins a)) (rows ++ marks k u ∷ []) 0x31)
    ≡ with_gate t' t.m k G.fanins x =
    ap₂ (λ (i j : ℕ). with_table (with_gate t' t.m k G.fanins a) i (cover_table j (rows ++ marks k u ∷ []) 0x31)) q e
    ∙ table-over t' t.m k G.fanins a x in
    ap (λ (z : Session). record { signals = d.signals ++ w ∷ []; outputs = d.outputs; session = z; rows = rows ++ marks k u ∷ []; digit = 0x31 }) s

module _ (d : Draft) (w : Text) (G : Gate) (room : Sized d.session) (more : d.session.m < most_gates) where
  one-row : (T : ℕ) (b : Bool) → bit G.table T ≡ b → (rest : List (List Text))
      → read_blocks (laid_rows d w G T) (cond b (row_line (arity G) T ∷ []) [] ++ rest)
      ≡ read_blocks (laid d w (arity G) G.fanins
      (cover_table (arity G) (marks_in (arity G) G.table T ++ cond b (marks (arity G) T ∷ []) []) (cond b 0x31 (digit_in G.table T)))
      (marks_in (arity G) G.table T ++ cond b (marks (arity G) T ∷ []) []) (cond b 0x31 (digit_in G.table T))) rest
  one-row T true e rest =
      let ms = marks_in (arity G) G.table T in
      let c = digit_in G.table T in
      row_back (laid_rows d w G T) (arity G) T rest (omega arith)
      (last-arity d.session (arity G) G.fanins (cover_table (arity G) ms c) room more) (digit-fits G.table T).0
      ∙ ap (λ (x : Draft). read_blocks x rest) (with-row d w G T (cover_table (arity G) ms c) c ms room more)
  one-row T false e rest = rw (append-nil (marks_in (arity G) G.table T))

  rows_back : (T : ℕ) (rest : List (List Text)) → read_blocks (laid_rows d w G zero) (rows_in G T ++ rest) ≡ read_blocks (laid_rows d w G T) rest
  rows_back zero rest = refl
  rows_back (suc T) rest =
      let l = cond (bit G.table T) (row_line (arity G) T ∷ []) [] in
      ap (read_blocks (laid_rows d w G zero)) (append_assoc (rows_in G T) l rest)
      ∙ rows_back T (l ++ rest)
      ∙ one-row T (bit G.table T) refl rest

-- ## The line of a block

fanin-names : (l : List Text) (w : Text) → fanin_names (l ++ w ∷ []) ≡ l
fanin-names l w =
    let q : length l ≡ length (l ++ w ∷ []) - 1 = simp length-append (omega arith) in
    take_at l (w ∷ []) (length (l ++ w ∷ []) - 1) q

own_name : (l : List Text) (w : Text) → own_names (l ++ w ∷ []) ≡ w ∷ []
own_name l w =
    let q : length l ≡ length (l ++ w ∷ []) - 1 = simp length-append (omega arith) in
    drop_at l (w ∷ []) (length (l ++ w ∷ []) - 1) q

-- the fan-ins and the signal itself, at its end, are different
apart_snoc : (l : List ℕ) (e : ℕ) → ((r : ℕ) → r < length l → get_or l r 0 < e) → Different l → Different (l ++ e ∷ [])
apart_snoc l e f d i j h k q =
    let n = length-append l (e ∷ []) in
    let a = get_or-append l (e ∷ []) 0 i (omega arith) in
    lt-cases j (length l) (omega arith)
    (λ x. let b = get_or-append l (e ∷ []) 0 j x in d i j h x (omega arith))
    (λ x. let b = get_or_at l e [] 0 j (sym x) in let z = f i (omega arith) in omega arith)

small-snoc : (l : List ℕ) (e : ℕ) → e < most_signals → ((r : ℕ) → r < length l → get_or l r 0 < e) → Small (l ++ e ∷ [])
small-snoc l e b f i h =
    let n = length-append l (e ∷ []) in
    lt-cases i (length l) (omega arith)
    (λ x. rw (get_or-append l (e ∷ []) 0 i x) (omega (arith, f i x)))
    (λ x. rw (get_or_at l e [] 0 i (sym x)) b)

block-tests : (d : Draft) (s : ℕ) (G : Gate) → d.signals ≡ map name (below s) → s < most_signals → d.session.m < most_gates → GateFine s G
    → first (block_tests d (ascii ".names" ∷ map name G.fanins ++ name s ∷ [])) ≡ Done
block-tests d s G e b m fine =
    let fs = G.fanins in
    let ws = map name fs ++ name s ∷ [] in
    let n : length ws - 1 ≡ arity G = simp (length-append, length-map) (omega arith) in
    let cl : all clean ws ≡ true =
    all_append clean (map name fs) (name s ∷ []) (names-clean fs (λ i h. let q = fine.early i h in omega arith)) (rw (name-clean s b)) in
    let rep : repeats ws ≡ false = ap repeats (sym (map_snoc name fs s)) ∙ no-repeat (fs ++ s ∷ []) (small-snoc fs s b fine.early) (apart_snoc fs s fine.early fine.apart) in
    clear-i (block_tests d (ascii ".names" ∷ ws)) (
      rw (line-native (ascii ".names" ∷ ws) cl),
      (
        rw (e, fanin-names (map name fs) (name s), own_name (map name fs) (name s), all_known s (omega arith) fs fine.early, unknown-below s (omega arith) s (omega arith) b, rep),
        (rw n (count-i most_fanins (arity G) fine.some fine.few), (count-i most_gates (d.session.m + 1) (omega arith) (omega arith), tt)),
      ),
    )

with-block : (d : Draft) (s : ℕ) (G : Gate) → d.signals ≡ map name (below s) → s < most_signals → GateFine s G
    → with_block d (ascii ".names" ∷ map name G.fanins ++ name s ∷ []) ≡ laid_rows d (name s) G zero
with-block d s G e b fine =
    rw (fanin-names (map name G.fanins) (name s), own_name (map name G.fanins) (name s), e, places-below s (omega arith) G.fanins fine.early, no_rows (arity G) 0 refl)

-- ## The block

-- the draft with the gate and its table
abbrev pub laid_gate : Draft → ℕ → Gate → Draft
laid_gate d s G = laid d (name s) (arity G) G.fanins G.table (marks_in (arity G) G.table (2 ^ arity G)) (digit_in G.table (2 ^ arity G))

pub block_back : (d : Draft) (s : ℕ) (G : Gate) (rest : List (List Text)) → d.signals ≡ map name (below s) → s < most_signals → Sized d.session → d.session.m < most_gates → GateFine s G
    → read_blocks d (block_lines G s ++ rest) ≡ read_blocks (laid_gate d s G) rest
unfolding read_blocks
block_back d s G rest e b room m fine =
    let k = arity G in
    let line = ascii ".names" ∷ map name G.fanins ++ name s ∷ [] in
    ap (λ a. onward a (read_blocks (with_block d line) (rows_in G (2 ^ k) ++ rest))) (block-tests d s G e b m fine)
    ∙ ap (λ (x : Draft). read_blocks x (rows_in G (2 ^ k) ++ rest)) (with-block d s G e b fine)
    ∙ rows_back d (name s) G room m (2 ^ k) rest
    ∙ ap (λ (x : ℕ). read_blocks (laid d (name s) k G.fanins x (marks_in k G.table (2 ^ k)) (digit_in G.table (2 ^ k))) rest)
    (table-back k G.table (digit_in G.table (2 ^ k)) fine.fits (digit-fits G.table (2 ^ k)).1)
