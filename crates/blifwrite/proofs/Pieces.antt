-- The pieces of a text: the bytes of each, how long it is, and how they are laid one after the other. Assumes nothing.
use mathlib.Core.Path.{◌≡◌, refl, ap, ap₂, ◌∙◌}
use mathlib.Core.Bool.{true, false}
use mathlib.Core.List.{List, [], ◌∷◌, ◌++◌}
use Prim.Native.Nat.{ℕ, zero, suc, ◌+◌, ◌*◌, ◌^◌, ◌-◌, ◌≤◌, ◌<◌}
use native.Mathlib.Numerals.{add-one}
use native.Mathlib.Nat.{sub-zero}
use native.Mathlib.Omega.{arith}
use lib.Dec.{ltb}
use lib.ListN.{length, get_or, set, take, drop, length-append}
use lib.Pow.{pow_mono}
use lib.Seq.{get_or-take, length-take-le}
use borrow.Author.Tests.{lt-ltb}
use Rattle.bits.specs.Bounds.{most_inputs, gate_places}
use Rattle.bits.specs.Range.{num}
use Rattle.bits.specs.Bit.{bit}
use Rattle.bits.proofs.Ranges.{by_cases, length-places, places-at}
use Rattle.buffer.specs.Laid.{Laid}
use Rattle.buffer.proofs.Laying.{Within, laid-append, laid-within, stored, part-places}
use Rattle.network.specs.declared.Session.{Session}
use Rattle.network.specs.Bounds.{most_fanins, most_signals, most_entries}
use Rattle.network.specs.State.{arity_of, fanins_of}
use Rattle.text.specs.Ascii.{ascii}
use Rattle.text.specs.Numbers.{decimal}
use Rattle.blif.specs.Write.{marks, most_block_bytes, most_blif_bytes}
use Rattle.blifcopies.specs.Ready.{fanin_at, Ready}
use Rattle.blifwrite.specs.Pieces.{name_bytes, names_bytes, row_bytes, entry_bytes, cover_bytes, opening_bytes, block_bytes, gate_bytes, blocks_bytes, head_bytes, text_bytes, most_name_bytes, most_row_bytes, most_head_bytes}

-- ## In a loop: f c is what c turns lay, g c what the next one lays

pub laid_next : {b b₁ b₂ : List ℕ} {at r₁ r₂ : ℕ} (f g : ℕ → List ℕ) (c : ℕ) → f (suc c) ≡ f c ++ g c → Laid b at (f c) b₁ r₁ → Laid b₁ r₁ (g c) b₂ r₂
    → Laid b at (f (c + 1)) b₂ r₂
laid_next f g c e p q = rw (add-one c, e) (laid-append p q)

-- ## Names

-- a number of two digits at the most
pub length-small : (x : ℕ) → x < 100 → length (decimal x) ≤ 2
unfolding decimal
length-small x h = by_cases (ltb x 10) (λ a. rw a (omega arith)) (λ a. rw (a, lt-ltb x 100 h) (omega arith))

pub name-laid : {b b₁ b₂ : List ℕ} {at r₁ r₂ : ℕ} (x : ℕ) → Laid b at (ascii " s") b₁ r₁ → Laid b₁ r₁ (decimal x) b₂ r₂ → Laid b at (name_bytes x) b₂ r₂
unfolding name_bytes
name-laid x p q = laid-append p q

length-name : (x : ℕ) → x < most_signals → length (name_bytes x) ≤ most_name_bytes
unfolding name_bytes
length-name x h = omega (arith, length-small x (omega arith))

pub name-within : {b b₁ : List ℕ} {at r : ℕ} (x : ℕ) → x < most_signals → Laid b at (name_bytes x) b₁ r → Within b b₁ at r most_name_bytes
name-within x h l = laid-within most_name_bytes (length-name x h) l

module _ (f : ℕ → ℕ) where
  length-names : (c : ℕ) → ((i : ℕ) → i < c → f i < most_signals) → length (names_bytes c f) ≤ most_name_bytes * c
  length-names zero h = omega arith
  length-names (suc c) h =
      let n = length-append (names_bytes c f) (name_bytes (f c)) in
      let k = length-names c (λ i l. h i (omega arith)) in
      let l = length-name (f c) (h c (omega arith)) in
      omega arith

  pub names-within : {b b₁ : List ℕ} {at r : ℕ} (c : ℕ) → ((i : ℕ) → i < c → f i < most_signals) → Laid b at (names_bytes c f) b₁ r
      → Within b b₁ at r (most_name_bytes * c)
  names-within c h l = laid-within (most_name_bytes * c) (length-names c h) l

names-ext : (c : ℕ) (f g : ℕ → ℕ) → ((i : ℕ) → i < c → f i ≡ g i) → names_bytes c f ≡ names_bytes c g
names-ext zero f g h = refl
names-ext (suc c) f g h = rw (names-ext c f g (λ i l. h i (omega arith)), h c (omega arith))

-- ## Rows

length-marks : (k t : ℕ) → length (marks k t) ≡ k
length-marks k t = length-places k (λ r. 0x30 + num (bit t r))

pub marks-within : {b b₁ : List ℕ} {at a : ℕ} (k t : ℕ) → Laid b at (marks k t) b₁ a → Within b b₁ at a k
marks-within k t l = laid-within k (let n = length-marks k t in omega arith) l

pub mark-next : {b b₁ : List ℕ} {at a : ℕ} (r t v : ℕ) → Laid b at (marks r t) b₁ a → v ≡ 0x30 + num (bit t r)
    → Laid b at (marks (r + 1) t) (set b₁ a v) (a + 1)
mark-next {b} {b₁} {at} {a} r t v l e =
    laid_next (λ j. marks j t) (λ j. (0x30 + num (bit t j)) ∷ []) r refl l (stored b₁ a (0x30 + num (bit t r)) v e)

pub row_laid : {b b₁ b₂ : List ℕ} {at r₁ r₂ : ℕ} (k t : ℕ) → Laid b at (marks k t) b₁ r₁ → Laid b₁ r₁ (ascii " 1\n") b₂ r₂ → Laid b at (row_bytes k t) b₂ r₂
unfolding row_bytes
row_laid k t p q = laid-append p q

length-row : (k t : ℕ) → length (row_bytes k t) ≡ k + 3
unfolding row_bytes
length-row k t = let n = length-append (marks k t) (ascii " 1\n") in let l = length-marks k t in omega arith

-- ## Entries

pub entry-one : (k table t : ℕ) → bit table t ≡ true → entry_bytes k table t ≡ row_bytes k t
unfolding entry_bytes
entry-one k table t e = rw e

pub entry-none : (k table t : ℕ) → bit table t ≡ false → entry_bytes k table t ≡ []
unfolding entry_bytes
entry-none k table t e = rw e

length-entry : (k table t : ℕ) → length (entry_bytes k table t) ≤ k + 3
length-entry k table t =
    by_cases (bit table t) (λ e. let n = length-row k t in rw (entry-one k table t e) (omega arith)) (λ e. rw (entry-none k table t e) (omega arith))

pub entries-few : (k : ℕ) → k ≤ most_fanins → 2 ^ k ≤ most_entries
entries-few k h = pow_mono {j = most_fanins} h

module _ (k table : ℕ) where
  length-cover : (t : ℕ) → k ≤ most_fanins → length (cover_bytes k table t) ≤ most_row_bytes * t
  length-cover zero h = omega arith
  length-cover (suc t) h =
      let n = length-append (cover_bytes k table t) (entry_bytes k table t) in
      let c = length-cover t h in
      let l = length-entry k table t in
      omega arith

  pub cover-within : {b b₁ : List ℕ} {at r : ℕ} (t : ℕ) → k ≤ most_fanins → Laid b at (cover_bytes k table t) b₁ r → Within b b₁ at r (most_row_bytes * t)
  cover-within t h l = laid-within (most_row_bytes * t) (length-cover t h) l

-- ## Blocks

module _ (k : ℕ) (f : ℕ → ℕ) (x : ℕ) where
  pub opening-laid : {b b₁ b₂ b₃ b₄ : List ℕ} {at r₁ r₂ r₃ r₄ : ℕ}
      → Laid b at (ascii ".names") b₁ r₁ → Laid b₁ r₁ (names_bytes k f) b₂ r₂ → Laid b₂ r₂ (name_bytes x) b₃ r₃
      → Laid b₃ r₃ (ascii "\n") b₄ r₄ → Laid b at (opening_bytes k f x) b₄ r₄
  unfolding opening_bytes
  opening-laid p q u v = laid-append (laid-append (laid-append p q) u) v

  length-opening : ((i : ℕ) → i < k → f i < most_signals) → x < most_signals → length (opening_bytes k f x) ≤ 7 + most_name_bytes * (k + 1)
  unfolding opening_bytes
  length-opening h l =
      let n = length-append (names_bytes k f ++ name_bytes x) (ascii "\n") in
      let m = length-append (names_bytes k f) (name_bytes x) in
      let a = length-names f k h in
      let b = length-name x l in
      omega arith

  pub opening-within : {b b₁ : List ℕ} {at r : ℕ} → ((i : ℕ) → i < k → f i < most_signals) → x < most_signals → Laid b at (opening_bytes k f x) b₁ r
      → Within b b₁ at r (7 + most_name_bytes * (k + 1))
  opening-within h l o = laid-within (7 + most_name_bytes * (k + 1)) (length-opening h l) o

module _ (s : Session) (g : ℕ) where
  -- the slice of the fan-ins
  abbrev pub part : List ℕ
  part = take (gate_places * g + arity_of s g - gate_places * g) (drop (gate_places * g) s.fanins)

  part-is : gate_places * g + arity_of s g ≤ length s.fanins → part ≡ fanins_of s g
  part-is h =
      let q : gate_places * g + arity_of s g - gate_places * g ≡ arity_of s g = omega arith in
      rw q (part-places s.fanins (gate_places * g) (arity_of s g) h)

  pub part-long : gate_places * g + arity_of s g ≤ length s.fanins → length part ≡ arity_of s g
  part-long h = ap length (part-is h) ∙ length-places (arity_of s g) (fanin_at s g)

  part_at : gate_places * g + arity_of s g ≤ length s.fanins → (r : ℕ) → r < arity_of s g → get_or part r 0 ≡ fanin_at s g r
  part_at h r l = ap (λ (fs : List ℕ). get_or fs r 0) (part-is h) ∙ places-at 0 (arity_of s g) (fanin_at s g) r l

  pub part_small : gate_places * g + arity_of s g ≤ length s.fanins → ((r : ℕ) → r < arity_of s g → fanin_at s g r < most_signals)
      → (r : ℕ) → r < length part → get_or part r 0 < most_signals
  part_small h small r l =
      let n = part-long h in
      let k : r < arity_of s g = omega arith in
      let e = part_at h r k in
      let f = small r k in
      omega arith

  opening-part : (x : ℕ) → gate_places * g + arity_of s g ≤ length s.fanins
      → opening_bytes (length part) (λ r. get_or part r 0) x ≡ opening_bytes (arity_of s g) (fanin_at s g) x
  unfolding opening_bytes
  opening-part x h = rw (part-long h, names-ext (arity_of s g) (λ r. get_or part r 0) (fanin_at s g) (part_at h))

  -- the block of these fan-ins is the gate's
  pub block-part : (x table : ℕ) → gate_places * g + arity_of s g ≤ length s.fanins
      → block_bytes (length part) (λ r. get_or part r 0) x table ≡ block_bytes (arity_of s g) (fanin_at s g) x table
  unfolding block_bytes
  block-part x table h = ap₂ (λ (a b : List ℕ). a ++ b) (opening-part x h) (ap (λ (k : ℕ). cover_bytes k table (2 ^ k)) (part-long h))

  length-block : Ready s → g < s.m → length (gate_bytes s g) ≤ most_block_bytes
  unfolding block_bytes
  length-block v h =
      let k = arity_of s g in
      let few = v.few g h in
      let ins = v.inputs in
      let most = v.gates in
      let n = length-append (opening_bytes k (fanin_at s g) (s.n + g)) (cover_bytes k (get_or s.current g 0) (2 ^ k)) in
      let a = length-opening k (fanin_at s g) (s.n + g) (λ r l. v.early g r h l) (omega arith) in
      let b = length-cover k (get_or s.current g 0) (2 ^ k) few in
      let e = entries-few k few in
      omega arith

module _ (s : Session) where
  length-blocks : (g : ℕ) → Ready s → g ≤ s.m → length (blocks_bytes s g) ≤ most_block_bytes * g
  length-blocks zero v h = omega arith
  length-blocks (suc g) v h =
      let n = length-append (blocks_bytes s g) (gate_bytes s g) in
      let a = length-blocks g v (omega arith) in
      let b = length-block s g v (omega arith) in
      omega arith

  pub blocks-within : {b b₁ : List ℕ} {at r : ℕ} (g : ℕ) → Ready s → g ≤ s.m → Laid b at (blocks_bytes s g) b₁ r → Within b b₁ at r (most_block_bytes * g)
  blocks-within g v h l = laid-within (most_block_bytes * g) (length-blocks g v h) l

-- ## The lines before the blocks

-- the first n of a list
module _ (l : List ℕ) (n : ℕ) (h : n ≤ length l) where
  pub first-long : length (take (n - 0) l) ≡ n
  first-long = rw sub-zero (length-take-le n l h)

  pub first_small : ((i : ℕ) → i < n → get_or l i 0 < most_signals) → (i : ℕ) → i < length (take (n - 0) l) → get_or (take (n - 0) l) i 0 < most_signals
  first_small small i k =
      let e = first-long in
      let j : i < n = omega arith in
      rw (sub-zero, get_or-take n l i 0 j) (small i j)

  pub first-names : names_bytes (length (take (n - 0) l)) (λ i. get_or (take (n - 0) l) i 0) ≡ names_bytes n (λ i. get_or l i 0)
  first-names = rw first-long (names-ext n (λ i. get_or (take (n - 0) l) i 0) (λ i. get_or l i 0) (λ i k. rw (sub-zero, get_or-take n l i 0 k)))

-- the names of the inputs and of the outputs
pub inputs-within : {b b₁ : List ℕ} {at r : ℕ} (n : ℕ) → n ≤ most_inputs → Laid b at (names_bytes n (λ i. i)) b₁ r → Within b b₁ at r (most_name_bytes * n)
inputs-within n h l = names-within (λ i. i) n (λ i k. omega arith) l

module _ (s : Session) where
  pub head-laid : {b b₁ b₂ b₃ b₄ b₅ : List ℕ} {r₁ r₂ r₃ r₄ r₅ : ℕ}
      → Laid b 0 (ascii ".model s\n.inputs") b₁ r₁ → Laid b₁ r₁ (names_bytes s.n (λ i. i)) b₂ r₂ → Laid b₂ r₂ (ascii "\n.outputs") b₃ r₃
      → Laid b₃ r₃ (names_bytes s.p (λ i. get_or s.outputs i 0)) b₄ r₄ → Laid b₄ r₄ (ascii "\n") b₅ r₅ → Laid b 0 (head_bytes s) b₅ r₅
  unfolding head_bytes
  head-laid p q u v w = laid-append (laid-append (laid-append (laid-append p q) u) v) w

  length-head : Ready s → length (head_bytes s) ≤ most_head_bytes
  unfolding head_bytes
  length-head v =
      let a = names_bytes s.n (λ i. i) in
      let o = names_bytes s.p (λ i. get_or s.outputs i 0) in
      let h = ascii ".model s\n.inputs" in
      let k = ascii "\n.outputs" in
      let x = length-append (h ++ a ++ k ++ o) (ascii "\n") in
      let y = length-append (h ++ a ++ k) o in
      let z = length-append (h ++ a) k in
      let w = length-append h a in
      let n = v.inputs in
      let p = v.outs in
      let e = length-names (λ i. i) s.n (λ i l. omega arith) in
      let f = length-names (λ i. get_or s.outputs i 0) s.p v.driven in
      omega arith

  pub head-within : {b b₁ : List ℕ} {r : ℕ} → Ready s → Laid b 0 (head_bytes s) b₁ r → Within b b₁ 0 r most_head_bytes
  head-within v l = laid-within most_head_bytes (length-head v) l

  pub text-laid : {b b₁ b₂ b₃ : List ℕ} {r₁ r₂ r₃ : ℕ} → Laid b 0 (head_bytes s) b₁ r₁ → Laid b₁ r₁ (blocks_bytes s s.m) b₂ r₂
      → Laid b₂ r₂ (ascii ".end\n") b₃ r₃ → Laid b 0 (text_bytes s) b₃ r₃
  unfolding text_bytes
  text-laid p q u = laid-append (laid-append p q) u

  pub length-text : Ready s → length (text_bytes s) ≤ most_blif_bytes
  unfolding text_bytes
  length-text v =
      let x = length-append (head_bytes s ++ blocks_bytes s s.m) (ascii ".end\n") in
      let y = length-append (head_bytes s) (blocks_bytes s s.m) in
      let h = length-head v in
      let b = length-blocks s s.m v (omega arith) in
      let m = v.gates in
      omega arith
