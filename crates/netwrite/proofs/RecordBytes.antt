-- The records of a file, laid one after the other, and how long they are. Assumes nothing.
use mathlib.Core.Path.{◌≡◌, refl, ap, ◌∙◌}
use mathlib.Core.Bool.{true, false}
use mathlib.Core.List.{List, [], ◌∷◌, ◌++◌}
use Prim.Native.Nat.{ℕ, zero, suc, ◌+◌, ◌*◌, ◌-◌, ◌%◌, ◌≤◌, ◌<◌}
use native.Mathlib.Numerals.{add-one}
use native.Mathlib.Omega.{arith}
use lib.Dec.{eqb}
use lib.ListN.{length, get_or, take, drop, length-append}
use lib.Seq.{take-append-add, drop-cons, length-take-le}
use Rattle.std.specs.List.{list_all}
use Rattle.bits.specs.Bounds.{gate_places}
use Rattle.bits.specs.Lists.{bytes_in}
use Rattle.bits.proofs.Ranges.{length-places}
use Rattle.bits.proofs.Bytes.{length-bytes, take-bytes}
use Rattle.buffer.specs.Laid.{Laid}
use Rattle.buffer.proofs.Laying.{Pending, pending-start, pending-step, laid-append, part-places}
use Rattle.network.specs.declared.Session.{Session}
use Rattle.network.specs.Bounds.{excluded_words, most_set_bytes}
use Rattle.network.specs.State.{arity_of, fanins_of}
use Rattle.network.specs.Load.{set_bytes}
use Rattle.network.specs.Write.{word_bytes, all_zero, header_bytes, excluded_bytes, form_for, gate_bytes, gates_bytes, output_bytes, outputs_bytes, bytes_of}
use Rattle.network.proofs.Bytes.{length-words}

-- ## Words

-- a whole word
pub words-next : (ws : List ℕ) (left w : ℕ) → 8 ≤ left → w < length ws
    → take left (word_bytes (drop w ws)) ≡ bytes_in 8 (get_or ws w 0) ++ take (left - 8) (word_bytes (drop (w + 1) ws))
words-next ws left w l k =
    let q : left ≡ 8 + (left - 8) = omega arith in
    let rest = word_bytes (drop (suc w) ws) in
    rw (drop-cons ws w 0 k, add-one)
    (ap (λ (k : ℕ). take k (bytes_in 8 (get_or ws w 0) ++ rest)) q ∙ take-append-add (bytes_in 8 (get_or ws w 0)) rest (left - 8))

-- what is left of one
pub words-part : (ws : List ℕ) (left w : ℕ) → left < 8 → w < length ws → take left (word_bytes (drop w ws)) ≡ bytes_in left (get_or ws w 0)
words-part ws left w l k = rw (drop-cons ws w 0 k) (take-bytes left 8 (get_or ws w 0) (word_bytes (drop (suc w) ws)) (omega arith))

pub length_part : (ws : List ℕ) (z : ℕ) → length ws ≡ excluded_words → z ≤ most_set_bytes → length (take z (word_bytes ws)) ≡ z
length_part ws z e h = length-take-le z (word_bytes ws) (let n = length-words ws in omega arith)

-- ## The excluded set

pub all_zero-is : (ws : List ℕ) → all_zero ws ≡ list_all (λ w. eqb w 0) ws
all_zero-is [] = refl
all_zero-is (w ∷ ws) = rw (all_zero-is ws)

-- left out, or two bytes and the set
pub excluded-none : (s : Session) → all_zero s.excluded ≡ true → excluded_bytes s ≡ []
unfolding excluded_bytes
excluded-none s e = rw e

pub excluded-some : (s : Session) → all_zero s.excluded ≡ false → excluded_bytes s ≡ 0x4E ∷ 0x58 ∷ take (set_bytes s.n) (word_bytes s.excluded)
unfolding excluded_bytes
excluded-some s e = rw e

pub length-excluded : (s : Session) → length s.excluded ≡ excluded_words → set_bytes s.n ≤ most_set_bytes → all_zero s.excluded ≡ false → length (excluded_bytes s) ≡ 2 + set_bytes s.n
length-excluded s w h e = let n = length_part s.excluded (set_bytes s.n) w h in rw (excluded-some s e) (omega arith)

pub excluded-laid : {b b₁ b₂ : List ℕ} {at r₁ r₂ : ℕ} (s : Session) (z : ℕ) → all_zero s.excluded ≡ false → z ≡ set_bytes s.n
    → Laid b at (0x4E ∷ 0x58 ∷ []) b₁ r₁ → Laid b₁ r₁ (take z (word_bytes s.excluded)) b₂ r₂ → Laid b at (excluded_bytes s) b₂ r₂
excluded-laid s z e q m w = rw (excluded-some s e) (laid-append m (rw q at w))

-- ## Gates and outputs

pub length-gate : (s : Session) (g : ℕ) → length (gate_bytes s g) ≡ 3 + arity_of s g + (form_for (arity_of s g)).bytes
unfolding gate_bytes
length-gate s g =
    let k = arity_of s g in
    let t = get_or s.current g 0 in
    let n = length-places k (λ r. get_or s.fanins (gate_places * g + r) 0) in
    let q = length-append (fanins_of s g) (bytes_in (form_for k).bytes t) in
    let b = length-bytes (form_for k).bytes t in
    omega arith

-- the slice of a gate's fan-ins
pub fanins-part : (s : Session) (g : ℕ) → gate_places * g + arity_of s g ≤ length s.fanins → take (gate_places * g + arity_of s g - gate_places * g) (drop (gate_places * g) s.fanins) ≡ fanins_of s g
fanins-part s g h =
    let q : gate_places * g + arity_of s g - gate_places * g ≡ arity_of s g = omega arith in
    rw q (part-places s.fanins (gate_places * g) (arity_of s g) h)

pub length-fanins : (s : Session) (g : ℕ) → gate_places * g + arity_of s g ≤ length s.fanins → length (take (gate_places * g + arity_of s g - gate_places * g) (drop (gate_places * g) s.fanins)) ≡ arity_of s g
length-fanins s g h = ap length (fanins-part s g h) ∙ length-places (arity_of s g) (λ r. get_or s.fanins (gate_places * g + r) 0)

-- the opening, the fan-ins, the table
pub gate-laid : {b b₁ b₂ b₃ : List ℕ} {at r₁ r₂ r₃ : ℕ} (s : Session) (g second bytes : ℕ) → gate_places * g + arity_of s g ≤ length s.fanins
    → second ≡ (form_for (arity_of s g)).opening % 256 → bytes ≡ (form_for (arity_of s g)).bytes
    → Laid b at (0x4E ∷ second ∷ arity_of s g ∷ []) b₁ r₁
    → Laid b₁ r₁ (take (gate_places * g + arity_of s g - gate_places * g) (drop (gate_places * g) s.fanins)) b₂ r₂
    → Laid b₂ r₂ (bytes_in bytes (get_or s.current g 0)) b₃ r₃
    → Laid b at (gate_bytes s g) b₃ r₃
unfolding gate_bytes
gate-laid s g second bytes h p q o f t = laid-append (laid-append (rw p at o) (rw (fanins-part s g h) at f)) (rw q at t)

pub gates-next : (s : Session) (m g : ℕ) → g < m → gates_bytes s (m - g) g ≡ gate_bytes s g ++ gates_bytes s (m - (g + 1)) (g + 1)
gates-next s m g l = let q : m - g ≡ suc (m - (g + 1)) = omega arith in rw q

pub gates-done : (s : Session) (m g : ℕ) → m ≤ g → gates_bytes s (m - g) g ≡ []
gates-done s m g h = let q : m - g ≡ 0 = omega arith in rw q

pub outputs-next : (s : Session) (p i : ℕ) → i < p
    → outputs_bytes s (p - i) i ≡ (0x4E ∷ 0x4F ∷ get_or s.outputs i 0 ∷ []) ++ outputs_bytes s (p - (i + 1)) (i + 1)
unfolding output_bytes
outputs-next s p i l = let q : p - i ≡ suc (p - (i + 1)) = omega arith in rw q

pub outputs-done : (s : Session) (p i : ℕ) → p ≤ i → outputs_bytes s (p - i) i ≡ []
outputs-done s p i h = let q : p - i ≡ 0 = omega arith in rw q

pub length-outputs : (s : Session) (c i : ℕ) → length (outputs_bytes s c i) ≡ 3 * c
unfolding output_bytes
length-outputs s zero i = refl
length-outputs s (suc c) i = let h = length-outputs s c (i + 1) in omega arith

-- ## The file

abbrev pub after_excluded : Session → List ℕ
after_excluded s = gates_bytes s s.m 0 ++ outputs_bytes s s.p 0

pub after-header : {b b₁ : List ℕ} {r : ℕ} (s : Session) → Laid b 0 (0x4E ∷ 0x49 ∷ s.n ∷ s.m ∷ s.p ∷ []) b₁ r
    → Pending b 0 (bytes_of s) b₁ r (excluded_bytes s ++ after_excluded s)
unfolding bytes_of header_bytes
after-header {b} s l = pending-step (excluded_bytes s ++ after_excluded s) (pending-start b (bytes_of s) 0) refl l

pub file-laid : {b b₁ b₂ b₃ b₄ : List ℕ} {r₁ r₂ r₃ r₄ : ℕ} (s : Session) → Laid b 0 (0x4E ∷ 0x49 ∷ s.n ∷ s.m ∷ s.p ∷ []) b₁ r₁
    → Laid b₁ r₁ (excluded_bytes s) b₂ r₂ → Laid b₂ r₂ (gates_bytes s s.m 0) b₃ r₃ → Laid b₃ r₃ (outputs_bytes s s.p 0) b₄ r₄
    → Laid b 0 (bytes_of s) b₄ r₄
unfolding bytes_of header_bytes
file-laid s h e g o = laid-append h (laid-append e (laid-append g o))

pub length-file : (s : Session) → length (bytes_of s) ≡ 5 + length (excluded_bytes s) + length (gates_bytes s s.m 0) + 3 * s.p
unfolding bytes_of header_bytes
length-file s =
    let a = length-append (excluded_bytes s) (after_excluded s) in
    let b = length-append (gates_bytes s s.m 0) (outputs_bytes s s.p 0) in
    let c = length-outputs s s.p 0 in
    omega arith
