-- Words read place after place, and tested one after the other. Assumes nothing.
use mathlib.Core.Path.{◌≡◌, refl, sym, ap, ◌∙◌}
use mathlib.Core.Bool.{Bool, true, false, ◌&&◌}
use mathlib.Core.List.{List, [], ◌∷◌, ◌++◌, append_assoc}
use Prim.Native.Nat.{ℕ, zero, suc, ◌+◌, ◌-◌, ◌≤◌, ◌<◌}
use native.Mathlib.Numerals.{add-one}
use native.Mathlib.Omega.{arith}
use lib.Bits.{bit_or, or_lt, or_add_and, and_le_l, and_le_r}
use lib.Dec.{ltb}
use lib.ListN.{length, get_or, take, drop, set, length-append, length-drop}
use lib.Seq.{take-suc, drop-cons, get_or-drop, set_at, length-take-le}
use borrow.Author.Tests.{lt-ltb, le-ltb, ltb-true}
use Rattle.bits.specs.Range.{every}
use Rattle.bits.proofs.Ranges.{and_l, and_r, and_i, and-true, and_assoc, iff}
use Rattle.std.specs.Prelude.{Err}
use Rattle.network.specs.Answer.{Answer, giving}
use Rattle.network.specs.declared.Session.{Session}
use Rattle.network.specs.declared.Refusal.TheVariants.{BufferTooShort, InvalidState}
use Rattle.network.specs.Bounds.{most_gates, most_outputs, fanin_places, excluded_words}
use Rattle.network.specs.State.{state_test}
use Rattle.network.specs.Valid.{Sized}
use Rattle.network.proofs.TestLaws.{alone}
use Rattle.packed.specs.Packed.{bytes_held, words_held, byte_words, part, session_in, all_bytes, bytes_test, words_test, unpack_of, arity_start, fanins_start, outputs_start, excluded_start, loaded_start, current_start, open_start, session_words}

-- ## Reading: the words from place `at` on into b₀, of which the first i are read

pub length_part : (ws : List ℕ) (at c : ℕ) → at + c ≤ length ws → length (part ws at c) ≡ c
length_part ws at c h = length-take-le c (drop at ws) (let n = length-drop at ws in omega arith)

part-more : (ws : List ℕ) (at i : ℕ) → at + i < length ws → part ws at (i + 1) ≡ part ws at i ++ get_or ws (at + i) 0 ∷ []
part-more ws at i h =
    let n = length-drop at ws in
    let l : i < length (drop at ws) = omega arith in
    rw (add-one, take-suc (drop at ws) i 0 l, get_or-drop at ws i 0)

module _ (ws b₀ b : List ℕ) (at i : ℕ) (e : b ≡ part ws at i ++ drop i b₀) where
  pub read_more : at + length b₀ ≤ length ws → i < length b₀ → set b i (get_or ws (at + i) 0) ≡ part ws at (i + 1) ++ drop (i + 1) b₀
  read_more r h =
      let x = get_or ws (at + i) 0 in
      ap (λ (l : List ℕ). set l i x) (rw (drop-cons b₀ i 0 h) at e)
      ∙ set_at (part ws at i) (get_or b₀ i 0) (drop (suc i) b₀) x i (length_part ws at i (omega arith))
      ∙ sym (rw (part-more ws at i (omega arith), add-one) (append_assoc (part ws at i) (x ∷ []) (drop (suc i) b₀)))

-- ## Testing

-- two words joined by or fit in a byte where both do
pub or-fits : (a b : ℕ) → ltb (bit_or a b) 256 ≡ (ltb a 256 && ltb b 256)
or-fits a b =
    iff (ltb (bit_or a b) 256) (ltb a 256 && ltb b 256)
    (λ e.
    let h = ltb-true (bit_or a b) 256 e in
    and_i (ltb a 256) (ltb b 256) (lt-ltb a 256 (omega (arith, or_add_and a b, and_le_r a b))) (lt-ltb b 256 (omega (arith, or_add_and a b, and_le_l a b))))
    (λ e. lt-ltb (bit_or a b) 256 (or_lt 8 a b (ltb-true a 256 (and_l (ltb a 256) (ltb b 256) e)) (ltb-true b 256 (and_r (ltb a 256) (ltb b 256) e))))

-- one more number
bytes-more : (xs : List ℕ) (y : ℕ) → all_bytes (xs ++ y ∷ []) ≡ (all_bytes xs && ltb y 256)
bytes-more [] y = and-true (ltb y 256)
bytes-more (x ∷ xs) y = ap (λ (b : Bool). ltb x 256 && b) (bytes-more xs y) ∙ sym (and_assoc (ltb x 256) (all_bytes xs) (ltb y 256))

-- the first c numbers are bytes where each is
pub bytes-every : (ws : List ℕ) (c : ℕ) → c ≤ length ws → all_bytes (take c ws) ≡ every c (λ i. ltb (get_or ws i 0) 256)
bytes-every ws zero h = refl
bytes-every ws (suc c) h =
    rw (take-suc ws c 0 (omega arith)) (bytes-more (take c ws) (get_or ws c 0) ∙ ap (λ (b : Bool). b && ltb (get_or ws c 0) 256) (bytes-every ws c (omega arith)))

-- ## The whole session

pub length-bytes : (s : Session) → Sized s → length (bytes_held s) ≡ byte_words
length-bytes s z =
    let a = z.arities in
    let b = z.slots in
    let c = z.outs in
    simp length-append (omega arith)

pub length-words : (s : Session) → Sized s → length (words_held s) ≡ session_words - byte_words
length-words s z =
    let a = z.words in
    let b = z.loads in
    let c = z.currents in
    let d = z.opens in
    simp length-append (omega arith)

pub reads : (ws : List ℕ) {arity fanins outputs excluded loaded current opens : List ℕ}
    → arity ≡ part ws arity_start most_gates → fanins ≡ part ws fanins_start fanin_places → outputs ≡ part ws outputs_start most_outputs
    → excluded ≡ part ws excluded_start excluded_words → loaded ≡ part ws loaded_start most_gates → current ≡ part ws current_start most_gates → opens ≡ part ws open_start most_gates
    → record {
      n = get_or ws 0 0;
      m = get_or ws 1 0;
      p = get_or ws 2 0;
      excluded = excluded;
      arity = arity;
      fanins = fanins;
      loaded = loaded;
      current = current;
      open_tables = opens;
      outputs = outputs;
    }
    ≡ session_in ws
unfolding session_in
reads ws a f o e l c u = rw (a, f, o, e, l, c, u)

-- ## The tests of lent words

module _ (ws : List ℕ) where
  pub too_short : length ws < session_words → Err BufferTooShort ≡ unpack_of ws
  unfolding unpack_of words_test
  too_short h = rw (lt-ltb (length ws) session_words h)

  abbrev fitting : Bool
  fitting = every byte_words (λ i. ltb (get_or ws i 0) 256)

  pub no_byte : session_words ≤ length ws → fitting ≡ false → Err InvalidState ≡ unpack_of ws
  unfolding unpack_of words_test bytes_test
  no_byte h e = rw (le-ltb (length ws) session_words h, bytes-every ws byte_words (omega arith), e)

  pub tested : {v a : Answer} (s : Session) → session_words ≤ length ws → fitting ≡ true → s ≡ session_in ws → v ≡ state_test s → v ≡ a → giving a s ≡ unpack_of ws
  unfolding unpack_of words_test bytes_test
  tested {v} {a} s h e q k i =
      rw (le-ltb (length ws) session_words h, bytes-every ws byte_words (omega arith), e, ← q, ← k, i) (ap (λ (b : Answer). giving b s) (alone a))
