-- Words cut into parts and joined again, and what the parts are like. Assumes nothing.
use mathlib.Core.Path.{◌≡◌, refl, sym, ap, ◌∙◌}
use mathlib.Core.Bool.{true}
use mathlib.Core.List.{List, [], ◌∷◌, ◌++◌, append_assoc}
use Prim.Native.Nat.{ℕ, zero, suc, ◌+◌, ◌-◌, ◌≤◌, ◌<◌}
use native.Mathlib.Omega.{arith}
use lib.Dec.{ltb}
use lib.ListN.{length, get_or, take, drop, set, get_or-append}
use lib.Seq.{take-add, take_at, drop_at, drop-drop, take-set-le, take-set-lt, drop-set-lt, drop-set-add}
use borrow.Author.Tests.{lt-ltb}
use Rattle.bits.specs.Lists.{Bytes}
use Rattle.network.specs.declared.Session.{Session}
use Rattle.network.specs.Valid.{Sized, Narrow}
use Rattle.packed.specs.Packed.{bytes_held, words_held, packed_of, part, arity_start, session_words, byte_words}
use Rattle.packed.proofs.Reading.{length-bytes}

-- what stands at a place, and what stands behind it
pub cut : (ws xs ys : List ℕ) (at n : ℕ) → drop at ws ≡ xs ++ ys → length xs ≡ n → (xs ≡ part ws at n) × (drop (at + n) ws ≡ ys)
cut ws xs ys at n e k =
    (sym (ap (take n) e ∙ take_at xs ys n k), sym (drop-drop n at ws) ∙ ap (drop n) e ∙ drop_at xs ys n k)

pub join : (ws : List ℕ) (at m n : ℕ) → part ws at m ++ part ws (at + m) n ≡ part ws at (m + n)
join ws at m n =
    sym (take-add m n (drop at ws) ∙ ap (λ (l : List ℕ). part ws at m ++ take n l) (drop-drop m at ws))

pub regroup : (a b c d e f g h : List ℕ) → (a ++ b ++ c) ++ (d ++ e ++ f ++ g) ++ h ≡ a ++ (b ++ (c ++ (d ++ (e ++ (f ++ (g ++ h))))))
regroup a b c d e f g h = simp append_assoc

-- the first three one by one
pub three : (ws : List ℕ) → 3 ≤ length ws → get_or ws 0 0 ∷ get_or ws 1 0 ∷ get_or ws 2 0 ∷ part ws arity_start (session_words - arity_start) ≡ take session_words ws
three [] h = let z : ⊥ = omega arith in absurd z
three (x ∷ []) h = let z : ⊥ = omega arith in absurd z
three (x ∷ y ∷ []) h = let z : ⊥ = omega arith in absurd z
three (x ∷ y ∷ z ∷ ws) h = refl

-- one place set: a part without it stays, and the part that has it has it set
pub part-before : (ws : List ℕ) (at c i v : ℕ) → at + c ≤ i → part (set ws i v) at c ≡ part ws at c
part-before ws at c i v h =
    let e : i ≡ at + (i - at) = omega arith in
    ap (λ (j : ℕ). part (set ws j v) at c) e ∙ ap (take c) (drop-set-add at ws (i - at) v) ∙ take-set-le c (drop at ws) (i - at) v (omega arith)

pub part-behind : (ws : List ℕ) (at c i v : ℕ) → i < at → part (set ws i v) at c ≡ part ws at c
part-behind ws at c i v h = ap (take c) (drop-set-lt at ws i v h)

pub part-set : (ws : List ℕ) (at c k v : ℕ) → k < c → part (set ws (at + k) v) at c ≡ set (part ws at c) k v
part-set ws at c k v h = ap (take c) (drop-set-add at ws k v) ∙ take-set-lt c (drop at ws) k v h

-- ## Bytes

bytes-cons : (x : ℕ) (xs : List ℕ) → x < 256 → Bytes xs → Bytes (x ∷ xs)
bytes-cons x xs h b zero = h
bytes-cons x xs h b (suc i) = b i

bytes-append : (xs ys : List ℕ) → Bytes xs → Bytes ys → Bytes (xs ++ ys)
bytes-append [] ys b c i = c i
bytes-append (x ∷ xs) ys b c zero = b 0
bytes-append (x ∷ xs) ys b c (suc i) = bytes-append xs ys (λ j. b (suc j)) c i

bytes-front : (xs ys zs : List ℕ) → Bytes xs → (i : ℕ) → i < length xs → get_or (xs ++ ys ++ zs) i 0 < 256
bytes-front xs ys zs b i l = rw (append_assoc xs ys zs, get_or-append xs (ys ++ zs) 0 i l) (b i)

bytes-held : (s : Session) → Narrow s → Bytes (bytes_held s)
bytes-held s b =
    bytes-append (s.n ∷ s.m ∷ s.p ∷ s.arity ++ s.fanins) s.outputs
    (bytes-append (s.n ∷ s.m ∷ s.p ∷ s.arity) s.fanins
    (bytes-cons s.n (s.m ∷ s.p ∷ s.arity) b.counts.0
    (bytes-cons s.m (s.p ∷ s.arity) b.counts.1
    (bytes-cons s.p s.arity b.counts.2 b.arities)))
    b.slots)
    b.outs

pub fits : (s : Session) (behind : List ℕ) → Sized s → Narrow s → (i : ℕ) → i < byte_words → ltb (get_or (packed_of s ++ behind) i 0) 256 ≡ true
unfolding packed_of
fits s behind z b i l =
    let n = length-bytes s z in
    lt-ltb (get_or (packed_of s ++ behind) i 0) 256 (bytes-front (bytes_held s) (words_held s) behind (bytes-held s b) i (omega arith))
